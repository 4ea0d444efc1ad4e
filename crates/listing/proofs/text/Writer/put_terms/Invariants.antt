-- `put_terms` meets its contract. The invariant: the terms that are left, written behind what stands, are the whole.
use mathlib.Core.List.{map}
use lib.ListN.{drop}
use Rattle.listing.specs.Listing.{term_text, terms_text}
use Rattle.listing.proofs.Chains.{Left}
use Rattle.listing.proofs.Names.{spread}
use Rattle.listing.proofs.text.Writer.put_terms.Given as goal

abbrev pub invariant-loop-i : goal.invariant-loop-i
invariant-loop-i l = Left l.initial.terms (terms_text l.f) l.terms (spread l.i (map term_text (drop l.i l.f)))
