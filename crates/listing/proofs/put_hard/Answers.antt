-- `put_hard` meets its contract: its terms and the end of its line one behind the other.
use mathlib.Core.Path.{◌≡◌, sym}
use native.Mathlib.Omega.{arith}
use lib.ListN.{length}
use Rattle.std.proofs.lemmas.Bool.Decides.{nat_tests}
use Rattle.listing.proofs.Chains.{wrote_as, wrote_then}
use Rattle.listing.proofs.Names.{text_of_terms}
use Rattle.listing.proofs.put_hard.Goals as goal

pub returns : goal.returns
returns c = wrote_as _ (sym (text_of_terms c.args.f.now (λ (e : length c.args.f.now ≡ 0). grind (arith, nat_tests)))) (wrote_then c.put_terms.ensures c.put_byte.ensures)
