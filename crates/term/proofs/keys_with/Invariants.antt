-- The keys of the terms passed stand in front.
use Rattle.std.proofs.Common.{◌≡◌, take}
use Rattle.term.specs.Term.{keys_with}
use Rattle.term.proofs.keys_with.Given as goal

abbrev pub invariant-loop-i : goal.invariant-loop-i
invariant-loop-i l = take l.i l.out ≡ keys_with l.term (take l.i l.terms)
