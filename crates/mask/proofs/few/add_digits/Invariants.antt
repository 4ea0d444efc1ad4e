-- The numbers passed stand in front with their digits, and what is left, with its own, is the whole.
use Rattle.std.proofs.Common.{◌≡◌, ◌++◌, take, drop}
use Rattle.mask.specs.Few.{with_digits}
use Rattle.mask.proofs.few.add_digits.Given as goal

abbrev pub invariant-loop-i : goal.invariant-loop-i
invariant-loop-i l =
    take l.i l.out ++ with_digits l.variable l.place (drop l.i l.terms) (drop l.i l.out) ≡ with_digits l.variable l.place l.terms l.initial.out
