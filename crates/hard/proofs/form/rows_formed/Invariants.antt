-- The rows are well formed just if those from `i` on are.
use Rattle.std.proofs.Common.{◌≡◌, ◌-◌, ◌*◌, drop}
use Rattle.hard.specs.Hard.{rows_formed}
use Rattle.hard.proofs.form.rows_formed.Given as goal

abbrev pub invariant-loop-i : goal.invariant-loop-i
invariant-loop-i l =
    rows_formed l.variables (l.number - l.i) (drop l.i l.counts) (drop (64 * l.i) l.places) ≡ rows_formed l.variables l.number l.counts l.places
