-- The invariant: the place lies between the bounds, `f` stands before the line at the upper one, and the line that is looked at lies between them.
use Prim.Native.Nat.{◌-◌, ◌<◌, ◌≤◌}
use Rattle.table.proofs.Searches.{IsBetween}
use Rattle.table.proofs.Table.find.Given as goal

abbrev pub invariant-loop-low : goal.invariant-loop-low
invariant-loop-low g l = IsBetween l.f l.self l.low l.high × (l.low ≤ l.middle) × (l.low < l.high → l.middle < l.high) × (l.reach ≤ 127)

abbrev pub decreases-loop-low : goal.decreases-loop-low
decreases-loop-low g l = l.high - l.low
