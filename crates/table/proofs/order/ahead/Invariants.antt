-- `ahead` meets its contract. The invariant: the number of entries in front lies from `low` to `low + size`.
use Prim.Native.Nat.{◌+◌, ◌≤◌}
use lib.ListN.{take}
use Rattle.table.specs.Rows.{ahead}
use Rattle.table.proofs.order.ahead.Given as goal

abbrev pub invariant-loop-size : goal.invariant-loop-size
invariant-loop-size l = (l.low ≤ ahead l.key (take l.lines l.order)) × (ahead l.key (take l.lines l.order) ≤ l.low + l.size) × (l.low + l.size ≤ l.lines)

abbrev pub decreases-loop-size : goal.decreases-loop-size
decreases-loop-size l = l.size
