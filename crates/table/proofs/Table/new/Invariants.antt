-- The invariant: the entries written, followed by those of the rows that are left, are the rows in turn.
use mathlib.Core.Path.{◌≡◌}
use mathlib.Core.List.{◌++◌}
use Prim.Native.Nat.{◌-◌}
use lib.ListN.{length, take}
use Rattle.table.specs.Rows.{in_turn}
use Rattle.table.proofs.Table.new.Given as goal

abbrev pub invariant-loop-i : goal.invariant-loop-i
invariant-loop-i g l = (length l.order ≡ g.row.ROWS) × (take l.i l.order ++ in_turn (g.row.ROWS - l.i) l.i ≡ in_turn g.row.ROWS 0)
