-- `weigh` meets its contract. The invariant: the first `i` changes are weighed.
use mathlib.Core.Path.{◌≡◌}
use mathlib.Core.List.{◌++◌}
use lib.ListN.{length, take, drop}
use Rattle.replacement.specs.Replacing.{weighed_in}
use Rattle.replacement.proofs.changes.weigh.Given as goal

abbrev pub invariant-loop-i : goal.invariant-loop-i
invariant-loop-i l = (length l.weighed ≡ 4) × (take l.i l.weighed ++ weighed_in (drop l.i l.changes) l.table ≡ weighed_in l.changes l.table)
