-- `shift` meets its contract. The invariant: those before the place are moved, and the others will be, past the lines that are gone.
use mathlib.Core.Path.{◌≡◌}
use mathlib.Core.List.{◌++◌}
use Prim.Native.Nat.{◌≤◌}
use lib.ListN.{take, drop}
use Rattle.replacement.specs.Replacing.{moved_down}
use Rattle.replacement.proofs.passes.shift.Given as goal

abbrev pub invariant-loop-w : goal.invariant-loop-w
invariant-loop-w l = (l.gone ≤ l.w-index) × (take l.w-index l.weighed ++ moved_down l.gone (drop l.w-index l.weighed) ≡ moved_down 0 l.initial.weighed)
