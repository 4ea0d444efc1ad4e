-- The invariant: no line is negative just if the bits that are joined are not, and no weight from there on.
use mathlib.Core.Path.{◌≡◌}
use mathlib.Core.Bool.{◌&&◌}
use Prim.Native.Nat.{◌^◌}
use lib.Dec.{ltb}
use lib.ListN.{drop}
use mir.Syntax.{w64}
use mir.Val.{of_z}
use Rattle.configuration.specs.Weight.{none_negative}
use Rattle.table.proofs.Weights.{weights_at}
use Rattle.table.proofs.Table.none_negative.Given as goal

abbrev pub invariant-loop-entry : goal.invariant-loop-entry
invariant-loop-entry g l =
    (ltb (of_z w64 l.bits) (2 ^ 63) && none_negative (drop l.entry-index (weights_at l.self-inside.weights l.entry-items))) ≡ none_negative (weights_at l.self-inside.weights l.entry-items)
