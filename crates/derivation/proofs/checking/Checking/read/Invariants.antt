-- What is left to walk from the progress on gives the whole walk.
use Prim.Native.Nat.{◌-◌}
use lib.ListN.{length}
use Rattle.derivation.specs.Derivation.{derivation_degree}
use Rattle.derivation.proofs.DerivationLaws.{walked}
use Rattle.derivation.proofs.Loops.{Walks}
use Rattle.derivation.proofs.checking.Checking.read.Given as goal

abbrev pub invariant-loop-at : goal.invariant-loop-at
invariant-loop-at l =
    let D = derivation_degree l.bytes l.variables l.hard l.initial.lines in
    Walks l.variables l.hard l.bytes D (walked l.bytes l.variables l.hard l.initial.lines) l.at l.records l.self l.lines

abbrev pub decreases-loop-at : goal.decreases-loop-at
decreases-loop-at l = length l.bytes - l.at
