-- `len` meets its contract: as many polynomials are read as the number says.
use Rattle.std.proofs.Common.{ap, ◌∙◌, List, ℕ, length}
use Rattle.hard.specs.HeldLaws.{held_number}
use Rattle.hard.proofs.HardList.len.Goals as goal

pub returns-clause-number : goal.returns-clause-number
returns-clause-number c = held_number _ c.self.invariant ∙ ap (λ (H : List (List ℕ)). length H) c.self.view_is
