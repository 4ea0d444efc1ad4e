-- What an operation leaves is well formed: what a filing leaves in areas of the right lengths, and what a check or a step leaves of what was well formed.
use Rattle.std.specs.Prelude.{List, [], ◌∷◌, ℕ, T, ℤ}
use Rattle.run.specs.BooleanLaws.{is_true}
use Rattle.hard.specs.Hard.{hard_image}
use Rattle.hard.specs.HardLaws.{image_formed}
use Rattle.memory.specs.Memory.{back_to_back}
use Rattle.memory.specs.MemoryLaws.{back_to_back_lem}
use Rattle.calculus.specs.declared.Rule.{Rule}
use Rattle.calculus.specs.declared.Mode.{Mode}
use Rattle.problem.specs.Problem.{file_problem}
use Rattle.problem.specs.ProblemLaws.{filed_configuration, filed_hard}
use Rattle.checker.specs.Checker.{Lent, lent_sized, lent_formed, step_in, check_in, file_in}
use Rattle.checker.specs.CheckerLaws.{image_formed as formed, file_sized}
use Rattle.checker.specs.CostRule.{stepping, checking, cost_rule}

pub filed_well_formed : (s : List ℕ) (x : Lent) → T (lent_sized x) → T (lent_formed (file_in s x).lent)
filed_well_formed s x h =
    let y = file_problem s in
    rw (file_sized back_to_back s x (is_true (lent_sized x) h))
    (formed back_to_back_lem y.variables y.lines (hard_image y.hard) (filed_configuration s) (image_formed y.variables y.hard (filed_hard s)))

pub check_well_formed : (s : List ℕ) (x : Lent) → T (lent_formed x) → T (lent_formed (check_in s x).lent)
check_well_formed s x h = (cost_rule x h (checking s ∷ [])).0.0.well

pub step_well_formed : (r : Rule) (d : Mode) (f g : List ℕ) (w : ℤ) (x : Lent) → T (lent_formed x) → T (lent_formed (step_in r d f g w x).lent)
step_well_formed r d f g w x h = (cost_rule x h (stepping r d f g w ∷ [])).0.well
