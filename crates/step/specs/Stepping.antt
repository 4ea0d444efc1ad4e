-- One step on a configuration: what is asked of its operands, what is found against it, and its plan.
use Rattle.std.specs.Prelude.{◌≡◌, List, [], ℕ, ◌≤◌, ℤ, IfErr, length}
use Rattle.std.specs.declared.result.Result.{Result}
use Rattle.refusal.specs.Outcome.{Outcome, accepted, Test, passing, objected}
use Rattle.refusal.specs.declared.Reason.{Reason}
use Rattle.polynomial.specs.Polynomial.{IsOrdered}
use Rattle.configuration.specs.Configuration.{Line, add_all}
use Rattle.calculus.specs.Calculus.{conclusions, changes, length_tests}
use Rattle.calculus.specs.declared.Rule.{Rule}

-- a polynomial that a rule is applied to: at most 64 terms, in strict written order; each is a number of 32 bits, since it is lent as one
abbrev pub IsOperand : List ℕ → Type 0
IsOperand f = (length f ≤ 64) × IsOrdered f

-- code finds what tests find, in front of any outcome
abbrev pub Finds : List Test → Result (Unit {0}) Reason → Type 0
Finds ts told = (o : Outcome (List Line)) → objected told o ≡ passing ts o

-- what a plan tells, and the changes C that it leaves: those of the rule, folded among themselves; none where a result is too long, which it tells
abbrev pub HasPlan : List (List ℕ) → Rule → List ℕ → List ℕ → ℤ → Result (Unit {0}) Reason → List Line → Type 0
HasPlan H r f g w told C =
    (objected told (accepted C) ≡ passing (length_tests (conclusions H r f g w)) (accepted (add_all (changes H r f g w) [])))
    × IfErr told (λ _. C ≡ [])
