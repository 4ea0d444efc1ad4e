-- A step that the rules allow is taken (demand 2): of any lent memory, a step is taken and leaves the folded lines exactly where no test of document 01 fails; otherwise it
-- names record 0 and the refusal of the first test that fails, and everything that was lent is as it was.
use Rattle.std.specs.Prelude.{◌≡◌, refl, List, ◌++◌, ℕ, ℤ}
use Rattle.std.proofs.Common.{sym, ap, subst, ◌∙◌}
use Rattle.refusal.specs.Refusal.{Refusal}
use Rattle.refusal.specs.Outcome.{Outcome, accepted, refused, mapped, Test, refused_at}
use Rattle.refusal.specs.Tests.{AllPassed, FirstFailed, Decided}
use Rattle.refusal.specs.TestsLaws.{decided}
use Rattle.configuration.specs.Configuration.{Line, add_all}
use Rattle.hard.specs.Hard.{hard_of}
use Rattle.memory.specs.Memory.{back_to_back, standing_of}
use Rattle.calculus.specs.Calculus.{changes, direct_step}
use Rattle.calculus.specs.Tests.{direct_tests}
use Rattle.calculus.specs.TestsLaws.{direct_tests_lem}
use Rattle.calculus.specs.declared.Rule.{Rule}
use Rattle.calculus.specs.declared.Mode.{Mode}
use Rattle.checker.specs.Checker.{Lent, lent_tests, admitted, Left, left_of, lent_with, left_by, done, stepped, step_in}
use Rattle.checker.specs.CheckerLaws.{not_refusal, same_refusal, step_admitted}

module _ (r : Rule) (d : Mode) (f g : List ℕ) (w : ℤ) (m : Lent) where
  abbrev tests : List Test
  tests = lent_tests back_to_back m ++ direct_tests (hard_of m.hard) r d f g w m.memory.variables (standing_of m.memory)

  -- the lines with the changes of the rule, and what is lent once it has them
  abbrev folded_lines : List Line
  folded_lines = add_all (changes (hard_of m.hard) r f g w) (standing_of m.memory)

  abbrev folded : Lent
  folded = lent_with back_to_back m.memory.variables folded_lines m.hard

  pub record StepDecided : Type 0 where
    pub if_passed : AllPassed tests → step_in r d f g w m ≡ left_of folded done
    pub if_failed : (x : Refusal) → FirstFailed x tests → step_in r d f g w m ≡ left_of m (refused_at 0 x)
    pub if_taken : (step_in r d f g w m).told ≡ done → AllPassed tests
    pub if_refused : (x : Refusal) → (step_in r d f g w m).told ≡ refused_at 0 x → FirstFailed x tests

  abbrev judged : Outcome (List Line)
  judged = admitted back_to_back m (direct_step (hard_of m.hard) r d f g w m.memory.variables (standing_of m.memory))

  abbrev onto : Outcome (List Line) → Left (Unit {0})
  onto o = left_by back_to_back m (mapped (stepped m.memory.variables) o)

  pub judged_decided : Decided tests folded_lines judged
  judged_decided =
      subst (Decided tests folded_lines) (ap (admitted back_to_back m) (direct_tests_lem (hard_of m.hard) r d f g w (standing_of m.memory) m.memory.variables)) (decided tests folded_lines)

  pub step_decided : StepDecided
  step_decided = record {
    if_passed = λ a. is ∙ ap onto (judged_decided.if_passed a);
    if_failed = λ x h. is ∙ ap onto (judged_decided.if_failed x h);
    if_taken = λ e. taken judged refl (told ∙ e);
    if_refused = λ x e. turned judged x refl (told ∙ e);
  }
    where
      is : step_in r d f g w m ≡ onto judged
      is = step_admitted back_to_back r d f g w m

      told : (onto judged).told ≡ (step_in r d f g w m).told
      told = sym (ap (λ (l : Left (Unit {0})). l.told) is)

      taken : (o : Outcome (List Line)) → judged ≡ o → (onto o).told ≡ done → AllPassed tests
      taken (accepted M) k e = (judged_decided.if_taken M k).0
      taken (refused x) k e = absurd (not_refusal (sym e))

      turned : (o : Outcome (List Line)) (x : Refusal) → judged ≡ o → (onto o).told ≡ refused_at 0 x → FirstFailed x tests
      turned (accepted M) x k e = absurd (not_refusal e)
      turned (refused y) x k e = judged_decided.if_refused x (k ∙ ap refused (same_refusal e).1)
