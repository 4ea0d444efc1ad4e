-- A step that the rules allow is taken (demand 2): a step is taken, and leaves the folded lines, exactly where no test fails; otherwise its refusal is that of
-- the first test that fails. What refusal 7 tells (document 02, Ask 6).
use Rattle.std.specs.Prelude.{◌≡◌, refl, not, ◌&&◌, ◌||◌, List, [], ◌∷◌, ℕ, ◌≤◌, T, ℤ, length}
use Rattle.std.proofs.Math.Path.{ap}
use Rattle.std.proofs.Common.{subst, inl, inr}
use Rattle.run.specs.Run.{sorted}
use Rattle.term.specs.Term.{before}
use Rattle.refusal.specs.Outcome.{Outcome, accepted, passing}
use Rattle.refusal.specs.Tests.{Decided, TellsTerms}
use Rattle.refusal.specs.TestsLaws.{decided, passing_both, tells_unless, tells_more}
use Rattle.polynomial.specs.Polynomial.{ONE, sum_of, product_of}
use Rattle.polynomial.specs.PolynomialLaws.{product_plus_one}
use Rattle.polynomial.specs.LengthLaws.{sum_most, product_most, plus_product_most}
use Rattle.configuration.specs.Configuration.{Line, add_all, below, any_negative}
use Rattle.configuration.specs.Limits.{short, within}
use Rattle.configuration.specs.LimitsLaws.{tells_short, tells_within}
use Rattle.configuration.specs.LineLaws.{polynomial_short}
use Rattle.hard.specs.Hard.{is_hard_list, hard_at}
use Rattle.hard.specs.HardLaws.{hard_polynomial}
use Rattle.calculus.specs.Calculus.{premises, conclusions, changes, is_plain, amount_fits, there, rule_named, mode_tests, length_tests, changed, step, operand_tests, direct_step}
use Rattle.calculus.specs.Tests.{step_tests, direct_tests, LongOfTwo, LongResult, LongStep}
use Rattle.calculus.specs.declared.Rule.{Rule}
use Rattle.calculus.specs.declared.Rule.TheVariants.{Sum, Prod, Hard}
use Rattle.calculus.specs.declared.Mode.{Mode}

module _ (H : List (List ℕ)) (r : Rule) (d : Mode) (f g : List ℕ) (w : ℤ) (L : List Line) where
  abbrev folded : List Line
  folded = add_all (changes H r f g w) L

  -- a step is its tests, in front of the folded lines
  step_tests_lem : passing (step_tests H r d f g w L) (accepted folded) ≡ step H r d f g w L
  unfolding step within
  step_tests_lem = ap (passing (mode_tests H r d f g w L)) (passing_both (length_tests (conclusions H r f g w)) _ (accepted folded))

  pub step_decided : Decided (step_tests H r d f g w L) folded (step H r d f g w L)
  step_decided = subst (Decided (step_tests H r d f g w L) folded) step_tests_lem (decided (step_tests H r d f g w L) folded)

  -- and so is one that is taken directly
  pub direct_tests_lem : (n : ℕ) → passing (direct_tests H r d f g w n L) (accepted folded) ≡ direct_step H r d f g w n L
  unfolding direct_step
  direct_tests_lem n = ap (passing (operand_tests n f g)) step_tests_lem

  pub direct_decided : (n : ℕ) → Decided (direct_tests H r d f g w n L) folded (direct_step H r d f g w n L)
  direct_decided n = subst (Decided (direct_tests H r d f g w n L) folded) (direct_tests_lem n) (decided (direct_tests H r d f g w n L) folded)

-- ---- what refusal 7 tells
-- two results in their order, before anything that tells no number of terms
two_tell : (p q : List ℕ) (o : Outcome (List Line)) → length p ≤ 4096 → (length p ≤ 64 → length q ≤ 128) → TellsTerms (LongOfTwo p q) o
    → TellsTerms (LongOfTwo p q) (passing (short p ∷ short q ∷ []) o)
two_tell p q o m most h = tells_short (LongOfTwo p q) p _ (λ l. inl (record { exact = refl; over = l; within = m }))
    (λ s. tells_short (LongOfTwo p q) q o (λ l. inr (s, record { exact = refl; over = l; within = most s })) (λ t. h))

module _ (H : List (List ℕ)) (n : ℕ) (k : T (is_hard_list n H)) (f g : List ℕ) (a : length f ≤ 64) (b : length g ≤ 64) where
  -- the conclusions of a rule are its results
  changed_tells : (r : Rule) (w : ℤ) (L : List Line) → TellsTerms (LongResult H r f g) (changed H r f g w L)
  changed_tells Sum w L =
      let M : List Line = add_all (changes H Sum f g w) L in
      two_tell (product_of f g) (sum_of f g) (within M) (product_most f g a b) (λ h. sum_most f g a b) (tells_within (LongResult H Sum f g) M)
  changed_tells Prod w L =
      let M : List Line = add_all (changes H Prod f g w) L in
      two_tell (product_of f g) (product_of f (sum_of g ONE)) (within M) (product_most f g a b) (λ h. rw (product_plus_one f g) (sum_most f (product_of f g) a h))
      (tells_within (LongResult H Prod f g) M)
  changed_tells (Hard i) w L =
      let M : List Line = add_all (changes H (Hard i) f g w) L in
      let most : _ = plus_product_most f g (hard_at H i) a b (polynomial_short n (hard_at H i) (hard_polynomial n i H k)) in
      tells_short (LongResult H (Hard i) f g) (sum_of f (product_of g (hard_at H i))) (within M) (λ l. record { exact = refl; over = l; within = most })
      (λ s. tells_within (LongResult H (Hard i) f g) M)

  pub step_tells : (r : Rule) (d : Mode) (w : ℤ) (L : List Line) → TellsTerms (LongResult H r f g) (step H r d f g w L)
  unfolding step
  step_tells r d w L =
      tells_unless (LongResult H r f g) (not (is_plain d && any_negative L)) 12 _ tt (λ h.
      tells_unless (LongResult H r f g) (rule_named H r) 19 _ tt (λ h.
      tells_unless (LongResult H r f g) (amount_fits d w) 8 _ tt (λ h.
      tells_unless (LongResult H r f g) (not (is_plain d) || there L (premises r f g w)) 9 _ tt (λ h. changed_tells r w L))))

pub direct_tells : (H : List (List ℕ)) (r : Rule) (d : Mode) (f g : List ℕ) (w : ℤ) (n : ℕ) (L : List Line) → T (is_hard_list n H)
    → TellsTerms (LongStep H r f g) (direct_step H r d f g w n L)
unfolding direct_step
direct_tells H r d f g w n L k =
    tells_short (LongStep H r f g) f _ (λ l. inl (refl, l)) (λ a.
    tells_short (LongStep H r f g) g _ (λ l. inr (inl (a, refl, l))) (λ b.
    tells_unless (LongStep H r f g) (below n f && below n g) 6 _ tt (λ h.
    tells_unless (LongStep H r f g) (sorted before f && sorted before g) 16 _ tt (λ h.
    tells_more (LongResult H r f g) (LongStep H r f g) (step H r d f g w L) (λ k h. inr (inr (a, b, h))) (step_tells H n k f g a b r d w L)))))
