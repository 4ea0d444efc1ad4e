-- The laws of what a record of a derivation tells that is refused with 7.
use Rattle.std.specs.Prelude.{◌≡◌, ◌&&◌, List, ℕ, ◌+◌, T, eqb, ℤ, get_or}
use Rattle.std.proofs.Common.{inl, eqb→eq}
use Rattle.std.proofs.Math.Logic.{inr}
use Rattle.std.proofs.Math.Bool.{not}
use native.Mathlib.Omega.{arith}
use Rattle.std.specs.Int.Signed.{le_z}
use Rattle.run.specs.BooleanLaws.{cond_ind}
use Rattle.refusal.specs.Tests.{TellsTerms}
use Rattle.refusal.specs.TestsLaws.{tells_unless, tells_mapped, tells_more}
use Rattle.refusal.specs.Refusal.{Refusal}
use Rattle.refusal.specs.Outcome.{refused_at}
use Rattle.polynomial.specs.Polynomial.{ONE}
use Rattle.configuration.specs.Configuration.{Line, some, weight, any_negative, is_configuration}
use Rattle.configuration.specs.LineLaws.{polynomial_short}
use Rattle.hard.specs.Hard.{is_hard_list}
use Rattle.calculus.specs.Calculus.{step}
use Rattle.calculus.specs.Tests.{LongResult}
use Rattle.calculus.specs.TestsLaws.{step_tells}
use Rattle.calculus.specs.declared.Rule.{Rule}
use Rattle.calculus.specs.declared.Rule.TheVariants.{Sum, Prod, Hard}
use Rattle.calculus.specs.declared.Mode.{Mode}
use Rattle.calculus.specs.declared.Mode.TheVariants.{Plain, Signed}
use Rattle.record.specs.Letters.{letter_n, letter_z, letter_m, letter_k, letter_s, letter_p, letter_e, letter_b}
use Rattle.record.specs.Record.{whole, number_at, signed_at}
use Rattle.walk.specs.Walk.{Progress, past, read_all}
use Rattle.walk.specs.Work.{term_added}
use Rattle.walk.specs.WalkLaws.{next_tells}
use Rattle.walk.specs.WorkLaws.{term_tells}
use Rattle.derivation.specs.Derivation.{State, going, having, claim_fits, on_mode, on_term, after_step, on_step, on_hard, on_claim, on_record, checking, fresh, check_derivation}
use Rattle.derivation.proofs.DerivationLaws.{IsSound, IsSound-check}
use Rattle.derivation.proofs.RefusedLaws.{check_refused_first}
use Rattle.derivation.specs.TooLong.{LongRecord}

module _ (n : ℕ) (H : List (List ℕ)) (s : List ℕ) (p : Progress State) (a : T (is_hard_list n H)) (o : IsSound n p.state) where
  abbrev kind : ℕ
  kind = get_or s p.at 0

  abbrev x : State
  x = p.state

  abbrev Q : ℕ → Type 0
  Q = LongRecord H s p

  modes : (d : Mode) → TellsTerms Q (on_mode d p)
  modes d = tells_unless Q (not x.started) 4 _ tt (λ h. tt)

  terms : T (eqb kind letter_m) → TellsTerms Q (on_term n s p)
  terms h =
      tells_unless Q (going x) 4 _ tt (λ i.
      tells_mapped Q (λ g. past p 5 (having x.chosen x.first g x.lines x)) (term_added n s (p.at + 1) x.work)
      (tells_more (λ k. k ≡ 65) Q (term_added n s (p.at + 1) x.work) (λ k e. inl (eqb→eq kind letter_m h, e))
      (term_tells n s (p.at + 1) x.work (polynomial_short n x.work o.polynomial))))

  -- a step as a rule and an amount ask, in a record of so many bytes
  takes : (r : Rule) (w : ℤ) (size : ℕ) → ((k : ℕ) → LongResult H r x.first x.work k → Q k)
      → TellsTerms Q (after_step p size (step H r x.mode x.first x.work w x.lines))
  takes r w size more =
      tells_mapped Q _ (step H r x.mode x.first x.work w x.lines)
      (tells_more (LongResult H r x.first x.work) Q (step H r x.mode x.first x.work w x.lines) more
      (step_tells H n a x.first x.work (polynomial_short n x.first o.operand) (polynomial_short n x.work o.polynomial) r x.mode w x.lines))

  steps : (r : Rule) → ((k : ℕ) → LongResult H r x.first x.work k → Q k) → TellsTerms Q (on_step H r s p)
  steps r more =
      tells_unless Q (going x && x.chosen) 4 _ tt (λ h. tells_unless Q (whole 8 s (p.at + 1)) 3 _ tt (λ i. takes r (signed_at s (p.at + 1)) 9 more))

  hards : T (eqb kind letter_e) → TellsTerms Q (on_hard H s p)
  hards h =
      tells_unless Q (going x && x.chosen) 4 _ tt (λ i. tells_unless Q (whole 9 s (p.at + 1)) 3 _ tt (λ j.
      takes (Hard (number_at 1 s (p.at + 1))) (signed_at s (p.at + 2)) 10 (λ k l. inr (inr (inr (eqb→eq kind letter_e h, l))))))

  claims : TellsTerms Q (on_claim s p)
  claims =
      let w : ℤ = signed_at s (p.at + 1) in
      tells_unless Q (going x && (not x.chosen && not (some x.work))) 4 _ tt (λ h. tells_unless Q (whole 8 s (p.at + 1)) 3 _ tt (λ h.
      tells_unless Q (claim_fits w) 8 _ tt (λ h. tells_unless Q (not (any_negative x.lines)) 12 _ tt (λ h.
      tells_unless Q (le_z w (weight x.lines ONE)) 13 _ tt (λ h. tt)))))

  pub record_tells : TellsTerms Q (on_record n H s p)
  unfolding on_record
  record_tells =
      cond_ind (eqb kind letter_n) (TellsTerms Q) (λ h. modes Plain) (λ h.
      cond_ind (eqb kind letter_z) (TellsTerms Q) (λ h. modes Signed) (λ h.
      cond_ind (eqb kind letter_m) (TellsTerms Q) terms (λ h.
      cond_ind (eqb kind letter_k) (TellsTerms Q) (λ h. tells_unless Q (going x && not x.chosen) 4 _ tt (λ i. tt)) (λ h.
      cond_ind (eqb kind letter_s) (TellsTerms Q) (λ h. steps Sum (λ k l. inr (inl (eqb→eq kind letter_s h, l)))) (λ h.
      cond_ind (eqb kind letter_p) (TellsTerms Q) (λ h. steps Prod (λ k l. inr (inr (inl (eqb→eq kind letter_p h, l))))) (λ h.
      cond_ind (eqb kind letter_e) (TellsTerms Q) hards (λ h.
      cond_ind (eqb kind letter_b) (TellsTerms Q) (λ h. claims) (λ h e. let i : ⊥ = omega arith in absurd i))))))))

-- of a whole check: the record after those that are accepted
pub check_tells : (s : List ℕ) (n : ℕ) (H : List (List ℕ)) (L : List Line) → T (is_hard_list n H) → T (is_configuration n L) → (K : ℕ) (x : Refusal)
    → (check_derivation s n H L).told ≡ refused_at K x → x.number ≡ 7 → LongRecord H s (read_all (checking n H) s (fresh L)).reached x.detail
check_tells s n H L a h K x e = let p : Progress State = (read_all (checking n H) s (fresh L)).reached in
    next_tells (checking n H) (LongRecord H s p) s p x (check_refused_first s n H L K x e) (record_tells n H s p a (IsSound-check s n H L a h))
