-- How far over (document 02, Ask 6). Whatever is lent and given, an operation that refuses with 7 tells the exact number of terms of the polynomial that the document names, which
-- is above 64: of a step and of a step in a derivation f g's, at most 4,096, else that of f + g or f (g + 1), at most 128; of a hard step that of f + q h, at most 4,160; of an f or g
-- given too long its length; of M 65; of a clause 2 to the power of its plain literals. No line of a listing is refused with 7.
use Rattle.std.specs.Prelude.{◌≡◌, refl, Bool, true, false, not, List, ℕ, ◌+◌, T, leb, eqb, ℤ, length}
use Rattle.std.proofs.Common.{sym, ap, ◌∙◌}
use Rattle.run.specs.BooleanLaws.{of_true}
use Rattle.refusal.specs.Refusal.{Refusal, numbered}
use Rattle.refusal.specs.Outcome.{Outcome, accepted, refused, unless, Told, refused_at}
use Rattle.refusal.specs.Tests.{TellsTerms}
use Rattle.refusal.specs.TestsLaws.{terms_told, tells_unless}
use Rattle.hard.specs.Hard.{hard_of}
use Rattle.memory.specs.Memory.{back_to_back, standing_of}
use Rattle.memory.specs.LayoutLaws.{well_configuration}
use Rattle.memory.specs.MemoryLaws.{back_to_back_lem}
use Rattle.calculus.specs.Calculus.{direct_step}
use Rattle.calculus.specs.Tests.{LongStep}
use Rattle.calculus.specs.TestsLaws.{direct_tells}
use Rattle.calculus.specs.declared.Rule.{Rule}
use Rattle.calculus.specs.declared.Mode.{Mode}
use Rattle.walk.specs.Walk.{read_all}
use Rattle.problem.specs.Problem.{filing, empty}
use Rattle.problem.specs.TooLong.{LongEntry, filing_tells}
use Rattle.derivation.specs.Derivation.{fresh, check_derivation}
use Rattle.derivation.specs.TooLong.{LongRecord}
use Rattle.derivation.proofs.TooLongLaws.{check_tells}
use Rattle.listing.specs.Listing.{text_of}
use Rattle.checker.specs.Checker.{Lent, lent_sized, left_by, written_by, fitting, admitted, lent_formed, step_in, check_in, file_in, write_in, write_under}
use Rattle.checker.specs.CheckerLaws.{not_refusal, same_refusal, not_sized, not_formed, formed_memory, held_list, check_admitted, check_well, file_sized, file_unsized}
use Rattle.checker.specs.Refused.{reader}
use Rattle.checker.specs.StepTests.{judged_decided, step_decided}

-- a refusal of what is lent tells no number of terms, nor do the tests in front of an operation
lent_tells : {A : Type 0} (n K : ℕ) (x : Refusal) → T (not (eqb n 7)) → ◌≡◌ {A = Told A} (refused_at 0 (numbered n)) (refused_at K x) → x.number ≡ 7 → ⊥
lent_tells n K x h e z = rw (ap (λ (y : Refusal). y.number) (same_refusal e).1 ∙ z) at h

admitted_tells : {A : Type 0} (Q : ℕ → Type 0) (m : Lent) (o : Outcome A) → (T (lent_formed m) → TellsTerms Q o) → TellsTerms Q (admitted back_to_back m o)
admitted_tells Q m o h = tells_unless Q (lent_sized m) 1 _ tt (λ i. tells_unless Q (lent_formed m) 2 o tt h)

-- ---- a step
pub step_over : (r : Rule) (d : Mode) (f g : List ℕ) (w : ℤ) (m : Lent) (x : Refusal) → (step_in r d f g w m).told ≡ refused_at 0 x → x.number ≡ 7
    → LongStep (hard_of m.hard) r f g x.detail
step_over r d f g w m x e =
    let n = m.memory.variables in
    let H = hard_of m.hard in
    let L = standing_of m.memory in
    terms_told (LongStep H r f g) _ x
    (admitted_tells (LongStep H r f g) m (direct_step H r d f g w n L) (λ h. direct_tells H r d f g w n L (held_list back_to_back m h)))
    ((judged_decided r d f g w m).if_failed x ((step_decided r d f g w m).if_refused x e))

-- ---- a check and a filing: the record after those that are accepted
pub check_over : (s : List ℕ) (m : Lent) (K : ℕ) (x : Refusal) → (check_in s m).told ≡ refused_at K x → x.number ≡ 7
    → LongRecord (hard_of m.hard) s (read_all (reader m) s (fresh (standing_of m.memory))).reached x.detail
check_over s m K x e z = go (lent_sized m) refl (lent_formed m) refl
  where
    P : Type 0
    P = LongRecord (hard_of m.hard) s (read_all (reader m) s (fresh (standing_of m.memory))).reached x.detail

    told : (check_in s m).told ≡ (left_by back_to_back m (admitted back_to_back m (accepted (check_derivation s m.memory.variables (hard_of m.hard) (standing_of m.memory))))).told
    told = ap (λ l. l.told) (check_admitted back_to_back s m)

    go : (a : Bool) → lent_sized m ≡ a → (b : Bool) → lent_formed m ≡ b → P
    go false h b i = absurd (lent_tells 1 K x tt (sym (told ∙ ap (λ o. (left_by back_to_back m o).told) (not_sized back_to_back m _ h)) ∙ e) z)
    go true h false i = absurd (lent_tells 2 K x tt (sym (told ∙ ap (λ o. (left_by back_to_back m o).told) (not_formed back_to_back m _ h i)) ∙ e) z)
    go true h true i = check_tells s m.memory.variables (hard_of m.hard) (standing_of m.memory) (held_list back_to_back m (of_true i))
        (well_configuration back_to_back m.memory (formed_memory back_to_back m (of_true i))) K x
        (sym (ap (λ l. l.told) (check_well back_to_back_lem s m (of_true i))) ∙ e) z

pub filing_over : (s : List ℕ) (m : Lent) (K : ℕ) (x : Refusal) → (file_in s m).told ≡ refused_at K x → x.number ≡ 7 → LongEntry s (read_all filing s empty).reached x.detail
filing_over s m K x e z = go (lent_sized m) refl
  where
    go : (a : Bool) → lent_sized m ≡ a → LongEntry s (read_all filing s empty).reached x.detail
    go true h = filing_tells s K x (sym (ap (λ l. l.told) (file_sized back_to_back s m h)) ∙ e) z
    go false h = absurd (lent_tells 1 K x tt (sym (ap (λ l. l.told) (file_unsized back_to_back s m h)) ∙ e) z)

-- ---- a line of a listing
written_tells : (area : List ℕ) (o : Outcome (List ℕ)) (K : ℕ) (x : Refusal) → TellsTerms (λ k. ⊥) o → (written_by area o).told ≡ refused_at K x → x.number ≡ 7 → ⊥
written_tells area (accepted text) K x h e z = not_refusal e
written_tells area (refused y) K x h e z = h (ap (λ (x : Refusal). x.number) (same_refusal e).1 ∙ z)

module _ (i : ℕ) (m : Lent) (area : List ℕ) where
  abbrev text : List ℕ
  text = text_of i m.memory.variables (hard_of m.hard) (standing_of m.memory)

  abbrev asked : Outcome (List ℕ)
  asked = unless (leb i (m.hard.number + m.memory.lines)) 17 (fitting area text)

  asked_tells : TellsTerms (λ k. ⊥) asked
  asked_tells = tells_unless (λ k. ⊥) (leb i (m.hard.number + m.memory.lines)) 17 (fitting area text) tt (λ h. tells_unless (λ k. ⊥) (leb (length text) (length area)) 14 (accepted text) tt (λ k. tt))

  pub line_over : (K : ℕ) (x : Refusal) → (write_in i m area).told ≡ refused_at K x → x.number ≡ 7 → ⊥
  unfolding write_under
  line_over K x = written_tells area (admitted back_to_back m asked) K x (admitted_tells (λ k. ⊥) m asked (λ h. asked_tells))
