-- Demand 1, as callers see it: whatever the bytes are and whatever is lent, a refused filing or check names the record that it refuses, and leaves exactly what the
-- accepted records before it made. At record 0 what is lent is refused and nothing is changed, but that a filing tells no variables, no lines and no hard polynomials.
use Rattle.std.specs.Prelude.{◌≡◌, refl, Bool, true, false, List, ℕ, suc, ◌≤◌, T}
use Rattle.std.proofs.Common.{sym, ap, ap₂, ◌∙◌, arith}
use Rattle.run.specs.BooleanLaws.{of_true}
use Rattle.refusal.specs.Refusal.{Refusal, numbered}
use Rattle.refusal.specs.Outcome.{Outcome, accepted, Told, refused_at}
use Rattle.configuration.specs.Configuration.{Line}
use Rattle.configuration.specs.Made.{Made}
use Rattle.walk.specs.Walk.{Reader, read_all, RefusedNext, accepted_bytes}
use Rattle.hard.specs.Hard.{hard_of, hard_image}
use Rattle.memory.specs.Memory.{back_to_back, standing_of}
use Rattle.memory.specs.MemoryLaws.{back_to_back_lem}
use Rattle.problem.specs.Problem.{filing, empty, file_problem}
use Rattle.problem.specs.RefusedLaws.{refused_number, refused_first, refused_prefix}
use Rattle.derivation.specs.Derivation.{State, Confirmation, checking, fresh, check_derivation}
use Rattle.derivation.proofs.DerivationLaws.{check_variables}
use Rattle.derivation.proofs.RefusedLaws.{check_refused_number, check_refused_first, check_refused_prefix}
use Rattle.checker.specs.Checker.{Lent, headless, lent_sized, Left, left_of, lent_with, left_by, lent_formed, file_in, check_in}
use Rattle.checker.specs.CheckerLaws.{same_refusal, not_sized, not_formed, check_admitted, check_well, file_sized, file_unsized}

-- the refusal x at record K, where a reader walks over the bytes from a state: K - 1 records are accepted, and the next is refused for that reason, or the
-- bytes end there too early
pub record AtRecord {S : Type 0} (R : Reader S) (s : List ℕ) (p : S) (K : ℕ) (x : Refusal) : Type 0 where
  pub accepted : K ≡ suc (read_all R s p).reached.records
  pub first : RefusedNext R s (read_all R s p).reached x

abbrev lent_in : {A : Type 0} → Left A → Lent
lent_in l = l.lent

-- the reader of a check, over the variables and with the hard list that are lent
abbrev pub reader : Lent → Reader State
reader m = checking m.memory.variables (hard_of m.hard)

-- filings that make the same leave the same
filed_same : {n k : ℕ} {L M : List Line} {H J : List (List ℕ)} → n ≡ k → L ≡ M → H ≡ J → lent_with back_to_back n L (hard_image H) ≡ lent_with back_to_back k M (hard_image J)
filed_same {n} {k} {L} {M} {H} {J} a b c = rw (a, b, c)

abbrev told_in : {A : Type 0} → Left A → Told A
told_in l = l.told

-- ---- a filing
pub record FilingRefused (s : List ℕ) (m : Lent) (K : ℕ) (x : Refusal) : Type 0 where
  pub unread : K ≡ 0 → file_in s m ≡ left_of (headless m) (refused_at 0 x)
  pub read : 1 ≤ K → AtRecord filing s empty K x
  pub stays : 1 ≤ K → (file_in s m).lent ≡ (file_in (accepted_bytes filing s empty) m).lent

pub filing_refused : (s : List ℕ) (m : Lent) (K : ℕ) (x : Refusal) → (file_in s m).told ≡ refused_at K x → FilingRefused s m K x
filing_refused s m K x e = go (lent_sized m) refl
  where
    go : (b : Bool) → lent_sized m ≡ b → FilingRefused s m K x
    go true h =
        let t : List ℕ = accepted_bytes filing s empty in
        let d : (file_problem s).told ≡ refused_at K x = sym (ap told_in (file_sized back_to_back s m h)) ∙ e in
        let k : K ≡ suc (read_all filing s empty).reached.records = refused_number s K x d in
        let p : _ = refused_prefix s K x d in
        record {
          unread = λ z. let i : ⊥ = omega (arith, k) in absurd i;
          read = λ z. record { accepted = k; first = refused_first s K x d };
          stays = λ z. ap lent_in (file_sized back_to_back s m h) ∙ filed_same p.0 p.1 p.2 ∙ sym (ap lent_in (file_sized back_to_back t m h));
        }
    go false h =
        let u : (0 ≡ K) × (numbered 1 ≡ x) = same_refusal (sym (ap told_in (file_unsized back_to_back s m h)) ∙ e) in
        record {
          unread = λ z. file_unsized back_to_back s m h ∙ ap (λ (y : Refusal). left_of (headless m) (refused_at 0 y)) u.1;
          read = λ z. let i : ⊥ = omega (arith, u.0) in absurd i;
          stays = λ z. let i : ⊥ = omega (arith, u.0) in absurd i;
        }

-- ---- a check
pub record CheckRefused (s : List ℕ) (m : Lent) (K : ℕ) (x : Refusal) : Type 0 where
  pub unread : K ≡ 0 → check_in s m ≡ left_of m (refused_at 0 x)
  pub read : 1 ≤ K → AtRecord (reader m) s (fresh (standing_of m.memory)) K x
  pub stays : 1 ≤ K → (check_in s m).lent ≡ (check_in (accepted_bytes (reader m) s (fresh (standing_of m.memory))) m).lent

module _ (s : List ℕ) (m : Lent) (K : ℕ) (x : Refusal) (e : (check_in s m).told ≡ refused_at K x) where
  -- what is lent is refused with y
  unfit : (y : Refusal) → check_in s m ≡ left_of m (refused_at 0 y) → CheckRefused s m K x
  unfit y d =
      let u : (0 ≡ K) × (y ≡ x) = same_refusal (sym (ap told_in d) ∙ e) in
      record {
        unread = λ z. d ∙ ap (λ (z : Refusal). left_of m (refused_at 0 z)) u.1;
        read = λ z. let i : ⊥ = omega (arith, u.0) in absurd i;
        stays = λ z. let i : ⊥ = omega (arith, u.0) in absurd i;
      }

  -- the lines that are checked
  fit : T (lent_formed m) → CheckRefused s m K x
  fit h =
      let v : ℕ = m.memory.variables in
      let H : List (List ℕ) = hard_of m.hard in
      let L : List Line = standing_of m.memory in
      let t : List ℕ = accepted_bytes (checking v H) s (fresh L) in
      let d : (check_derivation s v H L).told ≡ refused_at K x = sym (ap told_in (check_well back_to_back_lem s m h)) ∙ e in
      let k : K ≡ suc (read_all (checking v H) s (fresh L)).reached.records = (check_refused_number s v H L K x d).0 in
      record {
        unread = λ z. let i : ⊥ = omega (arith, k) in absurd i;
        read = λ z. record { accepted = k; first = check_refused_first s v H L K x d };
        stays = λ z. ap lent_in (check_well back_to_back_lem s m h)
            ∙ ap₂ (λ (i : ℕ) (N : List Line). lent_with back_to_back i N m.hard) (check_variables s v H L ∙ sym (check_variables t v H L)) (check_refused_prefix s v H L)
            ∙ sym (ap lent_in (check_well back_to_back_lem t m h));
      }

  pub check_refused : CheckRefused s m K x
  check_refused = go (lent_sized m) refl (lent_formed m) refl
    where
      checked : Outcome (Made Confirmation)
      checked = accepted (check_derivation s m.memory.variables (hard_of m.hard) (standing_of m.memory))

      go : (a : Bool) → lent_sized m ≡ a → (b : Bool) → lent_formed m ≡ b → CheckRefused s m K x
      go false h b i = unfit (numbered 1) (check_admitted back_to_back s m ∙ ap (left_by back_to_back m) (not_sized back_to_back m checked h))
      go true h false i = unfit (numbered 2) (check_admitted back_to_back s m ∙ ap (left_by back_to_back m) (not_formed back_to_back m checked h i))
      go true h true i = fit (of_true i)
