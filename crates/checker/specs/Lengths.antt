-- A term area of another length than 8,192, a line table of another than 128, counts of a hard list of another than 16 or places of another than 1,024 are refused by every operation:
-- with number 1, at record 0, whatever the length is and whatever else is lent. Nothing that is lent is changed, and only a filing gives up the head.
use Rattle.std.specs.Prelude.{◌≡◌, refl, ◌⊎◌, Bool, true, false, ◌&&◌, List, ℕ, T, eqb, ℤ, length}
use Rattle.std.proofs.Common.{inl, inr, eqb→eq}
use Rattle.refusal.specs.Refusal.{numbered}
use Rattle.refusal.specs.Outcome.{refused_at}
use Rattle.calculus.specs.declared.Rule.{Rule}
use Rattle.calculus.specs.declared.Mode.{Mode}
use Rattle.memory.specs.Memory.{back_to_back}
use Rattle.checker.specs.Checker.{Lent, headless, lent_sized, left_of, step_under, check_under, write_under, step_in, check_in, file_in, write_in}
use Rattle.checker.specs.CheckerLaws.{file_unsized}

-- one of the four lengths is another
abbrev pub OtherLength : Lent → Type 0
OtherLength x = (length x.memory.terms ≡ 8192 → ⊥) ⊎ ((length x.memory.table ≡ 128 → ⊥) ⊎ ((length x.hard.counts ≡ 16 → ⊥) ⊎ (length x.hard.places ≡ 1024 → ⊥)))

module _ (x : Lent) (other : OtherLength x) where
  pub other_sized : lent_sized x ≡ false
  other_sized =
      go (eqb (length x.memory.terms) 8192) (eqb (length x.memory.table) 128) (eqb (length x.hard.counts) 16) (eqb (length x.hard.places) 1024)
      (eqb→eq (length x.memory.terms) 8192) (eqb→eq (length x.memory.table) 128) (eqb→eq (length x.hard.counts) 16) (eqb→eq (length x.hard.places) 1024) other
    where
      go : (a b c d : Bool) {A B C D : Type 0} → (T a → A) → (T b → B) → (T c → C) → (T d → D)
          → (A → ⊥) ⊎ ((B → ⊥) ⊎ ((C → ⊥) ⊎ (D → ⊥))) → ((a && b) && (c && d)) ≡ false
      go false b c d p q r s o = refl
      go true false c d p q r s o = refl
      go true true false d p q r s o = refl
      go true true true false p q r s o = refl
      go true true true true p q r s (inl h) = absurd (h (p tt))
      go true true true true p q r s (inr (inl h)) = absurd (h (q tt))
      go true true true true p q r s (inr (inr (inl h))) = absurd (h (r tt))
      go true true true true p q r s (inr (inr (inr h))) = absurd (h (s tt))

  pub step_other : (r : Rule) (d : Mode) (f g : List ℕ) (w : ℤ) → step_in r d f g w x ≡ left_of x (refused_at 0 (numbered 1))
  unfolding step_under
  step_other r d f g w = rw other_sized

  pub check_other : (s : List ℕ) → check_in s x ≡ left_of x (refused_at 0 (numbered 1))
  unfolding check_under
  check_other s = rw other_sized

  pub file_other : (s : List ℕ) → file_in s x ≡ left_of (headless x) (refused_at 0 (numbered 1))
  file_other s = file_unsized back_to_back s x other_sized

  pub write_other : (number : ℕ) (area : List ℕ) → write_in number x area ≡ record { area = area; told = refused_at 0 (numbered 1) }
  unfolding write_under
  write_other number area = rw other_sized
