-- What a body that code has read says of the bytes: whether it is whole, and its numbers.
use mathlib.Core.Path.{◌≡◌, refl, ap}
use mathlib.Core.Bool.{Bool, true, false, cond}
use mathlib.Core.List.{List}
use Prim.Native.Nat.{ℕ, ◌+◌}
use lib.IntN.{ℤ}
use Rattle.std.specs.declared.option.Option.TheVariants.{Some, None}
use Rattle.record.specs.Record.{whole, number_at, signed_at, byte_in, mask_in, amount_in, clause_in}
use Rattle.record.specs.declared.Clause.{Clause}

-- ---- what is there if a test is passed
cut : {A : Type 0} (b : Bool) (x : A) → cond b (Some x) None ≡ None → b ≡ false
cut true x e = cc
cut false x e = refl

there : {A : Type 0} (b : Bool) (x v : A) → cond b (Some x) None ≡ Some v → (b ≡ true) × (x ≡ v)
there true x v e = (refl, cc)
there false x v e = cc

-- ---- in the bytes
module _ (s : List ℕ) (at : ℕ) where
  pub byte_cut : byte_in s at ≡ None → whole 1 s at ≡ false
  byte_cut e = cut _ _ e

  pub byte_whole : (v : ℕ) → byte_in s at ≡ Some v → (whole 1 s at ≡ true) × (number_at 1 s at ≡ v)
  byte_whole v e = there _ _ v e

  pub mask_cut : mask_in s at ≡ None → whole 4 s at ≡ false
  mask_cut e = cut _ _ e

  pub mask_whole : (v : ℕ) → mask_in s at ≡ Some v → (whole 4 s at ≡ true) × (number_at 4 s at ≡ v)
  mask_whole v e = there _ _ v e

  pub amount_cut : amount_in s at ≡ None → whole 8 s at ≡ false
  amount_cut e = cut _ _ e

  pub amount_whole : (v : ℤ) → amount_in s at ≡ Some v → (whole 8 s at ≡ true) × (signed_at s at ≡ v)
  amount_whole v e = there _ _ v e

  pub clause_cut : clause_in s at ≡ None → whole 16 s at ≡ false
  clause_cut e = cut _ _ e

  pub clause_whole : (v : Clause) → clause_in s at ≡ Some v
      → (whole 16 s at ≡ true) × ((number_at 4 s at ≡ v.plain) × (number_at 4 s (at + 4) ≡ v.negated) × (signed_at s (at + 8) ≡ v.weight))
  clause_whole v e =
      let h : _ = there _ _ v e in
      (h.0, (ap (λ (c : Clause). c.plain) h.1, ap (λ (c : Clause). c.negated) h.1, ap (λ (c : Clause). c.weight) h.1))
