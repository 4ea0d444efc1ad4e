-- Weights are i64 in code: their range at 0 and at its ends, that negating one and adding two stay exact, and their order as code tests it.
use Rattle.std.specs.Prelude.{◌≡◌, refl, Bool, true, false, cond, ℕ, zero, suc, ◌+◌, ◌^◌, ◌≤◌, ◌<◌, T, ltb, ℤ, pos, negsuc, ◌+ℤ◌, neg_ℤ}
use Rattle.std.proofs.Common.{arith, leb→le}
use Rattle.std.specs.Int.Signed.{lt_z, le_z, lt_z_yes, le_z_yes, lt_z_no, clash_ℤ, mag}
use Rattle.run.specs.BooleanLaws.{is_true, is_false, of_true}
use Rattle.configuration.specs.Weight.{limit, in_range}

pub limits : (in_range (pos 0) ≡ true) × (in_range (pos limit) ≡ true) × (in_range (negsuc 999999999999) ≡ true)
    × (in_range (pos 1000000000001) ≡ false) × (in_range (negsuc 1000000000000) ≡ false)
limits = (refl, refl, refl, refl, refl)

pub negated_range : (w : ℤ) → in_range (neg_ℤ w) ≡ in_range w
negated_range (pos zero) = refl
negated_range (pos (suc n)) = refl
negated_range (negsuc n) = refl

-- ---- magnitudes
pub in_range-mag : (w : ℤ) → T (in_range w) → mag w ≤ limit
in_range-mag (pos n) h = omega (arith, leb→le n limit h)
in_range-mag (negsuc n) h = omega (arith, leb→le (suc n) limit h)

mag-cond : (t : Bool) (x y : ℤ) (n : ℕ) → mag x ≤ n → mag y ≤ n → mag (cond t x y) ≤ n
mag-cond true x y n p q = p
mag-cond false x y n p q = q

pub mag-add : (a b : ℤ) → mag (a +ℤ b) ≤ suc (mag a + mag b)
mag-add (pos a) (pos b) = omega arith
mag-add (pos a) (negsuc b) = mag-cond (ltb a (suc b)) _ _ _ (omega arith) (omega arith)
mag-add (negsuc a) (pos b) = mag-cond (ltb b (suc a)) _ _ _ (omega arith) (omega arith)
mag-add (negsuc a) (negsuc b) = omega arith

pub sum_exact : (a b : ℤ) → T (in_range a) → T (in_range b) → mag (a +ℤ b) < 2 ^ 63
sum_exact a b h k = omega (arith, mag-add a b, in_range-mag a h, in_range-mag b k)

-- ---- the order of whole numbers, as code tests it
pub lower : (a b : ℤ) → lt_z a b ≡ true → le_z b a ≡ false
lower a b e = is_false (le_z b a) (λ h. clash_ℤ (lt_z_yes {a = a} {b = b} (of_true e)) (le_z_yes h))

pub not_lower : (a b : ℤ) → lt_z a b ≡ false → le_z b a ≡ true
not_lower a b e = is_true (le_z b a) (lt_z_no {a = a} {b = b} (rw e tt)).le
