-- A weight as code has it: its bits, its sign and its range.
use mathlib.Core.Path.{◌≡◌, refl, sym, ap, ap₂, ◌∙◌}
use mathlib.Core.Bool.{Bool, true, false, not, ◌&&◌}
use Prim.Native.Nat.{ℕ, zero, suc, ◌-◌, ◌^◌, ◌≤◌, ◌<◌}
use native.Mathlib.Omega.{arith}
use lib.Bits.{bit_or, or_add_and, and_le_l, and_le_r, or_lt}
use lib.Dec.{eqb, ltb}
use lib.IntN.{ℤ, pos, negsuc}
use lib.Signed.{mag}
use mir.Syntax.{w64}
use mir.Val.{to_z, of_z}
use mir.Facts.{to_z-of_z}
use borrow.Author.Tests.{ne_eqb, lt-ltb, le-ltb, ltb-true, ltb-false}
use Rattle.configuration.specs.Weight.{is_zero, is_negative}

-- ---- a weight and its bits
pub read_back : (w : ℤ) → mag w < 2 ^ 63 → to_z w64 (of_z w64 w) ≡ w
read_back w h = to_z-of_z {w = w64} (record { sfits = h })

pub is_zero_lem : (w : ℤ) → mag w < 2 ^ 63 → of_z w64 w ≡ of_z w64 (pos 0) → is_zero w ≡ true
is_zero_lem w h e = ap is_zero (sym (read_back w h) ∙ ap (to_z w64) e)

pub not_zero : (w : ℤ) → (of_z w64 w ≡ of_z w64 (pos 0) → ⊥) → is_zero w ≡ false
not_zero (pos zero) h = absurd (h refl)
not_zero (pos (suc n)) h = refl
not_zero (negsuc n) h = refl

-- ---- joined bits: they are below a power of 2 just if both numbers are
joined_above : (a b : ℕ) → (a ≤ bit_or a b) × (b ≤ bit_or a b)
joined_above a b = omega (arith, or_add_and a b, and_le_l a b, and_le_r a b)

pub joined_below : (k a b : ℕ) → ltb (bit_or a b) (2 ^ k) ≡ (ltb a (2 ^ k) && ltb b (2 ^ k))
joined_below k a b = go (ltb a (2 ^ k)) refl (ltb b (2 ^ k)) refl
  where
    go : (x : Bool) → ltb a (2 ^ k) ≡ x → (y : Bool) → ltb b (2 ^ k) ≡ y → ltb (bit_or a b) (2 ^ k) ≡ (x && y)
    go true p true q = lt-ltb (bit_or a b) (2 ^ k) (or_lt k a b (ltb-true a (2 ^ k) p) (ltb-true b (2 ^ k) q))
    go true p false q = le-ltb (bit_or a b) (2 ^ k) (omega (arith, joined_above a b, ltb-false b (2 ^ k) q))
    go false p y q = le-ltb (bit_or a b) (2 ^ k) (omega (arith, joined_above a b, ltb-false a (2 ^ k) p))

-- ---- joined bits are zero just if both numbers are
below_one : (a : ℕ) → ltb a (2 ^ 0) ≡ eqb a 0
below_one zero = refl
below_one (suc a) = le-ltb (suc a) (2 ^ 0) (omega arith) ∙ sym (ne_eqb (suc a) 0 (λ e. omega arith))

pub joined_zero : (a b : ℕ) → eqb (bit_or a b) 0 ≡ (eqb a 0 && eqb b 0)
joined_zero a b = sym (below_one (bit_or a b)) ∙ joined_below 0 a b ∙ ap₂ ◌&&◌ (below_one a) (below_one b)

-- the highest bit of a weight tells whether it is negative
pub sign_bit : (n : ℕ) → not (is_negative (to_z w64 n)) ≡ ltb n (2 ^ 63)
sign_bit n = go (ltb n (2 ^ 63)) refl
  where
    go : (b : Bool) → ltb n (2 ^ 63) ≡ b → not (is_negative (to_z w64 n)) ≡ b
    go true e = rw e refl
    go false e = rw e refl

pub sign_is : (w : ℤ) → mag w < 2 ^ 63 → ltb (of_z w64 w) (2 ^ 63) ≡ not (is_negative w)
sign_is w h = sym (sign_bit (of_z w64 w)) ∙ ap (λ (z : ℤ). not (is_negative z)) (read_back w h)

-- its bits are zero just if it is
pub zero_bits : (w : ℤ) → mag w < 2 ^ 63 → eqb (of_z w64 w) 0 ≡ is_zero w
zero_bits (pos zero) h = refl
zero_bits (pos (suc n)) h = ne_eqb (suc n) 0 (λ e. omega arith)
zero_bits (negsuc n) h = ne_eqb (2 ^ 64 - suc n) 0 (λ e. omega arith)
