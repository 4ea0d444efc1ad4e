-- Multiplication modulo 2 ^ (k + k) by halves of k digits. Assumes nothing.
use Rattle.std.proofs.Common.{◌≡◌, ℕ, zero, ◌+◌, ◌*◌, ◌/◌, ◌%◌, ◌^◌, ◌<◌, sym, ap, ◌∙◌, ap₂, lt_of_le_of_lt, add-zero, le_of_lt, mul_assoc, mul_comm, add-mul, mul-le-mul_left, mul-lt-mul_of_pos_right, mul-add, mul-div_cancel, mul_left_comm, arith, pow_pos, pow-add}
use native.Mathlib.Nat.{add-mod, add-mod-mod, add-mul-mod_self_right}
use native.Mathlib.Nat.{mul-mod_left}
use lib.Arith.{mod-mul}
use lib.Pow.{split}

-- the product of two halves fits the whole
pub product_lt : (k : ℕ) {x y : ℕ} → x < 2 ^ k → y < 2 ^ k → x * y < 2 ^ (k + k)
product_lt k {x} {y} h l = rw (pow-add 2 k k) (lt_of_le_of_lt (mul-le-mul_left x (le_of_lt l)) (mul-lt-mul_of_pos_right h (pow_pos k)))

-- a product by its four parts
parts : (m p q r s : ℕ) → (p * m + q) * (r * m + s) ≡ (q * s + (p * s + q * r) * m) + p * r * (m * m)
parts m p q r s =
    let whole : (p * m + q) * (r * m + s) ≡ (p * m * (r * m) + q * (r * m)) + (p * m * s + q * s) =
    mul-add (p * m + q) (r * m) s ∙ ap₂ ◌+◌ (add-mul (p * m) q (r * m)) (add-mul (p * m) q s) in
    let high : p * m * (r * m) ≡ p * r * (m * m) = mul_assoc p m (r * m) ∙ ap (◌*◌ p) (mul_left_comm m r m) ∙ sym (mul_assoc p r (m * m)) in
    let cross : p * m * s ≡ p * s * m = mul_assoc p m s ∙ ap (◌*◌ p) (mul_comm m s) ∙ sym (mul_assoc p s m) in
    omega (arith, mul_assoc q r m, add-mul (p * s) (q * r) m)

-- what is shifted by a half keeps only its low half
shifted : (x m : ℕ) → zero < m → x * m % (m * m) ≡ x % m * m
shifted x m h =
    mod-mul (x * m) h h ∙ ap₂ (λ (y z : ℕ). y % m * m + z) (mul-div_cancel x h) (mul-mod_left x m) ∙ add-zero (x % m * m)

-- modulo m * m, the product of p * m + q and r * m + s
product : (m p q r s : ℕ) → zero < m
    → (p * m + q) * (r * m + s) % (m * m) ≡ (q * s + (p * s % m + q * r % m) % m * m) % (m * m)
product m p q r s h =
    ap (λ (x : ℕ). x % (m * m)) (parts m p q r s)
    ∙ add-mul-mod_self_right (q * s + (p * s + q * r) * m) (p * r) (m * m)
    ∙ sym (add-mod-mod (q * s) ((p * s + q * r) * m) (m * m))
    ∙ ap (λ (x : ℕ). (q * s + x) % (m * m)) (shifted (p * s + q * r) m h ∙ ap (λ (x : ℕ). x * m) (add-mod (p * s) (q * r) m))

-- the product modulo 2 ^ (k + k): the low halves multiplied in full, and the low half of the cross products, shifted
pub by_halves : (k a b : ℕ)
    → a * b % 2 ^ (k + k)
    ≡ ((a % 2 ^ k) * (b % 2 ^ k) + ((a / 2 ^ k) * (b % 2 ^ k) % 2 ^ k + (a % 2 ^ k) * (b / 2 ^ k) % 2 ^ k) % 2 ^ k * 2 ^ k % 2 ^ (k + k)) % 2 ^ (k + k)
by_halves k a b =
    rw (pow-add 2 k k)
    (ap₂ (λ (x y : ℕ). x * y % (2 ^ k * 2 ^ k)) (sym (split a k)) (sym (split b k))
    ∙ product (2 ^ k) (a / 2 ^ k) (a % 2 ^ k) (b / 2 ^ k) (b % 2 ^ k) (pow_pos k)
    ∙ sym (add-mod-mod ((a % 2 ^ k) * (b % 2 ^ k)) _ (2 ^ k * 2 ^ k)))
