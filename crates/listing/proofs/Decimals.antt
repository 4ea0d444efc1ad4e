-- Numbers in decimal: a number of at most 64 bits is written as its digits in front of the last one, and the last one.
use mathlib.Core.Path.{◌≡◌, refl, sym, ap, ◌∙◌}
use mathlib.Core.List.{List, [], ◌∷◌, ◌++◌}
use mathlib.Core.Bool.{Bool, true, false}
use Prim.Native.Nat.{ℕ, zero, suc, ◌+◌, ◌/◌, ◌%◌, ◌^◌, ◌≤◌, ◌<◌}
use native.Mathlib.Nat.{mod-eq_of_lt}
use native.Mathlib.Omega.{arith}
use lib.Dec.{ltb}
use lib.IntN.{ℤ, pos, negsuc, nat_abs}
use lib.ListN.{length, length-append}
use lib.Signed.{lt_z}
use borrow.Author.Tests.{ltb-true, ltb-false, lt-ltb, le-ltb}
use Rattle.listing.specs.Words.{ascii}
use Rattle.listing.specs.Listing.{decimal_digit, decimal_in, decimal, weight_text}

pub one_digit : (k n : ℕ) → n < 10 → decimal_in k n ≡ decimal_digit n ∷ []
unfolding decimal_in
one_digit zero n h = rw (mod-eq_of_lt h)
one_digit (suc k) n h = rw (lt-ltb n 10 h)

more_digits : (k n : ℕ) → 10 ≤ n → decimal_in (suc k) n ≡ decimal_in k (n / 10) ++ (decimal_digit (n % 10) ∷ [])
unfolding decimal_in
more_digits k n h = rw (le-ltb n 10 h)

-- places that are not needed do not count
enough : (k n : ℕ) → n < 10 ^ suc k → decimal_in (suc k) n ≡ decimal_in k n
enough zero n h = one_digit 1 n (omega arith) ∙ sym (one_digit 0 n (omega arith))
enough (suc k) n h = go (ltb n 10) refl (enough k (n / 10))
  where
    go : (b : Bool) → ltb n 10 ≡ b → (n / 10 < 10 ^ suc k → decimal_in (suc k) (n / 10) ≡ decimal_in k (n / 10)) → decimal_in (suc (suc k)) n ≡ decimal_in (suc k) n
    go true e f = one_digit (suc (suc k)) n (ltb-true n 10 e) ∙ sym (one_digit (suc k) n (ltb-true n 10 e))
    go false e f =
        let l : 10 ≤ n = ltb-false n 10 e in
        more_digits (suc k) n l ∙ ap (λ (x : List ℕ). x ++ (decimal_digit (n % 10) ∷ [])) (f (omega arith)) ∙ sym (more_digits k n l)

pub last_digit : (n : ℕ) → 10 ≤ n → n < 2 ^ 64 → decimal n ≡ decimal (n / 10) ++ (decimal_digit (n % 10) ∷ [])
last_digit n l h =
    more_digits 18 n l ∙ ap (λ (x : List ℕ). x ++ (decimal_digit (n % 10) ∷ [])) (sym (enough 18 (n / 10) (omega arith)))

pub last_digit_length : (n : ℕ) → 10 ≤ n → n < 2 ^ 64 → length (decimal n) ≡ length (decimal (n / 10)) + 1
last_digit_length n l h = rw (last_digit n l h) (length-append (decimal (n / 10)) (decimal_digit (n % 10) ∷ []))

pub two_digits : (n : ℕ) → 10 ≤ n → n < 100 → decimal n ≡ (decimal_digit (n / 10) ∷ []) ++ (decimal_digit (n % 10) ∷ [])
two_digits n l h = last_digit n l (omega arith) ∙ ap (λ (x : List ℕ). x ++ (decimal_digit (n % 10) ∷ [])) (one_digit 19 (n / 10) (omega arith))

pub two_digits_length : (n : ℕ) → 10 ≤ n → n < 100 → length (decimal n) ≡ 2
two_digits_length n l h = ap length (two_digits n l h)

-- ---- a weight is its sign and its size
unfoldable pub sign : ℤ → List ℕ
sign (pos n) = []
sign (negsuc n) = ascii "-"

pub weight_parts : (w : ℤ) → weight_text w ≡ sign w ++ decimal (nat_abs w)
unfolding sign
weight_parts (pos n) = refl
weight_parts (negsuc n) = refl

pub sign_of : (w : ℤ) → lt_z w (pos 0) ≡ true → sign w ≡ ascii "-"
unfolding sign
sign_of (pos n) e = let f : ⊥ = omega (arith, ltb-true n 0 e) in absurd f
sign_of (negsuc n) e = refl

pub no_sign : (w : ℤ) → lt_z w (pos 0) ≡ false → sign w ≡ []
unfolding sign
no_sign (pos n) e = refl
no_sign (negsuc n) e = cc
