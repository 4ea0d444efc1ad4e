-- Laws of the loop that writes the subsets of a mask.
use mathlib.Core.Path.{◌≡◌, refl, sym, ap, ap₂, ◌∙◌}
use mathlib.Core.List.{List, ◌++◌, map}
use Prim.Native.Nat.{ℕ, ◌+◌, ◌*◌, ◌/◌, ◌%◌, ◌^◌, ◌≤◌, ◌<◌}
use native.Mathlib.Nat.{one-mul}
use native.Mathlib.Numerals.{add-one}
use native.Mathlib.Omega.{arith}
use lib.Bits.{bit_or}
use lib.Dec.{lit<}
use lib.ListN.{length, take, set, length-append, length-map}
use lib.Pow.{pow_pos, shl_exact, pow_mono}
use lib.Seq.{take-suc-set}
use borrow.Author.Tests.{ne_eqb}
use Rattle.term.specs.Term.{degree_of}
use Rattle.mask.specs.Mask.{subsets_of}
use Rattle.mask.specs.SubsetLaws.{length_subsets_le}

-- ---- one variable more
variable : (i : ℕ) → i < 32 → 1 * 2 ^ i % 2 ^ 32 ≡ 2 ^ i
variable i h = shl_exact 1 i 32 (lit< tt) (omega arith) ∙ one-mul (2 ^ i)

with_variable : (i m : ℕ) → m / 2 ^ i % 2 ≡ 1 → subsets_of (i + 1) m ≡ subsets_of i m ++ map (bit_or (2 ^ i)) (subsets_of i m)
unfolding subsets_of
with_variable i m e = rw (add-one i, e)

pub without_variable : (i m : ℕ) → (m / 2 ^ i % 2 ≡ 1 → ⊥) → subsets_of (i + 1) m ≡ subsets_of i m
unfolding subsets_of
without_variable i m n = rw (add-one i, ne_eqb (m / 2 ^ i % 2) 1 n)

pub twice_as_many : (i m : ℕ) → m / 2 ^ i % 2 ≡ 1 → length (subsets_of (i + 1) m) ≡ length (subsets_of i m) + length (subsets_of i m)
twice_as_many i m e =
    let s = subsets_of i m in
    ap length (with_variable i m e) ∙ length-append s (map (bit_or (2 ^ i)) s) ∙ ap (λ (k : ℕ). length s + k) (length-map s (bit_or (2 ^ i)))

pub room_to_double : (i m : ℕ) → m / 2 ^ i % 2 ≡ 1 → length (subsets_of i m) + length (subsets_of i m) ≤ 2 ^ degree_of m
room_to_double i m e = omega (arith, twice_as_many i m e, length_subsets_le (i + 1) m)

pub subsets_more : (i m n : ℕ) (out next : List ℕ) → i < 32 → m / 2 ^ i % 2 ≡ 1 → take n out ≡ subsets_of i m
    → take (n + n) next ≡ take n out ++ map (bit_or (1 * 2 ^ i % 2 ^ 32)) (take n out) → take (n + n) next ≡ subsets_of (i + 1) m
subsets_more i m n out next h e inv d =
    d ∙ ap₂ (λ (l : List ℕ) (t : ℕ). l ++ map (bit_or t) l) inv (variable i h) ∙ sym (with_variable i m e)

pub one_subset : (m : ℕ) → 1 ≡ length (subsets_of 0 m)
unfolding subsets_of
one_subset m = refl

pub first_subset : (m : ℕ) (out : List ℕ) → 2 ^ degree_of m ≤ length out → take 1 (set out 0 0) ≡ subsets_of 0 m
unfolding subsets_of
first_subset m out h = take-suc-set out 0 0 (omega (arith, pow_pos (degree_of m)))

-- of at most 12 variables there are few subsets
pub few_subsets : (i m : ℕ) → m / 2 ^ i % 2 ≡ 1 → degree_of m ≤ 12 → length (subsets_of i m) + length (subsets_of i m) ≤ 4096
few_subsets i m e h = omega (arith, room_to_double i m e, pow_mono {i = degree_of m} {j = 12} h)
