-- Laws of records: k bytes make a number below 256 ^ k, every such number is read back from its k bytes, distinct numbers of 64 bits are distinct
-- signed numbers, a body is the same in the first bytes, where it ends within them, and a letter stands within the bytes. Assumes nothing.
use Rattle.std.specs.Prelude.{◌≡◌, refl, Bool, true, false, cond, List, [], ◌∷◌, ◌++◌, ℕ, zero, suc, ◌+◌, ◌-◌, ◌*◌, ◌/◌, ◌%◌, ◌^◌, ◌≤◌, ◌<◌, T, leb, ltb, pos, negsuc, length, get_or, take}
use Rattle.std.proofs.Common.{sym, ap, arith, le→leb, length-take-le}
use Rattle.std.proofs.Math.Nat.{pow-zero, pow-succ'}
use Rattle.std.proofs.Math.IntN.{pos-ne-negsuc}
use Rattle.record.specs.Record.{little_endian, number_at, signed, whole}

-- every element is a byte
abbrev pub Bytes : List ℕ → Type 0
Bytes [] = Unit {0}
Bytes (b ∷ s) = (b < 256) × Bytes s

-- ---- the bytes of a number: k of them, the lowest first
unfoldable pub bytes_of : ℕ → ℕ → List ℕ
bytes_of zero x = []
bytes_of (suc k) x = x % 256 ∷ bytes_of k (x / 256)

-- a number below 256 ^ k is read back from its k bytes, whatever follows them
pub number_of_bytes : (k x : ℕ) (s : List ℕ) → x < 256 ^ k → little_endian k (bytes_of k x ++ s) ≡ x
unfolding little_endian bytes_of
number_of_bytes zero x s h = omega (arith, pow-zero 256)
number_of_bytes (suc k) x s h =
    let below : x / 256 < 256 ^ k = omega (arith, pow-succ' 256 k) in
    omega (arith, number_of_bytes k (x / 256) s below)

-- ---- signed numbers
pub signed_injective : (x y : ℕ) → x < 2 ^ 64 → y < 2 ^ 64 → signed x ≡ signed y → x ≡ y
signed_injective x y p q e = go (ltb x (2 ^ 63)) (ltb y (2 ^ 63)) e
  where
    go : (a b : Bool) → cond a (pos x) (negsuc (2 ^ 64 - 1 - x)) ≡ cond b (pos y) (negsuc (2 ^ 64 - 1 - y)) → x ≡ y
    go true true e = cc
    go true false e = absurd (pos-ne-negsuc x (2 ^ 64 - 1 - y) e)
    go false true e = absurd (pos-ne-negsuc y (2 ^ 64 - 1 - x) (sym e))
    go false false e = let d : 2 ^ 64 - 1 - x ≡ 2 ^ 64 - 1 - y = cc in omega arith

-- ---- the first K bytes hold the same body, where it ends within them
pub little_take : (k K : ℕ) (s : List ℕ) → k ≤ K → little_endian k (take K s) ≡ little_endian k s
unfolding little_endian
little_take zero K s h = refl
little_take (suc k) zero s h = let x : ⊥ = omega arith in absurd x
little_take (suc k) (suc K) [] h = refl
little_take (suc k) (suc K) (b ∷ s) h = ap (λ (x : ℕ). b + 256 * x) (little_take k K s (omega arith))

pub number_take : (k a K : ℕ) (s : List ℕ) → a + k ≤ K → number_at k (take K s) a ≡ number_at k s a
number_take k zero K s h = little_take k K s (omega arith)
number_take k (suc a) zero s h = let x : ⊥ = omega arith in absurd x
number_take k (suc a) (suc K) [] h = refl
number_take k (suc a) (suc K) (b ∷ s) h = number_take k a K s (omega arith)

one_test : (a b : Bool) → T a → T b → a ≡ b
one_test true true h k = refl
one_test true false h k = absurd k
one_test false b h k = absurd h

pub whole-take : (k a K : ℕ) (s : List ℕ) → a + k ≤ K → K ≤ length s → whole k (take K s) a ≡ whole k s a
whole-take k a K s h l = one_test (leb (a + k) (length (take K s))) (leb (a + k) (length s))
    (le→leb (a + k) (length (take K s)) (omega (arith, length-take-le K s l))) (le→leb (a + k) (length s) (omega arith))

-- a byte that is not 0 stands within the bytes
pub within_bytes : (s : List ℕ) (i k : ℕ) → 0 < k → get_or s i 0 ≡ k → i < length s
within_bytes [] i k h e = let x : ⊥ = omega arith in absurd x
within_bytes (b ∷ s) zero k h e = omega arith
within_bytes (b ∷ s) (suc i) k h e = omega (arith, within_bytes s i k h e)
