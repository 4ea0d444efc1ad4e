-- The laws of the code. Assumes nothing.
use Rattle.std.specs.Prelude.{◌≡◌, ℕ, List, [], ◌∷◌, ◌++◌, refl}
use Rattle.std.proofs.Common.{ap}
use Rattle.fnv.specs.Fnv.{basis, add_byte, add_bytes}

-- bytes may be added in parts
pub add_append : (code : ℕ) (s t : List ℕ) → add_bytes code (s ++ t) ≡ add_bytes (add_bytes code s) t
unfolding add_bytes
add_append code [] t = refl
add_append code (b ∷ bs) t = add_append (add_byte code b) bs t

-- equal bytes have equal codes
pub equal_bytes : (s t : List ℕ) → s ≡ t → add_bytes basis s ≡ add_bytes basis t
equal_bytes s t e = ap (add_bytes basis) e
