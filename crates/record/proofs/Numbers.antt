-- What std reads off bytes, in the words of Record.antt: a byte, and the bytes from a place on as a number. Assumes nothing.
use mathlib.Core.Path.{◌≡◌, refl, sym, ap, ◌∙◌}
use mathlib.Core.Bool.{true, cond}
use lib.Dec.{ltb}
use mathlib.Core.List.{List, [], ◌∷◌}
use Prim.Native.Nat.{ℕ, zero, suc, ◌+◌, ◌-◌, ◌*◌, ◌^◌, ◌≤◌}
use native.Mathlib.Nat.{add_assoc, mul-zero, mul_comm, mul-add, mul_assoc, pow-succ'}
use native.Mathlib.Omega.{arith}
use lib.IntN.{ℤ, pos, negsuc}
use lib.ListN.{length, drop, get_or}
use mir.Syntax.{w32, w64}
use mir.Val.{to_z}
use borrow.Author.Tests.{le-leb}
use Rattle.std.specs.Array.{IsFirstChunk}
use Rattle.std.specs.Int.{byte_worth, sum_through, from_le_bytes}
use Rattle.std.specs.List.{slice_get, slice_range}
use Rattle.std.specs.declared.option.Option.{Option}
use Rattle.std.specs.declared.option.Option.TheVariants.{Some, None}
use Rattle.std.specs.Option.{option_copied}
use Rattle.std.specs.Slice.{IsItemAt}
use Rattle.std.specs.Borrow.{Bor}
use Rattle.std.proofs.lemmas.Option.{slice_get-get_or, slice_get_past, slice_get_read}
use Rattle.std.proofs.lemmas.List.{take_all}
use Rattle.std.proofs.lemmas.Bool.Decides.{nat_tests}
use Rattle.std.proofs.Common.{length-drop}
use Rattle.record.specs.RecordLaws.{little_take}
use Rattle.record.specs.Record.{little_endian, number_at, signed, whole, byte_in, mask_in, amount_in}

-- ---- a byte
first_byte : (s : List ℕ) → little_endian 1 s ≡ get_or s 0 0
unfolding little_endian
first_byte [] = refl
first_byte (b ∷ s) = omega arith

pub one_byte : (s : List ℕ) (at : ℕ) → number_at 1 s at ≡ get_or s at 0
one_byte s zero = first_byte s
one_byte [] (suc at) = first_byte []
one_byte (b ∷ s) (suc at) = one_byte s at

byte_is : (s : List ℕ) (at : ℕ) → slice_get s at ≡ byte_in s at
byte_is s at = grind (arith, nat_tests, slice_get-get_or, slice_get_past, one_byte)

pub byte_read : (s : List ℕ) (at : ℕ) (o : Option (Bor ℕ)) → IsItemAt s at o → option_copied o ≡ byte_in s at
byte_read s at None h = sym (slice_get_past s at h.3) ∙ byte_is s at
byte_read s at (Some x) h = sym (slice_get_read s (length s) at x.now refl h.3.0 h.1) ∙ byte_is s at

-- ---- k bytes, the last of them apart
top_byte : (k : ℕ) (s : List ℕ) → little_endian (suc k) s ≡ little_endian k s + 256 ^ k * get_or s k 0
unfolding little_endian
top_byte zero [] = refl
top_byte zero (b ∷ s) = omega arith
top_byte (suc k) [] = simp mul-zero
top_byte (suc k) (b ∷ s) = rw (top_byte k s, pow-succ', mul-add, mul_assoc, add_assoc)

in_order : (k : ℕ) (s : List ℕ) → little_endian (suc k) s ≡ sum_through (λ i. byte_worth i (get_or s i 0)) k
in_order zero s = first_byte s
in_order (suc k) s = rw (top_byte (suc k) s, in_order k s, mul_comm (256 ^ suc k))

-- ---- the signed number of 64 bits
signed_is : (x : ℕ) → to_z w64 x ≡ signed x
signed_is x = let e : 18446744073709551616 - suc x ≡ 18446744073709551615 - x = omega arith in ap (λ (n : ℕ). cond (ltb x (2 ^ 63)) (pos x) (negsuc n)) e

-- ---- the first k bytes of those from a place on
module _ (s rest chunk : List ℕ) (at k : ℕ) (inside : at ≤ length s) (from : rest ≡ slice_range s at (length s)) (first : IsFirstChunk rest chunk k) where
  is_rest : rest ≡ drop at s
  is_rest = from ∙ take_all (length s - at) (drop at s) (omega (arith, length-drop at s))

  is_whole : whole k s at ≡ true
  is_whole = le-leb (at + k) (length s) (omega (arith, first.enough, ap length is_rest, length-drop at s))

  is_number : number_at k s at ≡ little_endian k chunk
  is_number = sym (ap (little_endian k) is_rest) ∙ sym (little_take k k rest (omega arith)) ∙ sym (ap (little_endian k) first.same)

pub mask_read : (s rest chunk : List ℕ) (at r : ℕ) → at ≤ length s → rest ≡ slice_range s at (length s) → IsFirstChunk rest chunk 4
    → r ≡ from_le_bytes w32 chunk → Some r ≡ mask_in s at
mask_read s rest chunk at r i f c e = rw (is_whole s rest chunk at 4 i f c, is_number s rest chunk at 4 i f c, in_order 3 chunk) (ap Some e)

pub amount_read : (s rest chunk : List ℕ) (at : ℕ) (r : ℤ) → at ≤ length s → rest ≡ slice_range s at (length s) → IsFirstChunk rest chunk 8
    → r ≡ to_z w64 (from_le_bytes w64 chunk) → Some r ≡ amount_in s at
amount_read s rest chunk at r i f c e = rw (is_whole s rest chunk at 8 i f c, is_number s rest chunk at 8 i f c, in_order 7 chunk) (ap Some (e ∙ signed_is _))
