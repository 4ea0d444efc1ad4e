-- The code of a listing turn by turn: the texts that are left, added to the code that is there.
use mathlib.Core.Path.{◌≡◌, ap, ap₂, ◌∙◌}
use mathlib.Core.List.{List}
use Prim.Native.Nat.{ℕ, suc, ◌+◌, ◌-◌, ◌≤◌, ◌<◌}
use native.Mathlib.Numerals.{add-one}
use native.Mathlib.Omega.{arith}
use lib.ListN.{length, take}
use Rattle.fnv.specs.Fnv.{basis, add_bytes}
use Rattle.configuration.specs.Configuration.{Line}
use Rattle.listing.specs.Listing.{text_of}
use Rattle.listing.specs.Writing.{overwritten}
use Rattle.listing.specs.Code.{code_of}
use Rattle.listing.specs.CodeLaws.{codes_from, code_of_lines}
use Rattle.listing.proofs.Writes.{written_front}

module _ (last n : ℕ) (H : List (List ℕ)) (L : List Line) where
  pub all_left : (code : ℕ) → last ≡ length H + length L → code ≡ basis → codes_from (suc last - 0) 0 code n H L ≡ code_of n H L
  all_left code h e =
      let l : suc last - 0 ≡ suc (length H + length L) = omega arith in
      rw (l, e) (code_of_lines n H L)

  -- the text of the next number is added from the front of the bytes that it was written to
  pub one_less : (number code : ℕ) (area bytes : List ℕ) (size next : ℕ) → number ≤ last
      → size ≡ length (text_of number n H L) → bytes ≡ overwritten area 0 (text_of number n H L) → next ≡ add_bytes code (take size bytes)
      → codes_from (suc last - (number + 1)) (number + 1) next n H L ≡ codes_from (suc last - number) number code n H L
  unfolding codes_from
  one_less number code area bytes size next h s b e =
      let text : List ℕ = text_of number n H L in
      let k : suc last - number ≡ suc (suc last - (number + 1)) = omega arith in
      let f : next ≡ add_bytes code text = e ∙ ap (add_bytes code) (ap₂ take s b ∙ written_front area text) in
      rw (k, f, add-one)

  pub none_left : (number code : ℕ) → last < number → codes_from (suc last - number) number code n H L ≡ code
  unfolding codes_from
  none_left number code h = let k : suc last - number ≡ 0 = omega arith in rw k
