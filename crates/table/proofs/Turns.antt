-- Writing the entries of a fresh order, row by row.
use mathlib.Core.Path.{◌≡◌, sym}
use mathlib.Core.List.{List, ◌++◌, append-nil}
use Prim.Native.Nat.{ℕ, suc, ◌+◌, ◌-◌, ◌≤◌, ◌<◌}
use native.Mathlib.Numerals.{add-one}
use native.Mathlib.Omega.{arith}
use lib.ListN.{length, take, set}
use lib.Seq.{append_snoc, take-suc-set, take_all}
use Rattle.table.specs.Rows.{in_turn}

-- one entry more
pub turn_more : (l : List ℕ) (n i : ℕ) → i < n → i < length l → take (i + 1) (set l i i) ++ in_turn (n - (i + 1)) (i + 1) ≡ take i l ++ in_turn (n - i) i
unfolding in_turn
turn_more l n i h k =
    let m : n - i ≡ suc (n - suc i) = omega arith in
    rw (add-one i, take-suc-set l i i k, append_snoc (take i l) i (in_turn (n - suc i) (suc i)), m)

-- no entry is left
pub turn_end : (l : List ℕ) (n i : ℕ) → n ≤ i → length l ≤ i → l ≡ take i l ++ in_turn (n - i) i
unfolding in_turn
turn_end l n i h k =
    let m : n - i ≡ 0 = omega arith in
    rw (m, take_all i l k) (sym (append-nil l))
