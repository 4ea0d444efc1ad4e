-- Changes weighed one by one, and the places and weights that their list gives.
use mathlib.Core.Path.{◌≡◌, refl, sym, ap, ◌∙◌}
use mathlib.Core.Bool.{cond}
use mathlib.Core.List.{List, [], ◌∷◌, ◌++◌, append-nil}
use Prim.Native.Nat.{ℕ, zero, suc, ◌+◌, ◌-◌, ◌≤◌, ◌<◌, ◌^◌}
use native.Mathlib.Nat.{le_of_suc-le-suc, not-suc-le-zero}
use native.Mathlib.Numerals.{add-one}
use native.Mathlib.Omega.{arith}
use lib.Dec.{T}
use lib.IntN.{ℤ, pos, ◌+ℤ◌}
use Rattle.std.proofs.lemmas.List.{drop-set-lt}
use lib.ListN.{length, get_or, set, take, drop, take-append-drop, drop_of_length-le}
use lib.Seq.{drop-cons, take-suc-set, append_snoc}
use lib.Signed.{mag}
use Rattle.configuration.specs.Weight.{limit, is_zero}
use Rattle.configuration.specs.Configuration.{Line, line, weight, place_of, IsInOrder, weights_fit}
use Rattle.configuration.specs.PlaceLaws.{fit_weight}
use mir.Syntax.{w64}
use mir.Val.{SFits, to_z, of_z}
use Rattle.configuration.proofs.Weights.{read_back}
use Rattle.configuration.specs.WeightLaws.{mag-add, in_range-mag}
use Rattle.table.specs.Table.{terms_at, weight_at}
use Rattle.table.specs.TableLaws.{lines_after}
use Rattle.replacement.specs.Passes.{IsSmall, weights_before, weights_after, places_in, shifted}
use Rattle.replacement.specs.Replacing.{places, old_weights, new_weights, weighed_in, moved_down}
use Rattle.replacement.specs.declared.changes.Weighed.{Weighed}

pub small_at : (k : ℕ) (N : List Line) (i : ℕ) → IsSmall k N → i < length N → mag (weight_at N i) < 2 ^ k
small_at k [] i s h = absurd (not-suc-le-zero h)
small_at k (line f w ∷ N) zero s h = s.0
small_at k (line f w ∷ N) (suc i) s h = small_at k N i s.1 (le_of_suc-le-suc h)

-- a weight in L and an amount, as code reads and adds them
module _ (L : List Line) (f : List ℕ) (w : ℤ) (r : IsInOrder L) (h : T (weights_fit L)) (q : mag w < 2 ^ 45) where
  held_mag : mag (weight L f) ≤ limit
  held_mag = in_range-mag (weight L f) (fit_weight L r h f)

  pub sum_small : mag (weight L f +ℤ w) < 2 ^ 63
  sum_small = omega (arith, held_mag, mag-add (weight L f) w)

  module _ (a b : ℤ) (x : a ≡ weight L f) (y : b ≡ w) where
    pub held_is : to_z w64 (of_z w64 a) ≡ weight L f
    held_is = rw x (read_back (weight L f) (omega (arith, held_mag)))

    amount_is : to_z w64 (of_z w64 b) ≡ w
    amount_is = rw y (read_back w (omega arith))

    pub sum_fits : SFits w64 (to_z w64 (of_z w64 a) +ℤ to_z w64 (of_z w64 b))
    sum_fits = rw (held_is, amount_is) (record { sfits = sum_small })

    pub sum_is : to_z w64 (of_z w64 (to_z w64 (of_z w64 a) +ℤ to_z w64 (of_z w64 b))) ≡ weight L f +ℤ w
    sum_is = rw (held_is, amount_is) (read_back (weight L f +ℤ w) sum_small)

-- ---- one change more is weighed, and when all are
module _ (N L : List Line) (i : ℕ) (K : List Weighed) where
  pub weighed_more : (p : ℕ) (u v : ℤ) → i < length N → i < length K
      → p ≡ place_of (terms_at N i) L → u ≡ weight L (terms_at N i) → v ≡ weight L (terms_at N i) +ℤ weight_at N i
      → take i K ++ weighed_in (drop i N) L ≡ weighed_in N L
      → take (i + 1) (set K i (record { at = p; before = u; after = v })) ++ weighed_in (drop (i + 1) N) L ≡ weighed_in N L
  unfolding weighed_in
  weighed_more p u v hn hk x y z inv =
      let k : Weighed = record { at = p; before = u; after = v } in
      let s : take (i + 1) (set K i k) ≡ take i K ++ (k ∷ []) = rw add-one (take-suc-set K i k hk) in
      rw (s, append_snoc (take i K) k (weighed_in (drop (i + 1) N) L), x, y, z) (rw (lines_after N i hn) at inv)

  pub weighed_all : i ≡ length N → take i K ++ weighed_in (drop i N) L ≡ weighed_in N L → take (length N) K ≡ weighed_in N L
  unfolding weighed_in
  weighed_all e inv = let h : length N ≤ i = omega arith in rw (← e) (sym (append-nil (take i K)) ∙ rw (drop_of_length-le N h) at inv)

-- ---- what the weighed changes are
pub length_weighed : (N L : List Line) → length (weighed_in N L) ≡ length N
unfolding weighed_in
length_weighed [] L = refl
length_weighed (line f w ∷ N) L = ap suc (length_weighed N L)

pub places_weighed : (N L : List Line) → places (weighed_in N L) ≡ places_in N L
unfolding weighed_in places_in
places_weighed [] L = refl
places_weighed (line f w ∷ N) L = ap (λ (l : List ℕ). place_of f L ∷ l) (places_weighed N L)

pub old_weighed : (N L : List Line) → old_weights (weighed_in N L) ≡ weights_before N L
unfolding weighed_in weights_before
old_weighed [] L = refl
old_weighed (line f w ∷ N) L = ap (λ (l : List ℤ). weight L f ∷ l) (old_weighed N L)

pub new_weighed : (N L : List Line) → new_weights (weighed_in N L) ≡ weights_after N L
unfolding weighed_in weights_after
new_weighed [] L = refl
new_weighed (line f w ∷ N) L = ap (λ (l : List ℤ). (weight L f +ℤ w) ∷ l) (new_weighed N L)

-- ---- and where they stand when those that vanish are gone
pub length_moved : (g : ℕ) (K : List Weighed) → length (moved_down g K) ≡ length K
unfolding moved_down
length_moved g [] = refl
length_moved g (k ∷ K) = ap suc (length_moved (cond (is_zero k.after) (suc g) g) K)

pub places_moved : (g : ℕ) (K : List Weighed) → places (moved_down g K) ≡ shifted g (new_weights K) (places K)
unfolding moved_down shifted
places_moved g [] = refl
places_moved g (k ∷ K) = ap (λ (l : List ℕ). (k.at - g) ∷ l) (places_moved (cond (is_zero k.after) (suc g) g) K)

pub old_moved : (g : ℕ) (K : List Weighed) → old_weights (moved_down g K) ≡ old_weights K
unfolding moved_down
old_moved g [] = refl
old_moved g (k ∷ K) = ap (λ (l : List ℤ). k.before ∷ l) (old_moved (cond (is_zero k.after) (suc g) g) K)

pub new_moved : (g : ℕ) (K : List Weighed) → new_weights (moved_down g K) ≡ new_weights K
unfolding moved_down
new_moved g [] = refl
new_moved g (k ∷ K) = ap (λ (l : List ℤ). k.after ∷ l) (new_moved (cond (is_zero k.after) (suc g) g) K)

abbrev pub unknown : Weighed
unknown = record { at = 0; before = pos 0; after = pos 0 }

module _ (g i : ℕ) (K : List Weighed) where
  pub moved_more : (h : ℕ) (k : Weighed) → i < length K → k ≡ record (get_or K i unknown) { at = (get_or K i unknown).at - g }
      → h ≡ cond (is_zero (get_or K i unknown).after) (suc g) g
      → take i K ++ moved_down g (drop i K) ≡ take (i + 1) (set K i k) ++ moved_down h (drop (i + 1) (set K i k))
  unfolding moved_down
  moved_more h k l e d =
      let s : take (i + 1) (set K i k) ≡ take i K ++ (k ∷ []) = rw add-one (take-suc-set K i k l) in
      let t : drop (i + 1) (set K i k) ≡ drop (i + 1) K = drop-set-lt (i + 1) K i k (omega arith) in
      rw (s, t, append_snoc (take i K) k (moved_down h (drop (i + 1) K)), e, d, add-one, drop-cons K i unknown l)

  pub moved_all : length K ≤ i → take i K ++ moved_down g (drop i K) ≡ K
  unfolding moved_down
  moved_all h =
      let e : moved_down g (drop i K) ≡ drop i K = rw (drop_of_length-le K h) refl in
      ap (λ (D : List Weighed). take i K ++ D) e ∙ take-append-drop i K
