-- What is known of a polynomial f among lines in order, by its place and whether it is held: its weight, and what folding it in does.
use mathlib.Core.Path.{◌≡◌, refl, sym, ap, ◌∙◌}
use mathlib.Core.Bool.{Bool, true, false, not}
use mathlib.Core.List.{List, [], ◌∷◌, ◌++◌}
use Prim.Native.Nat.{ℕ, suc, ◌+◌, ◌≤◌, ◌<◌}
use native.Mathlib.Omega.{arith}
use lib.Dec.{T}
use lib.IntN.{ℤ, pos, ◌+ℤ◌}
use lib.ListN.{length, get_or, take, drop, length-append, take-append-drop}
use Rattle.configuration.specs.Weight.{is_zero}
use Rattle.configuration.specs.Configuration.{Line, line, polynomial_of, some, weight, keep, add, IsInOrder, place_of}
use Rattle.configuration.specs.PlaceLaws.{IsFresh, place_le, fold_held, fold_new, weight_held, weight_new}
use Rattle.table.specs.Table.{no_line, terms_at, weight_in, weight_at, Located}
use Rattle.table.proofs.Held.{held_line, IsFresh-line, held_weight}

-- its place and its weight tell both
pub Located-by : {L : List Line} {f : List ℕ} {at : ℕ} {w : ℤ} → IsInOrder L → at ≡ place_of f L → w ≡ weight L f → Located L f at (not (is_zero w))
Located-by {L} {f} r p e = record { place = p; is = rw e (sym (held_weight f L r)) }

module _ {L : List Line} (r : IsInOrder L) {f : List ℕ} {at : ℕ} {b : Bool} (x : Located L f at b) where
  pub in_reach : at ≤ length L
  in_reach = omega (arith, x.place, place_le f L)

  -- ---- f is held
  module _ (e : b ≡ true) where
    line_here : (place_of f L < length L) × ((u : ℤ) × (get_or L (place_of f L) no_line ≡ line f u))
    line_here = held_line f no_line L (sym x.is ∙ e)

    abbrev u : ℤ
    u = line_here.1.0

    line_there : get_or L at no_line ≡ line f u
    line_there = ap (λ (i : ℕ). get_or L i no_line) x.place ∙ line_here.1.1

    pub among_lines : at < length L
    among_lines = rw x.place line_here.0

    pub terms_here : terms_at L at ≡ f
    terms_here = ap polynomial_of line_there

    weight_u : weight L f ≡ u
    weight_u = weight_held f L u no_line r line_here.0 line_here.1.1

    pub weight_here : weight L f ≡ weight_at L at
    weight_here = weight_u ∙ sym (ap weight_in line_there)

    module _ (w : ℤ) (n : T (some f)) where
      add_held : add f w L ≡ take at L ++ keep f (weight L f +ℤ w) (drop (suc at) L)
      add_held = rw (x.place, weight_u) (fold_held f w L u no_line n line_here.0 line_here.1.1)

      pub add_gone : is_zero (weight L f +ℤ w) ≡ true → add f w L ≡ take at L ++ drop (suc at) L
      add_gone z = add_held ∙ rw z

      pub add_changed : is_zero (weight L f +ℤ w) ≡ false → add f w L ≡ take at L ++ line (terms_at L at) (weight L f +ℤ w) ∷ drop (suc at) L
      add_changed z = add_held ∙ rw (z, terms_here)

  -- ---- f is not held
  module _ (e : b ≡ false) where
    fresh : (g : List ℕ) × ((u : ℤ) × IsFresh f L g u no_line)
    fresh = IsFresh-line f no_line L (sym x.is ∙ e)

    pub weight_nought : weight L f ≡ pos 0
    weight_nought = weight_new f L fresh.0 fresh.1.0 no_line r fresh.1.1

    module _ (w : ℤ) (n : T (some f)) where
      add_new : add f w L ≡ take at L ++ keep f w (drop at L)
      add_new = rw x.place (fold_new f w L fresh.0 fresh.1.0 no_line n fresh.1.1)

      pub add_nought : is_zero w ≡ true → L ≡ add f w L
      add_nought z = sym (add_new ∙ rw z (take-append-drop at L))

      pub add-line : is_zero w ≡ false → add f w L ≡ take at L ++ line f w ∷ drop at L
      add-line z = add_new ∙ rw z

      pub add_room : (c : ℕ) → is_zero w ≡ false → length (add f w L) ≤ c → length L < c
      add_room c z l =
          let d : length (add f w L) ≡ length (take at L) + suc (length (drop at L)) = ap length (add-line z) ∙ length-append (take at L) (line f w ∷ drop at L) in
          let k : length L ≡ length (take at L) + length (drop at L) = rw (take-append-drop at L) at (length-append (take at L) (drop at L)) in
          omega arith

-- the polynomial 0 is not folded in
pub add_none : (f : List ℕ) (w : ℤ) (L : List Line) → length f ≡ 0 → add f w L ≡ L
unfolding add
add_none [] w L e = refl
add_none (t ∷ f) w L e = let z : ⊥ = omega arith in absurd z
