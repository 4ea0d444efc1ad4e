-- The weights of the lines of a table are those of their rows.
use mathlib.Core.Path.{◌≡◌, refl}
use mathlib.Core.Bool.{Bool, true, false, not, cond, ◌&&◌}
use mathlib.Core.List.{List, [], ◌∷◌, map}
use Prim.Native.Nat.{ℕ}
use lib.IntN.{ℤ, pos}
use lib.ListN.{get_or}
use Rattle.configuration.specs.Weight.{is_negative, none_negative}
use Rattle.configuration.specs.Configuration.{any_negative}
use Rattle.table.specs.Rows.{Table, row_of, lines_at}

abbrev pub weights_at : List ℤ → List ℕ → List ℤ
weights_at ws is = map (λ e. get_or ws (row_of e) (pos 0)) is

pub weights_sign : (t : Table) (is : List ℕ) → none_negative (weights_at t.weights is) ≡ not (any_negative (lines_at t is))
unfolding none_negative any_negative
weights_sign t [] = refl
weights_sign t (e ∷ is) = go (is_negative (get_or t.weights (row_of e) (pos 0))) (weights_sign t is)
  where
    go : (b : Bool) → none_negative (weights_at t.weights is) ≡ not (any_negative (lines_at t is))
        → (not b && none_negative (weights_at t.weights is)) ≡ not (cond b true (any_negative (lines_at t is)))
    go true r = refl
    go false r = r
