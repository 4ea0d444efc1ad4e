-- What the code of a replacement has in hand: changes with what is known of them, and the tests of the lines that would be left.
use Rattle.std.specs.Prelude.{Bool, cond, List, [], ◌∷◌, map, ℕ, suc, ◌+◌, ◌-◌, leb, ℤ, ◌+ℤ◌}
use Rattle.refusal.specs.Outcome.{Test, test}
use Rattle.configuration.specs.Weight.{is_zero, all_in_range}
use Rattle.configuration.specs.Configuration.{Line, line, weight, place_of}
use Rattle.replacement.specs.Passes.{count_held, selected, Placed}
use Rattle.replacement.specs.declared.changes.Weighed.{Weighed}

abbrev pub places : List Weighed → List ℕ
places K = map (λ k. k.at) K

abbrev pub old_weights : List Weighed → List ℤ
old_weights K = map (λ k. k.before) K

abbrev pub new_weights : List Weighed → List ℤ
new_weights K = map (λ k. k.after) K

-- the changes N as they are known in L
unfoldable pub weighed_in : List Line → List Line → List Weighed
weighed_in [] L = []
weighed_in (line f w ∷ N) L = record { at = place_of f L; before = weight L f; after = weight L f +ℤ w } ∷ weighed_in N L

-- the limits on n lines and on weights, by what is known of the changes
abbrev pub limit_tests : ℕ → List Weighed → List Test
limit_tests n K = test 10 (leb (n + count_held (new_weights K)) (128 + count_held (old_weights K))) ∷ test 11 (all_in_range (new_weights K)) ∷ []

-- the changes of N that vanish, or those that do not
abbrev pub chosen : Bool → List Weighed → List Line → List Line
chosen b K N = selected b (new_weights K) N

-- they are known as they are in L
abbrev pub IsPlaced : Bool → List Weighed → List Line → List Line → Type 0
IsPlaced b K N L = Placed b (new_weights K) N (places K) (old_weights K) L

-- places from which the lines that vanish, g of them so far, are gone
unfoldable pub moved_down : ℕ → List Weighed → List Weighed
moved_down g [] = []
moved_down g (k ∷ K) = record k { at = k.at - g } ∷ moved_down (cond (is_zero k.after) (suc g) g) K
