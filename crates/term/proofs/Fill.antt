-- A loop that writes f of each element of one run into another, from the front.
use mathlib.Core.Path.{◌≡◌, sym, ap, ap₂, ◌∙◌}
use mathlib.Core.List.{List, [], ◌∷◌, ◌++◌, map, map-append}
use Prim.Native.Nat.{ℕ, ◌+◌, ◌<◌}
use native.Mathlib.Numerals.{add-one}
use lib.ListN.{length, get_or, take, set}
use lib.Seq.{take-suc, take-suc-set}

-- one turn more
pub fill_more : (f : ℕ → ℕ) (s out : List ℕ) (i v : ℕ) → i < length s → i < length out → v ≡ f (get_or s i 0)
    → take i out ≡ map f (take i s) → take (i + 1) (set out i v) ≡ map f (take (i + 1) s)
fill_more f s out i v hs ho e inv =
    ap (λ (k : ℕ). take k (set out i v)) (add-one i) ∙ take-suc-set out i v ho
    ∙ ap₂ (λ (l : List ℕ) (x : ℕ). l ++ (x ∷ [])) inv e
    ∙ sym (ap (λ (k : ℕ). map f (take k s)) (add-one i) ∙ ap (map f) (take-suc s i 0 hs) ∙ map-append f (take i s) (get_or s i 0 ∷ []))
