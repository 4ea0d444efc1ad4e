-- Each number of a list is below a bound, also where part of it is written.
use mathlib.Core.List.{List, [], ◌∷◌, ◌++◌}
use Prim.Native.Nat.{ℕ, zero, suc, ◌+◌, ◌<◌}
use lib.ListN.{get_or, take, drop, replicate}
use lib.Seq.{get_or-drop}

module _ (b : ℕ) (p : 0 < b) where
  abbrev pub Below : List ℕ → Type 0
  Below l = (j : ℕ) → get_or l j 0 < b

  append_below : (l m : List ℕ) → Below l → Below m → Below (l ++ m)
  append_below [] m h k j = k j
  append_below (x ∷ l) m h k zero = h 0
  append_below (x ∷ l) m h k (suc j) = append_below l m (λ i. h (suc i)) k j

  take_below : (n : ℕ) (l : List ℕ) → Below l → Below (take n l)
  take_below zero l h j = p
  take_below (suc n) [] h j = p
  take_below (suc n) (x ∷ l) h zero = h 0
  take_below (suc n) (x ∷ l) h (suc j) = take_below n l (λ i. h (suc i)) j

  drop_below : (n : ℕ) (l : List ℕ) → Below l → Below (drop n l)
  drop_below n l h j = rw (get_or-drop n l j 0) (h (n + j))

  pub write_below : (at n : ℕ) (f l : List ℕ) → Below f → Below l → Below (take at l ++ (f ++ drop n l))
  write_below at n f l h k = append_below (take at l) (f ++ drop n l) (take_below at l k) (append_below f (drop n l) h (drop_below n l k))

  pub nought_below : (n : ℕ) → Below (replicate n 0)
  nought_below zero j = p
  nought_below (suc n) zero = p
  nought_below (suc n) (suc j) = nought_below n j
