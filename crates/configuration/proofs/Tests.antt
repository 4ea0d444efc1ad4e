-- The steps of the loops that test every element of a list.
use mathlib.Core.Path.{◌≡◌, refl, sym, ap, ◌∙◌}
use mathlib.Core.Bool.{Bool, true, false, ◌&&◌}
use mathlib.Core.List.{List, [], ◌∷◌}
use Prim.Native.Nat.{ℕ, suc, ◌+◌, ◌≤◌, ◌<◌}
use native.Mathlib.Numerals.{add-one}
use lib.ListN.{length, get_or, drop, drop_of_length-le}
use lib.Seq.{drop-cons}

-- ---- a test of every element, from the first on
module _ {A : Type 0} (test : A → Bool) (every : List A → Bool)
    (none : every [] ≡ true) (more : (x : A) (l : List A) → every (x ∷ l) ≡ (test x && every l)) (l : List A) (i : ℕ) (z : A) where
  next : i < length l → every (drop i l) ≡ (test (get_or l i z) && every (drop (suc i) l))
  next h = ap every (drop-cons l i z h) ∙ more (get_or l i z) (drop (suc i) l)

  -- an element that fails it
  pub stops : i < length l → test (get_or l i z) ≡ false → every (drop i l) ≡ every l → false ≡ every l
  stops h e inv = sym (rw e at (next h)) ∙ inv

  -- one that passes it
  pub goes_on : i < length l → test (get_or l i z) ≡ true → every (drop i l) ≡ every l → every (drop (i + 1) l) ≡ every l
  goes_on h e inv = rw add-one (sym (rw e at (next h)) ∙ inv)

  -- none is left
  pub ends : length l ≤ i → every (drop i l) ≡ every l → true ≡ every l
  ends h inv = sym none ∙ ap every (sym (drop_of_length-le l h)) ∙ inv

  -- b tells whether those before i pass it: every element passes just if these do and those that are left
  module _ (b : Bool) (inv : (b && every (drop i l)) ≡ every l) where
    pub one_joined : (c : Bool) → c ≡ (b && test (get_or l i z)) → i < length l → (c && every (drop (i + 1) l)) ≡ every l
    one_joined c q h = rw q (go b inv (test (get_or l i z)) refl)
      where
        go : (b : Bool) → (b && every (drop i l)) ≡ every l → (t : Bool) → test (get_or l i z) ≡ t → ((b && t) && every (drop (i + 1) l)) ≡ every l
        go true r true e = goes_on h e r
        go true r false e = stops h e r
        go false r t e = r

    pub all_joined : length l ≤ i → b ≡ every l
    all_joined h = go b inv
      where
        go : (b : Bool) → (b && every (drop i l)) ≡ every l → b ≡ every l
        go true r = ends h r
        go false r = r
