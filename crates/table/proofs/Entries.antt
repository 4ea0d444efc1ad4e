-- An order with each row once, when an entry is put in, goes, or is looked at among the others.
use mathlib.Core.Path.{◌≡◌, refl, sym, ap}
use mathlib.Core.List.{List, [], ◌∷◌, ◌++◌, map, append_assoc}
use Prim.Native.Nat.{ℕ, zero, suc, ◌+◌, ◌≤◌, ◌<◌}
use native.Mathlib.Nat.{le_of_suc-le-suc, not-suc-le-zero}
use native.Mathlib.Numerals.{add-one}
use native.Mathlib.Omega.{arith}
use lib.ListN.{length, get_or, take, drop, length-append, length-take, length-drop, take-append-drop}
use lib.Seq.{slice, take-take, split_at}
use Rattle.table.specs.Rows.{row_of, Each, Misses, Once}

-- ---- what is made of each element of a list
module _ {A B : Type 0} (f : A → B) where
  pub map-append : (l m : List A) → map f (l ++ m) ≡ map f l ++ map f m
  map-append [] m = refl
  map-append (x ∷ l) m = ap (λ (r : List B). f x ∷ r) (map-append l m)

  pub map-take : (n : ℕ) (l : List A) → map f (take n l) ≡ take n (map f l)
  map-take zero l = refl
  map-take (suc n) [] = refl
  map-take (suc n) (x ∷ l) = ap (λ (r : List B). f x ∷ r) (map-take n l)

  pub map-drop : (n : ℕ) (l : List A) → map f (drop n l) ≡ drop n (map f l)
  map-drop zero l = refl
  map-drop (suc n) [] = refl
  map-drop (suc n) (x ∷ l) = map-drop n l

-- ---- a fact of each entry
module _ (P : ℕ → Type 0) where
  pub Each-append : (is js : List ℕ) → Each P is → Each P js → Each P (is ++ js)
  Each-append [] js a b = b
  Each-append (e ∷ is) js a b = (a.0, Each-append is js a.1 b)

  pub Each-front : (is js : List ℕ) → Each P (is ++ js) → Each P is
  Each-front [] js a = tt
  Each-front (e ∷ is) js a = (a.0, Each-front is js a.1)

  pub Each-rest : (is js : List ℕ) → Each P (is ++ js) → Each P js
  Each-rest [] js a = a
  Each-rest (e ∷ is) js a = Each-rest is js a.1

  pub Each-take : (n : ℕ) (is : List ℕ) → Each P is → Each P (take n is)
  Each-take zero is a = tt
  Each-take (suc n) [] a = tt
  Each-take (suc n) (e ∷ is) a = (a.0, Each-take n is a.1)

  pub Each-drop : (n : ℕ) (is : List ℕ) → Each P is → Each P (drop n is)
  Each-drop zero is a = a
  Each-drop (suc n) [] a = tt
  Each-drop (suc n) (e ∷ is) a = Each-drop n is a.1

-- ---- an order with each row once
-- entries in which one is put in at a place, before the n-th, which goes
abbrev pub with_entry : ℕ → ℕ → ℕ → List ℕ → List ℕ
with_entry at n e is = take at is ++ (e ∷ (slice at n is ++ drop (n + 1) is))

-- entries of which the one at a place goes, and another is put in behind the n-th
abbrev pub without_entry : ℕ → ℕ → ℕ → List ℕ → List ℕ
without_entry at n e is = take at is ++ (slice (at + 1) n is ++ (e ∷ drop n is))

-- ---- parts of a list that join
slice-drop : (a n : ℕ) (l : List ℕ) → a ≤ n → slice a n l ++ drop n l ≡ drop a l
slice-drop zero n l h = take-append-drop n l
slice-drop (suc a) zero l h = absurd (not-suc-le-zero h)
slice-drop (suc a) (suc n) [] h = refl
slice-drop (suc a) (suc n) (x ∷ l) h = slice-drop a n l (le_of_suc-le-suc h)

take-slice : (a n : ℕ) (l : List ℕ) → a ≤ n → take a l ++ slice a n l ≡ take n l
take-slice a n l h = rw (← take-take a n l h) (take-append-drop a (take n l))

-- ---- an entry goes to the front, or comes from there
Once-front : (c e : ℕ) (is js : List ℕ) → Once c (is ++ (e ∷ js)) → Once c (e ∷ (is ++ js))
Once-front c e [] js o = o
Once-front c e (a ∷ is) js o =
    let q : Once c (e ∷ (is ++ js)) = Once-front c e is js o.1.1 in
    let m : Misses (row_of a) (e ∷ js) = Each-rest _ is (e ∷ js) o.1.0 in
    (q.0, (((λ z. m.0 (sym z)), q.1.0), (o.0, (Each-append _ is js (Each-front _ is (e ∷ js) o.1.0) m.1, q.1.1))))

Once-back : (c e : ℕ) (is js : List ℕ) → Once c (e ∷ (is ++ js)) → Once c (is ++ (e ∷ js))
Once-back c e [] js o = o
Once-back c e (a ∷ is) js o =
    let q : Once c (a ∷ (is ++ js)) = o.1.1 in
    let m : Misses (row_of e) (a ∷ (is ++ js)) = o.1.0 in (
      q.0,
      (
        Each-append _ is (e ∷ js) (Each-front _ is js q.1.0) ((λ z. m.0 (sym z)), Each-rest _ is js q.1.0),
        Once-back c e is js (o.0, (m.1, q.1.1)),
      ),
    )

-- the entry at a place goes to the front, and becomes another of the same row
pub Once-at : (c at e : ℕ) (is : List ℕ) → Once c is → at < length is → row_of e ≡ row_of (get_or is at 0) → Once c (e ∷ (take at is ++ drop (suc at) is))
Once-at c at e is o h q = rw q (Once-front c (get_or is at 0) (take at is) (drop (suc at) is) (rw (← split_at is at 0 h) o))

pub Once-take : (c n : ℕ) (is : List ℕ) → Once c is → Once c (take n is)
Once-take c zero is o = tt
Once-take c (suc n) [] o = tt
Once-take c (suc n) (e ∷ is) o = (o.0, (Each-front _ (take n is) (drop n is) (rw (take-append-drop n is) o.1.0), Once-take c n is o.1.1))

module _ (c at n e : ℕ) (is : List ℕ) (o : Once c is) where
  pub with_once : at ≤ n → n < length is → row_of e ≡ row_of (get_or is n 0) → Once c (with_entry at n e is)
  with_once h q r = Once-back c e (take at is) (slice at n is ++ drop (n + 1) is)
      (rw (add-one n, ← append_assoc (take at is) (slice at n is) (drop (suc n) is), take-slice at n is h) (Once-at c n e is o q r))

  pub without_once : at < n → n ≤ length is → row_of e ≡ row_of (get_or is at 0) → Once c (without_entry at n e is)
  without_once h q r = rw (← append_assoc (take at is) (slice (at + 1) n is) (e ∷ drop n is)) (Once-back c e (take at is ++ slice (at + 1) n is) (drop n is)
      (rw (add-one at, append_assoc (take at is) (slice (suc at) n is) (drop n is), slice-drop (suc at) n is h) (Once-at c at e is o (omega arith) r)))

pub with_length : (at n e : ℕ) (is : List ℕ) → at ≤ n → n < length is → length (with_entry at n e is) ≡ length is
with_length at n e is h q = simp (length-append, length-drop, length-take) (omega arith)

pub without_length : (at n e : ℕ) (is : List ℕ) → at < n → n ≤ length is → length (without_entry at n e is) ≡ length is
without_length at n e is h q = simp (length-append, length-drop, length-take) (omega arith)
