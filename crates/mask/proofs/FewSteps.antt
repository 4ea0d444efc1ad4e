-- Laws of the loops of products by a table.
use mathlib.Core.Path.{◌≡◌, refl, sym, ap, ap₂, ◌∙◌}
use mathlib.Core.Bool.{Bool, true, false, cond}
use mathlib.Core.List.{List, [], ◌∷◌, ◌++◌, map, append-nil, append_assoc}
use Prim.Native.Nat.{ℕ, zero, suc, ◌+◌, ◌/◌, ◌%◌, ◌^◌, ◌≤◌, ◌<◌}
use native.Mathlib.Nat.{add-zero, le_of_suc-le-suc, not-suc-le-zero}
use native.Mathlib.Numerals.{add-one}
use native.Mathlib.Omega.{arith}
use lib.Bits.{bit_and, bit_or, bit_xor, or_lt}
use lib.Dec.{eqb}
use lib.ListN.{length, get_or, take, drop, set, replicate, drop_of_length-le, length-map, length-replicate}
use lib.Seq.{drop-cons, drop-set-lt, take-suc-set, take-set-le, take_all, take_at}
use borrow.Author.Tests.{ne_eqb}
use Rattle.std.specs.List.{fold}
use Rattle.term.specs.Term.{degree_of}
use Rattle.run.specs.Run.{All, odd}
use Rattle.mask.specs.Mask.{unions, subsets_of}
use Rattle.mask.specs.SubsetLaws.{length_subsets}
use Rattle.mask.specs.Few.{united, shared, digit, with_digits, index_of, toggled, marked}
use Rattle.mask.specs.FewLaws.{index_lt, length-toggled, one, toggled_zeros}

-- one element of a list more
next : (l : List ℕ) (i : ℕ) → i < length l → drop i l ≡ get_or l i 0 ∷ drop (i + 1) l
next l i h = rw (add-one i) (drop-cons l i 0 h)

-- ---- what all terms of a run have, or one of them
pub united_fold : (v : ℕ) (f : List ℕ) → fold bit_or v f ≡ united v f
unfolding united
united_fold v [] = refl
united_fold v (t ∷ f) = united_fold (bit_or v t) f

pub shared_fold : (v : ℕ) (f : List ℕ) → fold bit_and v f ≡ shared v f
unfolding shared
shared_fold v [] = refl
shared_fold v (t ∷ f) = shared_fold (bit_and v t) f

-- ---- one place written: what stands before it and behind it is as it was
written : (out : List ℕ) (k v : ℕ) → k < length out → take (k + 1) (set out k v) ≡ take k out ++ (v ∷ [])
written out k v h = rw (add-one k) (take-suc-set out k v h)

behind : (out : List ℕ) (k i v : ℕ) → k ≤ i → drop (i + 1) (set out k v) ≡ drop (i + 1) out
behind out k i v h = drop-set-lt (i + 1) out k v (omega arith)

-- ---- the digit of one term more
module _ (variable place : ℕ) (f out : List ℕ) (i : ℕ) where
  pub digits_more : (x : ℕ) → i < length f → i < length out → x ≡ digit variable place (get_or f i 0)
      → take (i + 1) (set out i (bit_or (get_or out i 0) x)) ++ with_digits variable place (drop (i + 1) f) (drop (i + 1) (set out i (bit_or (get_or out i 0) x)))
      ≡ take i out ++ with_digits variable place (drop i f) (drop i out)
  unfolding with_digits
  digits_more x h k e =
      let v = bit_or (get_or out i 0) x in
      ap₂ (λ (a b : List ℕ). a ++ with_digits variable place (drop (i + 1) f) b) (written out i v k) (behind out i i v (omega arith))
      ∙ append_assoc (take i out) (v ∷ []) (with_digits variable place (drop (i + 1) f) (drop (i + 1) out))
      ∙ ap (λ (d : ℕ). take i out ++ bit_or (get_or out i 0) d ∷ with_digits variable place (drop (i + 1) f) (drop (i + 1) out)) e
      ∙ ap₂ (λ (a b : List ℕ). take i out ++ with_digits variable place a b) (sym (next f i h)) (sym (next out i k))

  pub digits_all : length f ≤ i → length out ≤ i → take i out ++ with_digits variable place (drop i f) (drop i out) ≡ out
  unfolding with_digits
  digits_all h k = ap₂ (λ (x y : List ℕ). x ++ with_digits variable place y (drop i out)) (take_all i out k) (drop_of_length-le f h) ∙ append-nil out

-- ---- the unions of one index more
toggled-append : (table l m : List ℕ) → toggled (toggled table l) m ≡ toggled table (l ++ m)
unfolding toggled
toggled-append table [] m = refl
toggled-append table (p ∷ l) m = toggled-append (set table p (bit_xor (get_or table p 0) 1)) l m

pub rows_more : (f g table after : List ℕ) (i : ℕ) → i < length f → after ≡ toggled table (map (bit_or (get_or f i 0)) g)
    → toggled after (unions (drop (i + 1) f) g) ≡ toggled table (unions (drop i f) g)
unfolding unions
rows_more f g table after i h e =
    ap (λ (t : List ℕ). toggled t (unions (drop (i + 1) f) g)) e ∙ toggled-append table (map (bit_or (get_or f i 0)) g) (unions (drop (i + 1) f) g)
    ∙ ap (λ (l : List ℕ). toggled table (unions l g)) (sym (next f i h))

pub rows_all : (f g table : List ℕ) (i : ℕ) → length f ≤ i → toggled table (unions (drop i f) g) ≡ table
unfolding toggled unions
rows_all f g table i h = ap (λ (l : List ℕ). toggled table (unions l g)) (drop_of_length-le f h)

-- ---- one mask more, brought to the front where its place is 1
module _ (masks table : List ℕ) (count i : ℕ) where
  pub chosen_more : i < length masks → i < length table → count ≤ i → get_or table i 0 ≤ 1
      → take (count + get_or table i 0) (set masks count (get_or masks i 0)) ++ marked (drop (i + 1) (set masks count (get_or masks i 0))) (drop (i + 1) table)
      ≡ take count masks ++ marked (drop i masks) (drop i table)
  unfolding marked
  chosen_more h k l small =
      ap (λ (x : List ℕ). take (count + get_or table i 0) (set masks count v) ++ marked x (drop (i + 1) table)) (behind masks count i v l)
      ∙ go (get_or table i 0) small
      ∙ ap₂ (λ (x y : List ℕ). take count masks ++ marked x y) (sym (next masks i h)) (sym (next table i k))
    where
      v : ℕ
      v = get_or masks i 0

      rest : List ℕ
      rest = marked (drop (i + 1) masks) (drop (i + 1) table)

      go : (b : ℕ) → b ≤ 1 → take (count + b) (set masks count v) ++ rest ≡ take count masks ++ cond (eqb b 0) rest (v ∷ rest)
      go zero s = ap (λ (k : ℕ). take k (set masks count v) ++ rest) (add-zero count)
          ∙ ap (λ (x : List ℕ). x ++ rest) (take-set-le count masks count v (omega arith))
      go (suc zero) s = ap (λ (x : List ℕ). x ++ rest) (written masks count v (omega arith)) ∙ append_assoc (take count masks) (v ∷ []) rest
      go (suc (suc b)) s = absurd (not-suc-le-zero (le_of_suc-le-suc s))

  pub chosen_done : length masks ≤ i → take count masks ++ marked (drop i masks) (drop i table) ≡ take count masks
  unfolding marked
  chosen_done h = ap (λ (x : List ℕ). take count masks ++ marked x (drop i table)) (drop_of_length-le masks h) ∙ append-nil (take count masks)

-- ---- the indices of a list of terms, with one variable more
pub no_digits : (m : ℕ) (f : List ℕ) → replicate (length f) 0 ≡ map (index_of 0 m) f
unfolding index_of
no_digits m [] = refl
no_digits m (t ∷ f) = ap (λ (l : List ℕ). 0 ∷ l) (no_digits m f)

pub digits_without : (i m : ℕ) (f : List ℕ) → (m / 2 ^ i % 2 ≡ 1 → ⊥) → map (index_of i m) f ≡ map (index_of (i + 1) m) f
unfolding index_of
digits_without i m [] n = refl
digits_without i m (t ∷ f) n = ap₂ (λ (x : ℕ) (l : List ℕ). x ∷ l) (rw (add-one i, ne_eqb (m / 2 ^ i % 2) 1 n)) (digits_without i m f n)

digits_with : (i m : ℕ) (f : List ℕ) → m / 2 ^ i % 2 ≡ 1 → with_digits i (length (subsets_of i m)) f (map (index_of i m) f) ≡ map (index_of (i + 1) m) f
unfolding index_of with_digits
digits_with i m [] e = refl
digits_with i m (t ∷ f) e = ap₂ (λ (x : ℕ) (l : List ℕ). x ∷ l) (rw (add-one i, e)) (digits_with i m f e)

pub indices_more : (i m place : ℕ) (f out after : List ℕ) → m / 2 ^ i % 2 ≡ 1 → place ≡ length (subsets_of i m) → out ≡ map (index_of i m) f
    → after ≡ with_digits i place f out → after ≡ map (index_of (i + 1) m) f
indices_more i m place f out after e p inv a = a ∙ ap₂ (λ (k : ℕ) (l : List ℕ). with_digits i k f l) p inv ∙ digits_with i m f e

-- ---- the indices of f stand in front of an area, and those of g of another
module _ (φ : ℕ → ℕ) (f K rest : List ℕ) (e : K ≡ map φ f) where
  as_long : length K ≡ length f
  as_long = ap length e ∙ length-map f φ

  pub front_is : take (length f) (K ++ rest) ≡ map φ f
  front_is = take_at K rest (length f) as_long ∙ e

All-images : (P : ℕ → Type 0) (φ : ℕ → ℕ) (f : List ℕ) → ((t : ℕ) → P (φ t)) → All P (map φ f)
All-images P φ [] h = tt
All-images P φ (t ∷ f) h = (h t, All-images P φ f h)

-- the unions of indices have places in a table as long as the mask's subsets are many
pub unions_fit : (m n : ℕ) (f g F G : List ℕ) → m < 2 ^ 32 → 2 ^ degree_of m ≤ n → F ≡ map (index_of 32 m) f → G ≡ map (index_of 32 m) g
    → All (λ t. All (λ u. bit_or t u < n) G) F
unions_fit m n f g F G h k ef eg = rw (ef, eg)
    (All-images (λ t. All (λ u. bit_or t u < n) (map (index_of 32 m) g)) (index_of 32 m) f
    (λ s. All-images (λ u. bit_or (index_of 32 m s) u < n) (index_of 32 m) g (λ t. fits s t)))
  where
    place : (t : ℕ) → index_of 32 m t < 2 ^ degree_of m
    place t = rw (length_subsets m h) at (index_lt 32 m t)

    fits : (s t : ℕ) → bit_or (index_of 32 m s) (index_of 32 m t) < n
    fits s t = omega (arith, or_lt (degree_of m) (index_of 32 m s) (index_of 32 m t) (place s) (place t))

-- ---- the table that is left
pub from_zeros : (n : ℕ) (l table after : List ℕ) → table ≡ replicate n 0 → after ≡ toggled table l → after ≡ toggled (replicate n 0) l
from_zeros n l table after e a = a ∙ ap (λ (t : List ℕ). toggled t l) e

pub table_small : (n : ℕ) (l table : List ℕ) → table ≡ toggled (replicate n 0) l → (i : ℕ) → i < length table → get_or table i 0 ≤ 1
table_small n l table e i h =
    let long : length table ≡ n = ap length e ∙ length-toggled (replicate n 0) l ∙ length-replicate n 0 in
    rw (e, toggled_zeros n l i (omega arith)) (small (odd i l))
  where
    small : (b : Bool) → one b ≤ 1
    small true = omega arith
    small false = omega arith
