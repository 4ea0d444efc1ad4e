-- The steps of the test 'well formed', over plain lists: a line, the entries behind the lines, the lines one by one, and the parts of the whole test.
use mathlib.Core.Path.{◌≡◌, refl, sym, ap, subst, ◌∙◌}
use mathlib.Core.Bool.{Bool, true, false, not, ◌&&◌, true≢false}
use mathlib.Core.List.{List, [], ◌∷◌}
use Prim.Native.Nat.{ℕ, zero, suc, ◌+◌, ◌-◌, ◌≤◌, ◌<◌}
use native.Mathlib.Nat.{le_of_suc-le-suc, not-suc-le-zero}
use native.Mathlib.Numerals.{add-one}
use native.Mathlib.Omega.{arith}
use lib.Dec.{T}
use lib.IntN.{ℤ}
use lib.ListN.{length, get_or, take, drop, length-drop}
use lib.Seq.{drop-cons, take_all, length-take-le}
use Rattle.std.specs.Bool.{MatchBool}
use Rattle.std.specs.List.{AllWithin, HoldsAt}
use Rattle.run.specs.BooleanLaws.{is_true, is_false, left, right, both, bool_ext}
use Rattle.polynomial.specs.Polynomial.{order_of}
use Rattle.configuration.specs.Weight.{in_range, is_zero}
use Rattle.configuration.specs.Configuration.{Line, line, some, by_order, is_polynomial, line_fits, lines_fit, weights_fit}
use Rattle.memory.specs.declared.Entry.{Entry}
use Rattle.memory.specs.Memory.{Memory, read_lines, unused, standing_of, well_formed}
use Rattle.memory.specs.MemoryLaws.{unused_is, Formed, well_formed_lem, Formed-well}
use Rattle.configuration.specs.Area.{zeros}
use Rattle.memory.specs.Places.{used_by, is_unused, all_unused}

-- ---- tests
pub and-false : (a b : Bool) → b ≡ false → (a && b) ≡ false
and-false true b e = e
and-false false b e = refl

pub and-true : (a b : Bool) → b ≡ true → (a && b) ≡ a
and-true true b e = e
and-true false b e = refl

one_line : (a b : Bool) → (a && (b && true)) ≡ ((a && b) && true)
one_line true true = refl
one_line true false = refl
one_line false b = refl

both_true : (a b : Bool) → (a && b) ≡ true → (a ≡ true) × (b ≡ true)
both_true true b e = (refl, e)
both_true false b e = absurd (true≢false (sym e))

-- two pairs of tests in which the first of each fail or hold together
none_of : (a b c d : Bool) → (a && c) ≡ false → ((a && b) && (c && d)) ≡ false
none_of true b true d e = absurd (true≢false e)
none_of true b false d e = and-false b false refl
none_of false b c d e = refl

and_assoc : (a b c : Bool) → ((a && b) && c) ≡ (a && (b && c))
and_assoc true b c = refl
and_assoc false b c = refl

-- ---- a line
some_none : (f : List ℕ) → length f ≡ 0 → some f ≡ false
some_none [] e = refl
some_none (t ∷ f) e = let z : ⊥ = omega arith in absurd z

some_many : (f : List ℕ) → (length f ≡ 0 → ⊥) → some f ≡ true
some_many [] h = absurd (h refl)
some_many (t ∷ f) h = refl

module _ (n : ℕ) (f : List ℕ) (w : ℤ) where
  pub without_terms : length f ≡ 0 → false ≡ line_fits n (line f w)
  unfolding line_fits
  without_terms e = rw (some_none f e)

  pub without_weight : is_zero w ≡ true → false ≡ line_fits n (line f w)
  unfolding line_fits
  without_weight e = sym (and-false (some f) _ (and-false (is_polynomial n f) (not (is_zero w)) (ap not e)))

  pub the_polynomial : (length f ≡ 0 → ⊥) → is_zero w ≡ false → is_polynomial n f ≡ line_fits n (line f w)
  unfolding line_fits
  the_polynomial h e = rw (some_many f h) (sym (and-true (is_polynomial n f) (not (is_zero w)) (ap not e)))

-- ---- the records behind the lines
each_unused : (t : List Entry) → ((k : ℕ) (d : Entry) → k < length t → get_or t k d ≡ unused) → T (all_unused t)
unfolding all_unused
each_unused [] h = tt
each_unused (e ∷ t) h =
    both (is_unused e) (all_unused t) (subst (λ (x : Entry). T (is_unused x)) (sym (h 0 unused (omega arith))) tt) (each_unused t (λ k d b. h (suc k) d (omega arith)))

unused_at : (t : List Entry) (k : ℕ) (d : Entry) → k < length t → T (all_unused t) → get_or t k d ≡ unused
unfolding all_unused
unused_at [] k d b u = absurd (not-suc-le-zero b)
unused_at (e ∷ t) zero d b u = unused_is e (left (is_unused e) (all_unused t) u)
unused_at (e ∷ t) (suc k) d b u = unused_at t k d (le_of_suc-le-suc b) (right (is_unused e) (all_unused t) u)

-- records that are all those of no line, or one that is not: as a chain answers
pub all_unused_by : (t : List Entry) (r : Bool) → MatchBool r (AllWithin (λ e. e ≡ unused) t 0 (length t)) ((k : ℕ) × (k < length t) × HoldsAt (λ e. e ≡ unused → ⊥) t k) → r ≡ all_unused t
all_unused_by t true h = sym (is_true (all_unused t) (each_unused t (λ k d b. h k d (omega arith) b)))
all_unused_by t false (k, b, h) = sym (is_false (all_unused t) (λ u. h unused (unused_at t k unused b u)))

-- ---- the lines that are read, one by one
abbrev pub both_fit : ℕ → List Line → Bool
both_fit n L = lines_fit n L && weights_fit L

-- a polynomial stands before another
abbrev pub leads : List ℕ → List ℕ → Bool
leads f g = by_order (order_of f g) true false false

-- lines may be held behind a polynomial
abbrev pub chained : ℕ → List ℕ → List Line → Bool
chained n f [] = true
chained n f (line g u ∷ L) = leads f g && both_fit n (line g u ∷ L)

-- the polynomial of no terms stands before all that may be held
pub chained_none : (n : ℕ) (L : List Line) → chained n [] L ≡ both_fit n L
unfolding lines_fit line_fits weights_fit order_of
chained_none n [] = refl
chained_none n (line [] u ∷ []) = refl
chained_none n (line [] u ∷ line g v ∷ L) = refl
chained_none n (line (t ∷ g) u ∷ L) = refl

-- four tests of a line and the lines behind it, in another order
exchanged : (a b c d e : Bool) → ((a && (b && c)) && (d && e)) ≡ ((a && d) && (b && (c && e)))
exchanged false b c d e = refl
exchanged true false c true e = refl
exchanged true false c false e = refl
exchanged true true false true e = refl
exchanged true true false false e = refl
exchanged true true true d e = refl

-- a line in front of others: it may be held, and they behind it
front_line : (n : ℕ) (f : List ℕ) (w : ℤ) (L : List Line) → both_fit n (line f w ∷ L) ≡ ((line_fits n (line f w) && in_range w) && chained n f L)
unfolding lines_fit weights_fit
front_line n f w [] = one_line (line_fits n (line f w)) (in_range w)
front_line n f w (line g u ∷ L) = exchanged (line_fits n (line f w)) (leads f g) (lines_fit n (line g u ∷ L)) (in_range w) (weights_fit (line g u ∷ L))

-- the whole, where what is left to test is lines behind a polynomial, and the first of them is read
module _ (n : ℕ) (f g : List ℕ) (u : ℤ) (L : List Line) (whole : Bool) (inv : chained n f (line g u ∷ L) ≡ whole) where
  pub line_misfit : (line_fits n (line g u) && in_range u) ≡ false → false ≡ whole
  line_misfit e = sym (ap (λ (b : Bool). leads f g && b) (front_line n g u L ∙ rw e) ∙ and-false (leads f g) false refl) ∙ inv

  pub out_of_order : leads f g ≡ false → false ≡ whole
  out_of_order e = sym (ap (λ (b : Bool). b && both_fit n (line g u ∷ L)) e) ∙ inv

  pub line_passed : leads f g ≡ true → (line_fits n (line g u) && in_range u) ≡ true → chained n g L ≡ whole
  line_passed e h = sym (ap (λ (b : Bool). b && both_fit n (line g u ∷ L)) e ∙ front_line n g u L ∙ ap (λ (b : Bool). b && chained n g L) h) ∙ inv

-- the lines of the first records
pub read_take : (k : ℕ) (ts : List ℕ) (t : List Entry) → read_lines k ts (take k t) ≡ read_lines k ts t
unfolding read_lines
read_take zero ts t = refl
read_take (suc k) ts [] = refl
read_take (suc k) ts (e ∷ t) = ap (λ (L : List Line). line (take e.count ts) e.weight ∷ L) (read_take k (drop e.count ts) t)

pub read_first : (k : ℕ) (ts : List ℕ) (t : List Entry) → k ≤ length t → read_lines (length (take k t)) ts (take k t) ≡ read_lines k ts t
read_first k ts t b = ap (λ (n : ℕ). read_lines n ts (take k t)) (length-take-le k t b) ∙ read_take k ts t

-- all that lies behind a place, as code takes it
pub all_behind : {X : Type 0} (n k : ℕ) (l : List X) → length l ≡ n → take (n - k) (drop k l) ≡ drop k l
all_behind n k l e = take_all (n - k) (drop k l) (omega (arith, length-drop k l))

-- the record at place i reads a line, and those behind it the others
module _ (ts : List ℕ) (t : List Entry) (i : ℕ) (h : i < length t) where
  abbrev e : Entry
  e = get_or t i unused

  pub used_left : used_by (drop i t) ≡ e.count + used_by (drop (i + 1) t)
  unfolding used_by
  used_left = ap used_by (drop-cons t i unused h) ∙ rw (add-one i)

  pub next_line : read_lines (length t - i) ts (drop i t) ≡ line (take e.count ts) e.weight ∷ read_lines (length t - (i + 1)) (drop e.count ts) (drop (i + 1) t)
  unfolding read_lines
  next_line =
      let m : length t - i ≡ suc (length t - (i + 1)) = omega arith in
      rw (m, drop-cons t i unused h, add-one i)

-- ---- the whole test
pub not_well : (m : Memory) → (Formed m → ⊥) → false ≡ well_formed m
not_well m h = sym (is_false (well_formed m) (λ t. h (well_formed_lem m t)))

pub the_lines : (m : Memory) → length m.terms ≡ 8192 → length m.table ≡ 128 → m.lines ≤ 128 → m.variables ≤ 32 → T (all_unused (drop m.lines m.table))
    → used_by m.table ≤ 8192 → T (zeros (drop (used_by m.table) m.terms)) → (lines_fit m.variables (standing_of m) && weights_fit (standing_of m)) ≡ well_formed m
the_lines m lt le r v b u z =
    let a : Bool = lines_fit m.variables (standing_of m) in
    let w : Bool = weights_fit (standing_of m) in
    bool_ext (a && w) (well_formed m)
    (λ h. Formed-well m (record {
      terms_length = lt;
      table_length = le;
      room = r;
      variables = v;
      behind = b;
      used = u;
      rest = z;
      fit = left a w h;
      weights = right a w h;
    })) (λ h. let q = well_formed_lem m h in both a w q.fit q.weights)
