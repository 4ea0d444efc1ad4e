-- A line put in, taken out or weighed anew: one row and the order change, and the lines in the other rows stay.
use mathlib.Core.Path.{◌≡◌, refl, sym, ap, ap₂, ◌∙◌}
use mathlib.Core.List.{List, [], ◌∷◌, ◌++◌, append_assoc}
use Prim.Native.Nat.{ℕ, zero, suc, ◌+◌, ◌-◌, ◌*◌, ◌≤◌, ◌<◌}
use native.Mathlib.Numerals.{add-one}
use native.Mathlib.Decide.{dec_lt}
use native.Mathlib.Omega.{arith}
use lib.Dec.{T}
use lib.IntN.{ℤ, pos}
use lib.ListN.{length, get_or, set, take, drop, length-append, length-drop, length-set}
use lib.Seq.{slice, length-slice, length-take-le, take_at, drop_at, take-take, drop-drop, split_at, get_or-take, get_or-set_same, get_or-set_other}
use Rattle.configuration.specs.Configuration.{Line, line, some, IsBehind, IsInOrder}
use Rattle.table.specs.Rows.{Table, row_of, key_in, terms_in, line_in, lines_at, lines_of, Each, Misses, first_key, Entered, Fits, Holds}
use Rattle.table.specs.RowsLaws.{lines_long, row_below, held_below}
use Rattle.table.proofs.Entries.{map-append, map-take, map-drop, Each-append, Each-front, Each-take, Each-drop, Each-rest, with_entry, without_entry, Once-at, Once-take, with_once, without_once, with_length, without_length}

-- ---- terms written at the front of row r, over at most 64 places: the other rows stay
module _ (r : ℕ) (f l : List ℕ) (hf : length f ≤ 64) (b : 64 * r + 64 ≤ length l) where
  abbrev pub written : List ℕ
  written = take (64 * r) l ++ (f ++ drop (64 * r + length f) l)

  front_long : length (take (64 * r) l) ≡ 64 * r
  front_long = length-take-le (64 * r) l (omega arith)

  pub written_long : length written ≡ length l
  written_long = simp (length-append, length-drop) (omega (arith, front_long))

  pub written_here : take (length f) (drop (64 * r) written) ≡ f
  written_here = rw (drop_at (take (64 * r) l) (f ++ drop (64 * r + length f) l) (64 * r) front_long) (take_at f (drop (64 * r + length f) l) (length f) refl)

  written_front : take (64 * r) written ≡ take (64 * r) l
  written_front = take_at (take (64 * r) l) (f ++ drop (64 * r + length f) l) (64 * r) front_long

  written_rest : drop (64 * r + length f) written ≡ drop (64 * r + length f) l
  written_rest = rw (← append_assoc (take (64 * r) l) f (drop (64 * r + length f) l))
      (drop_at (take (64 * r) l ++ f) (drop (64 * r + length f) l) (64 * r + length f) (omega (arith, front_long, length-append (take (64 * r) l) f)))

  pub written_other : (s : ℕ) → (s ≡ r → ⊥) → take 64 (drop (64 * s) written) ≡ take 64 (drop (64 * s) l)
  written_other s n = go (dec_lt s r)
    where
      -- 64 places from m on, all before n
      within : (m n : ℕ) (l : List ℕ) → m + 64 ≤ n → take 64 (drop m (take n l)) ≡ take 64 (drop m l)
      within zero n l h = take-take 64 n l (omega arith)
      within (suc m) zero l h = let z : ⊥ = omega arith in absurd z
      within (suc m) (suc n) [] h = refl
      within (suc m) (suc n) (x ∷ l) h = within m n l (omega arith)

      go : Dec (s < r) → take 64 (drop (64 * s) written) ≡ take 64 (drop (64 * s) l)
      go (yes q) = sym (within (64 * s) (64 * r) written (omega arith)) ∙ ap (λ (m : List ℕ). take 64 (drop (64 * s) m)) written_front
          ∙ within (64 * s) (64 * r) l (omega arith)
      go (no q) =
          let z : r < s = omega (arith, n) in
          let k : ℕ = 64 * s - (64 * r + length f) in
          let d : 64 * r + length f + k ≡ 64 * s = omega arith in
          rw (← d, ← drop-drop k (64 * r + length f) written, ← drop-drop k (64 * r + length f) l, written_rest)

-- ---- two tables whose rows but r are the same
pub record Others (r : ℕ) (t u : Table) : Type 0 where
  pub counts_same : (s : ℕ) → (s ≡ r → ⊥) → get_or u.counts s 0 ≡ get_or t.counts s 0
  pub weights_same : (s : ℕ) → (s ≡ r → ⊥) → get_or u.weights s (pos 0) ≡ get_or t.weights s (pos 0)
  pub terms_same : (s : ℕ) → (s ≡ r → ⊥) → take 64 (drop (64 * s) u.terms) ≡ take 64 (drop (64 * s) t.terms)

module _ {r : ℕ} {t u : Table} (o : Others r t u) where
  row_same : (s : ℕ) → (s ≡ r → ⊥) → get_or t.counts s 0 ≤ 64 → terms_in u s ≡ terms_in t s
  row_same s n h =
      let k : ℕ = get_or t.counts s 0 in
      ap (λ (m : ℕ). take m (drop (64 * s) u.terms)) (o.counts_same s n) ∙ sym (take-take k 64 (drop (64 * s) u.terms) h)
      ∙ ap (take k) (o.terms_same s n) ∙ take-take k 64 (drop (64 * s) t.terms) h

  pub lines_stay : (is : List ℕ) → Misses r is → Each (Entered t) is → lines_at u is ≡ lines_at t is
  lines_stay [] m e = refl
  lines_stay (i ∷ is) m e =
      ap₂ (λ (x : Line) (y : List Line). x ∷ y) (ap₂ line (row_same (row_of i) m.0 e.0.1) (o.weights_same (row_of i) m.0)) (lines_stay is m.1 e.1)

  pub Entered-stay : (is : List ℕ) → Misses r is → Each (Entered t) is → Each (Entered u) is
  Entered-stay [] m e = tt
  Entered-stay (i ∷ is) m e = (
    (e.0.0 ∙ ap first_key (sym (row_same (row_of i) m.0 e.0.1)), rw (o.counts_same (row_of i) m.0) e.0.1),
    Entered-stay is m.1 e.1,
  )

-- ---- lines without one of them
IsBehind-without : (f : List ℕ) (k : ℕ) (L : List Line) → IsBehind f L → IsBehind f (take k L ++ drop (suc k) L)
IsBehind-without f zero [] b = tt
IsBehind-without f zero (line g u ∷ L) b = b.1
IsBehind-without f (suc k) [] b = tt
IsBehind-without f (suc k) (line g u ∷ L) b = (b.0, IsBehind-without f k L b.1)

ordered_without : (k : ℕ) (L : List Line) → IsInOrder L → IsInOrder (take k L ++ drop (suc k) L)
ordered_without zero [] r = tt
ordered_without zero (line g u ∷ L) r = r.1.1.1
ordered_without (suc k) [] r = tt
ordered_without (suc k) (line g u ∷ L) r = (r.0, (r.1.0, (IsBehind-without g k L r.1.1.0, ordered_without k L r.1.1.1)))

-- the last of lines in order is not of 0
pub last_some : (L : List Line) (f : List ℕ) (w : ℤ) → IsInOrder (L ++ line f w ∷ []) → T (some f)
last_some [] f w r = r.0
last_some (line g u ∷ L) f w r = last_some L f w r.1.1.1

-- ---- parts of the lines
module _ {c : ℕ} {t : Table} (q : Fits c t) where
  abbrev pub L : List Line
  L = lines_of t

  abbrev is : List ℕ
  is = t.order

  abbrev n : ℕ
  n = t.lines

  first_lines : (k : ℕ) → k ≤ n → lines_at t (take k is) ≡ take k L
  first_lines k h = ap (lines_at t) (sym (take-take k n is h)) ∙ map-take (λ e. line_in t (row_of e)) k (take n is)

  last_lines : (k : ℕ) → lines_at t (slice k n is) ≡ drop k L
  last_lines k = map-drop (λ e. line_in t (row_of e)) k (take n is)

  first_entered : (k : ℕ) → k ≤ n → Each (Entered t) (take k is)
  first_entered k h = rw (take-take k n is h) at (Each-take (Entered t) k (take n is) q.entered)

  last_entered : (k : ℕ) → Each (Entered t) (slice k n is)
  last_entered k = Each-drop (Entered t) k (take n is) q.entered

  order_long : n ≤ length is
  order_long = omega (arith, q.room, q.order_length)

  -- ---- a line put in at a place: in the row of the first entry that no line has
  module _ (at r e : ℕ) (f : List ℕ) (w : ℤ) (ha : at ≤ n) (hc : n < c) (hf : length f ≤ 64) (er : r ≡ row_of (get_or is n 0)) (ee : e ≡ 128 * first_key f + r)
      (ord : IsInOrder (take at L ++ line f w ∷ drop at L)) where
    abbrev after : Table
    after = record { lines = n + 1; order = with_entry at n e is; terms = take (64 * r) t.terms ++ (f ++ drop (64 * r + length f) t.terms); weights = set t.weights r w; counts = set t.counts r (length f) }

    put_below : r < c
    put_below = rw er (row_below q n hc)

    put_row : row_of e ≡ r
    put_row = omega (arith, put_below, q.capacity)

    put_key : key_in e ≡ first_key f
    put_key = omega (arith, put_below, q.capacity)

    place : 64 * r + 64 ≤ length t.terms
    place = omega (arith, put_below, q.terms_length)

    others : Others r t after
    others = record {
      counts_same = λ s d. get_or-set_other t.counts r s (length f) 0 d;
      weights_same = λ s d. get_or-set_other t.weights r s w (pos 0) d;
      terms_same = written_other r f t.terms hf place;
    }

    count_is : get_or after.counts (row_of e) 0 ≡ length f
    count_is = rw put_row (get_or-set_same t.counts r (length f) 0 (omega (arith, put_below, q.counts_length)))

    terms_are : terms_in after (row_of e) ≡ f
    terms_are = ap₂ (λ (k s : ℕ). take k (drop (64 * s) after.terms)) count_is put_row ∙ written_here r f t.terms hf place

    line_is : line_in after (row_of e) ≡ line f w
    line_is = ap₂ line terms_are (rw put_row (get_or-set_same t.weights r w (pos 0) (omega (arith, put_below, q.weights_length))))

    entries_are : take (n + 1) after.order ≡ take at is ++ (e ∷ slice at n is)
    entries_are = rw (← append_assoc (take at is) (e ∷ slice at n is) (drop (n + 1) is))
        (take_at (take at is ++ (e ∷ slice at n is)) (drop (n + 1) is) (n + 1)
        (omega (arith, length-append (take at is) (e ∷ slice at n is), length-take-le at is (omega (arith, order_long)), length-slice at n is order_long)))

    -- no line has the row yet
    free : Misses r (take n is)
    free = rw put_row at (Each-front _ (take n is) (drop (suc n) is) (Once-at c n e is q.once (omega (arith, q.order_length)) (put_row ∙ er)).1.0)

    free_first : Misses r (take at is)
    free_first = rw (take-take at n is ha) at (Each-take _ at (take n is) free)

    free_last : Misses r (slice at n is)
    free_last = Each-drop _ at (take n is) free

    lines_put : lines_of after ≡ take at L ++ line f w ∷ drop at L
    lines_put =
        ap (lines_at after) entries_are ∙ map-append (λ e. line_in after (row_of e)) (take at is) (e ∷ slice at n is)
        ∙ ap₂ ◌++◌ (lines_stay others (take at is) free_first (first_entered at ha) ∙ first_lines at ha)
        (ap₂ (λ (x : Line) (y : List Line). x ∷ y) line_is (lines_stay others (slice at n is) free_last (last_entered at) ∙ last_lines at))

    Entered-put : Each (Entered after) (take (n + 1) after.order)
    Entered-put = rw entries_are (Each-append (Entered after) (take at is) (e ∷ slice at n is) (Entered-stay others (take at is) free_first (first_entered at ha))
        ((put_key ∙ ap first_key (sym terms_are), rw count_is hf), Entered-stay others (slice at n is) free_last (last_entered at)))

    pub inserted : Holds c (take at L ++ line f w ∷ drop at L) after
    inserted = (
      lines_put,
      record {
        capacity = q.capacity;
        room = omega arith;
        order_length = with_length at n e is ha (omega (arith, q.order_length)) ∙ q.order_length;
        terms_length = written_long r f t.terms hf place ∙ q.terms_length;
        weights_length = length-set t.weights r w ∙ q.weights_length;
        counts_length = length-set t.counts r (length f) ∙ q.counts_length;
        once = with_once c at n e is q.once ha (omega (arith, q.order_length)) (put_row ∙ er);
        entered = Entered-put;
        ordered = rw lines_put ord;
      },
    )

  -- ---- the line at a place taken out: its row comes behind those of the lines
  module _ (at r : ℕ) (ha : at < n) (er : r ≡ row_of (get_or is at 0)) where
    abbrev left_over : Table
    left_over = record { lines = n - 1; order = without_entry at n r is; terms = t.terms; weights = t.weights; counts = t.counts }

    out_row : row_of r ≡ row_of (get_or is at 0)
    out_row = omega (arith, held_below q at ha, q.capacity)

    entries_left : take (n - 1) left_over.order ≡ take at is ++ slice (suc at) n is
    entries_left =
        let l : length (take at is ++ slice (at + 1) n is) ≡ n - 1 =
        length-append (take at is) (slice (at + 1) n is) ∙ omega (arith, length-take-le at is (omega (arith, order_long)), length-slice (at + 1) n is order_long) in
        rw (← append_assoc (take at is) (slice (at + 1) n is) (r ∷ drop n is))
        (take_at (take at is ++ slice (at + 1) n is) (r ∷ drop n is) (n - 1) l ∙ ap (λ (k : ℕ). take at is ++ slice k n is) (add-one at))

    lines_left : lines_of left_over ≡ take at L ++ drop (suc at) L
    lines_left =
        ap (lines_at t) entries_left ∙ map-append (λ e. line_in t (row_of e)) (take at is) (slice (suc at) n is) ∙ ap₂ ◌++◌ (first_lines at (omega arith)) (last_lines (suc at))

    pub removed : Holds c (take at L ++ drop (suc at) L) left_over
    removed = (
      lines_left,
      record {
        capacity = q.capacity;
        room = omega (arith, q.room);
        order_length = without_length at n r is ha order_long ∙ q.order_length;
        terms_length = q.terms_length;
        weights_length = q.weights_length;
        counts_length = q.counts_length;
        once = without_once c at n r is q.once ha order_long out_row;
        entered = rw entries_left (Each-append (Entered t) (take at is) (slice (suc at) n is) (first_entered at (omega arith)) (last_entered (suc at)));
        ordered = rw lines_left (ordered_without at L q.ordered);
      },
    )

  -- ---- the line at a place weighed anew
  module _ (at r : ℕ) (f : List ℕ) (w : ℤ) (ha : at < n) (er : r ≡ row_of (get_or is at 0)) (ef : f ≡ terms_in t (row_of (get_or is at 0)))
      (ord : IsInOrder (take at L ++ line f w ∷ drop (suc at) L)) where
    abbrev anew : Table
    anew = record { lines = n; order = is; terms = t.terms; weights = set t.weights r w; counts = t.counts }

    abbrev e : ℕ
    e = get_or (take n is) at 0

    entry_row : row_of e ≡ r
    entry_row = ap row_of (get_or-take n is at 0 ha) ∙ sym er

    in_weights : r < length t.weights
    in_weights = omega (arith, held_below q at ha, q.weights_length)

    same_others : Others r t anew
    same_others = record { counts_same = λ s d. refl; weights_same = λ s d. get_or-set_other t.weights r s w (pos 0) d; terms_same = λ s d. refl }

    -- the row is that of no other line
    alone : Misses r (take at (take n is) ++ drop (suc at) (take n is))
    alone = rw entry_row at (Once-at c at e (take n is) (Once-take c n is q.once) (omega (arith, lines_long q)) refl).1.0

    entries_split : take n is ≡ take at (take n is) ++ (e ∷ drop (suc at) (take n is))
    entries_split = split_at (take n is) at 0 (omega (arith, lines_long q))

    lines_anew : lines_of anew ≡ take at L ++ line f w ∷ drop (suc at) L
    lines_anew =
        let x : List ℕ = take at (take n is) in
        let y : List ℕ = drop (suc at) (take n is) in
        ap (lines_at anew) entries_split ∙ map-append (λ e. line_in anew (row_of e)) x (e ∷ y)
        ∙ ap₂ ◌++◌ (lines_stay same_others x (Each-front _ x y alone) (Each-take (Entered t) at (take n is) q.entered) ∙ map-take (λ e. line_in t (row_of e)) at (take n is))
        (ap₂ (λ (a : Line) (b : List Line). a ∷ b) (ap (line_in anew) entry_row ∙ ap₂ line (ap (terms_in t) er ∙ sym ef) (get_or-set_same t.weights r w (pos 0) in_weights))
        (lines_stay same_others y (Each-rest _ x y alone) (Each-drop (Entered t) (suc at) (take n is) q.entered) ∙ last_lines (suc at)))

    pub weighed : Holds c (take at L ++ line f w ∷ drop (suc at) L) anew
    weighed = (
      lines_anew,
      record {
        capacity = q.capacity;
        room = q.room;
        order_length = q.order_length;
        terms_length = q.terms_length;
        weights_length = length-set t.weights r w ∙ q.weights_length;
        counts_length = q.counts_length;
        once = q.once;
        entered = q.entered;
        ordered = rw lines_anew ord;
      },
    )
