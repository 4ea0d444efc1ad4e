-- Laws of a table that fits: how many lines it holds, line i of it is the line in the row of entry i, and what holds of that row; and a fresh table, which
-- holds no line.
use Rattle.std.specs.Prelude.{◌≡◌, refl, List, [], ◌∷◌, map, ℕ, zero, suc, ◌+◌, ◌*◌, ◌≤◌, ◌<◌, T, ℤ, pos, length, get_or, take, drop, replicate}
use Rattle.std.proofs.Common.{sym, ap, ap₂, subst, ◌∙◌, le_of_suc-le-suc, not-suc-le-zero, add-one, arith, length-take, drop_of_length-le, get_or-take, drop-cons, length-take-le}
use Rattle.std.proofs.lemmas.List.{length-map, length-replicate}
use Rattle.configuration.specs.Configuration.{Line, line, some, IsInOrder}
use Rattle.configuration.specs.LineLaws.{IsShort}
use Rattle.table.specs.Rows.{Table, row_of, terms_in, line_in, lines_at, lines_of, capacity_of, Each, Misses, Once, Entered, Fits, in_turn}

-- ---- what is made of each element of a list
module _ {A B : Type 0} (f : A → B) where
  pub map_at : (i : ℕ) (l : List A) (z : A) (d : B) → i < length l → get_or (map f l) i d ≡ f (get_or l i z)
  map_at i [] z d h = absurd (not-suc-le-zero h)
  map_at zero (x ∷ l) z d h = refl
  map_at (suc i) (x ∷ l) z d h = map_at i l z d (le_of_suc-le-suc h)

-- ---- a fact of each entry
module _ (P : ℕ → Type 0) where
  pub Each-at : (i : ℕ) (is : List ℕ) → Each P is → i < length is → P (get_or is i 0)
  Each-at i [] a h = absurd (not-suc-le-zero h)
  Each-at zero (e ∷ is) a h = a.0
  Each-at (suc i) (e ∷ is) a h = Each-at i is a.1 (le_of_suc-le-suc h)

pub Once-each : (c : ℕ) (is : List ℕ) → Once c is → Each (λ e. row_of e < c) is
Once-each c [] o = tt
Once-each c (e ∷ is) o = (o.0, Once-each c is o.1.1)

pub some_at : (t : Table) (i : ℕ) (is : List ℕ) → IsInOrder (lines_at t is) → i < length is → T (some (terms_in t (row_of (get_or is i 0))))
some_at t i [] r h = absurd (not-suc-le-zero h)
some_at t zero (e ∷ is) r h = r.0
some_at t (suc i) (e ∷ is) r h = some_at t i is r.1.1.1 (le_of_suc-le-suc h)

-- a row counts at most 64 terms
short_row : (t : Table) (e : ℕ) → Entered t e → length (terms_in t (row_of e)) ≤ 64
short_row t e a = omega (arith, length-take (get_or t.counts (row_of e) 0) (drop (64 * row_of e) t.terms), a.1)

IsShort-rows : (t : Table) (is : List ℕ) → Each (Entered t) is → IsShort (lines_at t is)
IsShort-rows t [] a = tt
IsShort-rows t (e ∷ is) a = (short_row t e a.0, IsShort-rows t is a.1)

-- ---- a table that fits
module _ {c : ℕ} {t : Table} (q : Fits c t) where
  pub lines_long : length (take t.lines t.order) ≡ t.lines
  lines_long = length-take-le t.lines t.order (omega (arith, q.room, q.order_length))

  pub length_lines : length (lines_of t) ≡ t.lines
  length_lines = length-map (take t.lines t.order) (λ e. line_in t (row_of e)) ∙ lines_long

  pub lines_few : length (lines_of t) ≤ c
  lines_few = omega (arith, length_lines, q.room)

  pub lines_short : IsShort (lines_of t)
  lines_short = IsShort-rows t (take t.lines t.order) q.entered

  -- no line is left
  pub lines_end : (i : ℕ) → t.lines ≤ i → drop i (lines_of t) ≡ []
  lines_end i h = let k : length (lines_of t) ≤ i = omega (arith, length_lines) in drop_of_length-le (lines_of t) k

  -- the row of an entry, also of one that no line has
  pub row_below : (i : ℕ) → i < c → row_of (get_or t.order i 0) < c
  row_below i h = Each-at (λ e. row_of e < c) i t.order (Once-each c t.order q.once) (omega (arith, q.order_length))

  -- line i
  module _ (i : ℕ) (h : i < t.lines) where
    abbrev r : ℕ
    r = row_of (get_or t.order i 0)

    entry_is : get_or (take t.lines t.order) i 0 ≡ get_or t.order i 0
    entry_is = get_or-take t.lines t.order i 0 h

    pub line_at : (d : Line) → get_or (lines_of t) i d ≡ line_in t r
    line_at d = map_at (λ e. line_in t (row_of e)) i (take t.lines t.order) 0 d (omega (arith, lines_long)) ∙ ap (λ (e : ℕ). line_in t (row_of e)) entry_is

    -- it is the first of the lines from i on
    pub lines_from : drop i (lines_of t) ≡ line_in t r ∷ drop (i + 1) (lines_of t)
    lines_from = let d : Line = line [] (pos 0) in
        drop-cons (lines_of t) i d (omega (arith, length_lines)) ∙ ap₂ (λ (x : Line) (k : ℕ). x ∷ drop k (lines_of t)) (line_at d) (sym (add-one i))

    pub Entered-at : Entered t (get_or t.order i 0)
    Entered-at = rw entry_is at (Each-at (Entered t) i (take t.lines t.order) q.entered (omega (arith, lines_long)))

    pub line_short : length (terms_in t r) ≤ 64
    line_short = short_row t (get_or t.order i 0) Entered-at

    pub line_some : T (some (terms_in t r))
    line_some = rw entry_is at (some_at t i (take t.lines t.order) q.ordered (omega (arith, lines_long)))

    pub held_below : r < c
    held_below = row_below i (omega (arith, q.room))

    pub row_fits : 64 * r + get_or t.counts r 0 ≤ length t.terms
    row_fits = omega (arith, held_below, Entered-at.1, q.terms_length)

-- ---- a fresh table: each row has an entry, and none a line
turn_misses : (r n i : ℕ) → r < i → i + n ≤ 128 → Misses r (in_turn n i)
unfolding in_turn
turn_misses r zero i h b = tt
turn_misses r (suc n) i h b = let e : row_of i ≡ i = omega arith in (λ x. omega arith, turn_misses r n (suc i) (omega arith) (omega arith))

turn_once : (c n i : ℕ) → i + n ≤ c → c ≤ 128 → Once c (in_turn n i)
unfolding in_turn
turn_once c zero i h b = tt
turn_once c (suc n) i h b =
    let e : row_of i ≡ i = omega arith in
    rw e (omega arith, (turn_misses i n (suc i) (omega arith) (omega arith), turn_once c n (suc i) (omega arith) b))

turn_length : (n i : ℕ) → length (in_turn n i) ≡ n
unfolding in_turn
turn_length zero i = refl
turn_length (suc n) i = ap suc (turn_length n (suc i))

-- it fits whatever the areas hold
pub fresh_fits : (c : ℕ) (ts : List ℕ) (ws : List ℤ) (cs : List ℕ) → c ≤ 128 → length ts ≡ 64 * c → length ws ≡ c → length cs ≡ c
    → Fits c (record { lines = 0; order = in_turn c 0; terms = ts; weights = ws; counts = cs })
fresh_fits c ts ws cs b lt lw lc = record {
  capacity = b;
  room = omega arith;
  order_length = turn_length c 0;
  terms_length = lt;
  weights_length = lw;
  counts_length = lc;
  once = turn_once c c 0 (omega arith) b;
  entered = tt;
  ordered = tt;
}

-- as code makes one of 128 rows (`Lines`), all zero
pub blank_fits : Fits 128 (record { lines = 0; order = in_turn 128 0; terms = replicate 8192 0; weights = replicate 128 (pos 0); counts = replicate 128 0 })
blank_fits = fresh_fits 128 (replicate 8192 0) (replicate 128 (pos 0)) (replicate 128 0) (omega arith) (length-replicate {A = ℕ} 8192 0) (length-replicate {A = ℤ} 128 (pos 0))
    (length-replicate {A = ℕ} 128 0)

-- the order of a fresh table of four (`Changes`), number by number
pub four_order : 0 ∷ 1 ∷ 2 ∷ 3 ∷ [] ≡ in_turn 4 0
unfolding in_turn
four_order = refl

-- ---- the capacity, as the areas alone tell it
pub of_capacity : {c : ℕ} {t : Table} → Fits c t → Fits (capacity_of t) t
of_capacity {c} {t} q = subst (λ (n : ℕ). Fits n t) (sym q.counts_length) q

pub to_capacity : {c : ℕ} {t u : Table} → Fits c t → Fits (capacity_of t) u → Fits c u
to_capacity {c} {t} {u} q x = subst (λ (n : ℕ). Fits n u) q.counts_length x

-- each row has a weight: `none_negative` reads that of each line's row
pub Once-weights : {c : ℕ} {t : Table} → Fits c t → Once (length t.weights) t.order
Once-weights {c} {t} q = subst (λ (n : ℕ). Once n t.order) (sym q.weights_length) q.once
