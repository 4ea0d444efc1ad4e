-- The search for a polynomial among the lines of a table: by halving, over plain lines; and where it begins, behind the lines whose keys are above the polynomial's.
use mathlib.Core.Path.{◌≡◌, refl, sym, ◌∙◌, subst}
use mathlib.Core.Logic.{◌⊎◌, inl, inr}
use mathlib.Core.Bool.{true, false}
use mathlib.Core.List.{List, [], ◌∷◌}
use Prim.Native.Nat.{ℕ, zero, suc, ◌+◌, ◌-◌, ◌*◌, ◌^◌, ◌≤◌, ◌<◌}
use native.Mathlib.Nat.{le_of_suc-le-suc, not-suc-le-zero}
use native.Mathlib.Decide.{dec_lt}
use native.Mathlib.Omega.{arith}
use lib.Dec.{T, lt→ltb}
use lib.IntN.{ℤ, pos}
use lib.ListN.{length, get_or, take, drop}
use lib.Seq.{get_or-take, get_or-drop}
use Rattle.term.specs.Term.{key_of}
use Rattle.term.specs.OrderLaws.{key_before, key_small}
use Rattle.polynomial.specs.Polynomial.{order_of}
use Rattle.polynomial.specs.OrderingLaws.{order_first, order_trans, order_irrefl, order_same}
use Rattle.std.specs.declared.cmp.Ordering.TheVariants.{Less, Equal, Greater}
use Rattle.configuration.specs.Configuration.{Line, line, some, IsBehind, IsInOrder, place_of, is_held}
use Rattle.configuration.specs.ConfigurationLaws.{order_earlier}
use Rattle.configuration.specs.PlaceLaws.{place_le, earlier_left, earlier_right, same_here}
use Rattle.table.specs.Rows.{Table, row_of, key_in, terms_in, lines_at, lines_of, Each, first_key, Entered, Fits, ahead, IsFalling}
use Rattle.table.specs.RowsLaws.{Each-at, some_at, lines_long, length_lines, line_at, Entered-at, line_some}
use Rattle.table.proofs.Held.{held, not_held}
use Rattle.table.proofs.Keys.{ahead-le, ahead_higher}

abbrev pub none : Line
none = line [] (pos 0)

-- ---- a search by halving: the place lies between two bounds, and the polynomial stands before the line at the upper one, if there is one
pub record IsBetween (f : List ℕ) (L : List Line) (low high : ℕ) : Type 0 where
  pub from : low ≤ place_of f L
  pub to : place_of f L ≤ high
  pub in_table : high ≤ length L
  pub behind : (high ≡ length L) ⊎ ((high < length L) × ((g : List ℕ) × ((u : ℤ) × ((get_or L high none ≡ line g u) × (order_of f g ≡ Less)))))

module _ (f : List ℕ) (L : List Line) where
  pub everywhere : IsBetween f L 0 (length L)
  everywhere = record { from = omega arith; to = place_le f L; in_table = omega arith; behind = inl refl }

  module _ (low high i : ℕ) (b : IsBetween f L low high) (l : i < high) (g : List ℕ) (u : ℤ) (e : get_or L i none ≡ line g u) where
    inside : i < length L
    inside = omega (arith, b.in_table)

    pub lower : order_of f g ≡ Less → IsBetween f L low i
    lower o = record {
      from = b.from;
      to = earlier_left f g u none i L inside e o;
      in_table = omega (arith, b.in_table);
      behind = inr (inside, (g, (u, (e, o))));
    }

    pub upper : IsInOrder L → order_of f g ≡ Greater → IsBetween f L (i + 1) high
    upper r o = record { from = omega (arith, earlier_right f g u none i L r inside e o); to = b.to; in_table = b.in_table; behind = b.behind }

    pub found : IsInOrder L → order_of f g ≡ Equal → (i ≡ place_of f L) × (true ≡ is_held f L)
    found r o =
        let p : place_of f L ≡ i = same_here f g u none i L r inside e o in
        (sym p, sym (held f none u L (rw p inside) (rw (p, order_same f g o) e)))

  pub missing : (low high : ℕ) → IsBetween f L low high → high ≤ low → (low ≡ place_of f L) × (false ≡ is_held f L)
  missing low high b l = (omega (arith, b.from, b.to), sym (go b.behind))
    where
      q : place_of f L ≡ high
      q = omega (arith, b.from, b.to)

      go : (high ≡ length L) ⊎ ((high < length L) × ((g : List ℕ) × ((u : ℤ) × ((get_or L high none ≡ line g u) × (order_of f g ≡ Less))))) → is_held f L ≡ false
      go (inl e) = not_held f none [] (pos 0) L (inl (q ∙ e))
      go (inr e) = not_held f none e.1.0 e.1.1.0 L (inr (rw q e.0, (rw q e.1.1.1.0, e.1.1.1.1)))

-- ---- first terms
pub some_of : (f : List ℕ) → (length f ≡ 0 → ⊥) → T (some f)
some_of [] h = absurd (h refl)
some_of (t ∷ f) h = tt

pub some-length : (f : List ℕ) → T (some f) → 0 < length f
some-length [] h = absurd h
some-length (t ∷ f) h = omega arith

pub first_key_lem : (f : List ℕ) → T (some f) → key_of (get_or f 0 0) ≡ first_key f
first_key_lem [] h = absurd h
first_key_lem (t ∷ f) h = refl

pub first_small : (f : List ℕ) → T (some f) → get_or f 0 0 < 2 ^ 32 → first_key f < 2 ^ 38
first_small [] n h = absurd n
first_small (t ∷ f) n h = key_small t h

-- of part of a run whose elements are below a bound
pub first_below : (b n k : ℕ) (l : List ℕ) → 0 < b → ((i : ℕ) → get_or l i 0 < b) → get_or (take n (drop k l)) 0 0 < b
first_below b zero k l p h = p
first_below b (suc n) k l p h = rw (get_or-take (suc n) (drop k l) 0 0 (omega arith), get_or-drop k l 0 0) (h (k + 0))

-- one with a higher key stands earlier
pub key_earlier : (f g : List ℕ) → T (some f) → T (some g) → get_or f 0 0 < 2 ^ 32 → get_or g 0 0 < 2 ^ 32 → first_key g < first_key f → order_of f g ≡ Less
key_earlier [] g m n s t h = absurd m
key_earlier (x ∷ f) [] m n s t h = absurd n
key_earlier (x ∷ f) (y ∷ g) m n s t h = order_first x y f g (rw (key_before x y s t) (lt→ltb (key_of y) (key_of x) h))

-- so the keys of polynomials in order fall
key_falls : (f g : List ℕ) → T (some f) → T (some g) → get_or f 0 0 < 2 ^ 32 → get_or g 0 0 < 2 ^ 32 → order_of f g ≡ Less → first_key g ≤ first_key f
key_falls f g m n s t o = go (dec_lt (first_key f) (first_key g))
  where
    go : Dec (first_key f < first_key g) → first_key g ≤ first_key f
    go (yes k) = absurd (order_irrefl f (order_trans f g f o (key_earlier g f n m t s k)))
    go (no k) = omega arith

-- ---- the keys of a table whose terms have 32 bits
module _ (t : Table) (small : (j : ℕ) → get_or t.terms j 0 < 2 ^ 32) where
  first_in : (r : ℕ) → get_or (terms_in t r) 0 0 < 2 ^ 32
  first_in r = first_below (2 ^ 32) (get_or t.counts r 0) (64 * r) t.terms (omega arith) small

  IsBehind-at : (f : List ℕ) (i : ℕ) (is : List ℕ) → IsBehind f (lines_at t is) → i < length is → order_of f (terms_in t (row_of (get_or is i 0))) ≡ Less
  IsBehind-at f i [] b h = absurd (not-suc-le-zero h)
  IsBehind-at f zero (e ∷ is) b h = b.0
  IsBehind-at f (suc i) (e ∷ is) b h = IsBehind-at f i is b.1 (le_of_suc-le-suc h)

  entries_fall : (i j : ℕ) (is : List ℕ) → IsInOrder (lines_at t is) → Each (Entered t) is → i ≤ j → j < length is → key_in (get_or is j 0) ≤ key_in (get_or is i 0)
  entries_fall i j [] r q o h = absurd (not-suc-le-zero h)
  entries_fall zero zero (e ∷ is) r q o h = omega arith
  entries_fall zero (suc j) (e ∷ is) r q o h =
      let m : j < length is = le_of_suc-le-suc h in
      let k : ℕ = row_of (get_or is j 0) in
      omega (
        arith,
        key_falls (terms_in t (row_of e)) (terms_in t k) r.0 (some_at t j is r.1.1.1 m) (first_in (row_of e)) (first_in k) (IsBehind-at (terms_in t (row_of e)) j is r.1.1.0 m),
        q.0.0,
        (Each-at (Entered t) j is q.1 m).0,
      )
  entries_fall (suc i) zero (e ∷ is) r q o h = absurd (not-suc-le-zero o)
  entries_fall (suc i) (suc j) (e ∷ is) r q o h = entries_fall i j is r.1.1.1 q.1 (le_of_suc-le-suc o) (le_of_suc-le-suc h)

  module _ {c : ℕ} (q : Fits c t) where
    pub falling : IsFalling (take t.lines t.order)
    falling i j o h = entries_fall i j (take t.lines t.order) q.ordered q.entered o h

    -- the place of f is not among the lines that are ahead of its key
    module _ (f : List ℕ) (s : T (some f)) (b : get_or f 0 0 < 2 ^ 32) where
      abbrev front : ℕ
      front = ahead (first_key f) (take t.lines t.order)

      front-le : front ≤ t.lines
      front-le = omega (arith, ahead-le (first_key f) (take t.lines t.order), lines_long q)

      front_later : (i : ℕ) → i < front → order_of f (terms_in t (row_of (get_or t.order i 0))) ≡ Greater
      front_later i l =
          let m : i < t.lines = omega (arith, front-le) in
          let r : ℕ = row_of (get_or t.order i 0) in
          let k : first_key f < key_in (get_or t.order i 0) = rw (get_or-take t.lines t.order i 0 m) at (ahead_higher (first_key f) i (take t.lines t.order) l) in
          order_earlier (terms_in t r) f (key_earlier (terms_in t r) f (line_some q i m) s (first_in r) b (rw (← (Entered-at q i m).0) k))

      pub starts : IsBetween f (lines_of t) front t.lines
      starts = rw (length_lines q) at (go (dec_lt 0 front))
        where
          go : Dec (0 < front) → IsBetween f (lines_of t) front (length (lines_of t))
          go (yes p) =
              let e : front - 1 + 1 ≡ front = omega arith in
              let m : front - 1 < t.lines = omega (arith, front-le) in
              rw e at (upper f (lines_of t) 0 (length (lines_of t)) (front - 1) (everywhere f (lines_of t)) (omega (arith, length_lines q)) _ _
              (line_at q (front - 1) m none) q.ordered (front_later (front - 1) (omega arith)))
          go (no p) = let e : 0 ≡ front = omega arith in subst (λ (n : ℕ). IsBetween f (lines_of t) n (length (lines_of t))) e (everywhere f (lines_of t))
