-- The lines of a table by their places, where it is known which lines it holds.
use mathlib.Core.Path.{◌≡◌, sym, ap, subst, ◌∙◌}
use mathlib.Core.List.{List}
use Prim.Native.Nat.{ℕ, ◌*◌, ◌/◌, ◌^◌, ◌<◌}
use native.Mathlib.Omega.{arith}
use lib.Dec.{T}
use lib.IntN.{pos}
use lib.ListN.{length, get_or, take}
use Rattle.polynomial.specs.Polynomial.{order_of}
use Rattle.std.specs.declared.cmp.Ordering.TheVariants.{Less}
use Rattle.configuration.specs.Configuration.{Line, polynomial_of, some, IsInOrder}
use Rattle.table.specs.Rows.{Table, row_of, key_in, terms_in, lines_of, first_key, Fits, ahead}
use Rattle.table.specs.RowsLaws.{length_lines, line_at, Entered-at, line_some, held_below}
use Rattle.table.specs.Table.{no_line, terms_at, weight_at, weight_in, first_degree}
use Rattle.table.specs.TableLaws.{key_leading}
use Rattle.table.proofs.Searches.{IsBetween, starts, first_below, key_earlier}

module _ {c : ℕ} {t : Table} (q : Fits c t) {L : List Line} (e : lines_of t ≡ L) where
  pub many : t.lines ≡ length L
  many = sym (length_lines q) ∙ ap length e

  pub lines_ordered : IsInOrder L
  lines_ordered = subst IsInOrder e q.ordered

  module _ (i : ℕ) (h : i < length L) where
    abbrev r : ℕ
    r = row_of (get_or t.order i 0)

    pub among : i < t.lines
    among = omega (arith, many)

    pub row_there : r < c
    row_there = held_below q i among

    pub terms_are : terms_in t r ≡ terms_at L i
    terms_are = sym (ap polynomial_of (line_at q i among no_line)) ∙ ap (λ (M : List Line). terms_at M i) e

    pub weight_is : get_or t.weights r (pos 0) ≡ weight_at L i
    weight_is = sym (ap weight_in (line_at q i among no_line)) ∙ ap (λ (M : List Line). weight_at M i) e

    pub key_is : key_in (get_or t.order i 0) ≡ first_key (terms_at L i)
    key_is = (Entered-at q i among).0 ∙ ap first_key terms_are

    pub some_is : T (some (terms_at L i))
    some_is = rw (← terms_are) (line_some q i among)

  -- its first term has 32 bits
  first_small_at : ((j : ℕ) → get_or t.terms j 0 < 2 ^ 32) → (i : ℕ) → i < length L → get_or (terms_at L i) 0 0 < 2 ^ 32
  first_small_at small i h =
      let r : ℕ = row_of (get_or t.order i 0) in
      rw (← terms_are i h) (first_below (2 ^ 32) (get_or t.counts r 0) (64 * r) t.terms (omega arith) small)

  module _ (small : (j : ℕ) → get_or t.terms j 0 < 2 ^ 32) (f : List ℕ) (s : T (some f)) (b : get_or f 0 0 < 2 ^ 32) where
    -- a line whose first key is lower stands behind f
    pub behind_key : (i : ℕ) → i < length L → key_in (get_or t.order i 0) < first_key f → Less ≡ order_of f (terms_at L i)
    behind_key i h k = sym (key_earlier f (terms_at L i) s (some_is i h) b (first_small_at small i h) (rw (key_is i h) at k))

    -- f's place is not among the lines that are ahead by their keys
    pub starts_at : IsBetween f L (ahead (first_key f) (take t.lines t.order)) t.lines
    starts_at = rw e at (starts t small q f s b)

  -- the key of the first line has its degree
  pub degree_is : ((j : ℕ) → get_or t.terms j 0 < 2 ^ 32) → 0 < length L → key_in (get_or t.order 0 0) / 2 ^ 32 ≡ first_degree L
  degree_is small h = ap (λ (k : ℕ). k / 2 ^ 32) (key_is 0 h) ∙ key_leading (terms_at L 0) (first_small_at small 0 h)
