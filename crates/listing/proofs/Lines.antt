-- The text of a number: the header, a hard polynomial or a line.
use mathlib.Core.Path.{◌≡◌, sym, ap, ◌∙◌}
use mathlib.Core.List.{List, [], ◌++◌, map}
use Prim.Native.Nat.{ℕ, suc, ◌+◌, ◌-◌, ◌≤◌, ◌<◌}
use native.Mathlib.Omega.{arith}
use lib.ListN.{length, get_or, length-map, get_or-append}
use lib.Seq.{get_or-append-add}
use Rattle.configuration.specs.Configuration.{Line, line}
use Rattle.table.specs.RowsLaws.{map_at}
use Rattle.table.specs.Table.{no_line, terms_at, weight_at}
use Rattle.table.specs.TableLaws.{line_is}
use Rattle.listing.specs.Listing.{header_text, hard_text, line_text, text_of}

module _ (k n : ℕ) (H : List (List ℕ)) (L : List Line) where
  -- the number 0 has the header
  pub header_there : k ≡ 0 → text_of k n H L ≡ header_text n (length L) (length H)
  unfolding text_of
  header_there e = ap (λ (x : ℕ). text_of x n H L) e

  -- the next ones have the hard polynomials
  pub hard_there : (k ≡ 0 → ⊥) → k ≤ length H → text_of k n H L ≡ hard_text (get_or H (k - 1) [])
  unfolding text_of
  hard_there z h =
      let i : ℕ = k - 1 in
      let e : k ≡ suc i = omega arith in
      let p : i < length H = omega arith in
      ap (λ (x : ℕ). text_of x n H L) e ∙ get_or-append (map hard_text H) (map line_text L) [] i (omega (arith, length-map H hard_text))
      ∙ map_at hard_text i H [] [] p

  -- and those behind them the lines
  pub line_there : length H < k → k ≤ length H + length L
      → text_of k n H L ≡ line_text (line (terms_at L (k - length H - 1)) (weight_at L (k - length H - 1)))
  unfolding text_of
  line_there h b =
      let j : ℕ = k - length H - 1 in
      let e : k ≡ suc (length H + j) = omega arith in
      let p : j < length L = omega arith in
      ap (λ (x : ℕ). text_of x n H L) e
      ∙ ap (λ (c : ℕ). get_or (map hard_text H ++ map line_text L) (c + j) []) (sym (length-map H hard_text))
      ∙ get_or-append-add (map hard_text H) (map line_text L) j []
      ∙ map_at line_text j L no_line [] p ∙ ap line_text (line_is L j no_line p)
