-- A kept table whose lines are known, when a line is put in, taken out or weighed anew.
use mathlib.Core.Path.{◌≡◌, sym, ap, subst, ◌∙◌}
use mathlib.Core.List.{List, ◌∷◌, ◌++◌}
use Prim.Native.Nat.{ℕ, suc, ◌+◌, ◌-◌, ◌*◌, ◌^◌, ◌≤◌, ◌<◌}
use native.Mathlib.Omega.{arith}
use lib.IntN.{ℤ}
use lib.ListN.{length, get_or, take, drop, set}
use Rattle.configuration.specs.Configuration.{Line, line, IsInOrder}
use Rattle.table.specs.Rows.{Table, table_at, row_of, lines_of, first_key}
use Rattle.table.specs.Table.{IsKept, terms_at}
use Rattle.table.proofs.Entries.{with_entry, without_entry}
use Rattle.table.proofs.Lined.{many, among, terms_are}
use Rattle.table.proofs.Small.{write_below}
use Rattle.table.proofs.Written.{inserted, removed, weighed}

-- a table is kept and holds the lines
abbrev pub Keeps : ℕ → List Line → Table → Type 0
Keeps c L t = (lines_of t ≡ L) × IsKept c t

module _ {c : ℕ} {t : Table} (q : IsKept c t) {L : List Line} (e : lines_of t ≡ L) where
  pub put : (at r x : ℕ) (f : List ℕ) (w : ℤ) → at ≤ length L → length L < c → length f ≤ 64 → ((j : ℕ) → get_or f j 0 < 2 ^ 32) → r ≡ row_of (get_or t.order t.lines 0)
      → x ≡ 128 * first_key f + r → IsInOrder (take at L ++ line f w ∷ drop at L)
      → Keeps c (take at L ++ line f w ∷ drop at L) (table_at (t.lines + 1) (with_entry at t.lines x t.order) (take (64 * r) t.terms ++ (f ++ drop (64 * r + length f) t.terms)) (set t.weights r w) (set t.counts r (length f)))
  put at r x f w ha hc hf s er ex o =
      let y = inserted q.fits at r x f w (omega (arith, many q.fits e)) (omega (arith, many q.fits e)) hf er ex (subst (λ (M : List Line). IsInOrder (take at M ++ line f w ∷ drop at M)) (sym e) o) in
      (y.0 ∙ ap (λ (M : List Line). take at M ++ line f w ∷ drop at M) e, record { fits = y.1; small = write_below (2 ^ 32) (omega arith) (64 * r) (64 * r + length f) f t.terms s q.small })

  pub out : (at r : ℕ) → at < length L → r ≡ row_of (get_or t.order at 0)
      → Keeps c (take at L ++ drop (suc at) L) (table_at (t.lines - 1) (without_entry at t.lines r t.order) t.terms t.weights t.counts)
  out at r h er =
      let y = removed q.fits at r (among q.fits e at h) er in
      (y.0 ∙ ap (λ (M : List Line). take at M ++ drop (suc at) M) e, record { fits = y.1; small = q.small })

  pub anew : (at r : ℕ) (w : ℤ) → at < length L → r ≡ row_of (get_or t.order at 0) → IsInOrder (take at L ++ line (terms_at L at) w ∷ drop (suc at) L)
      → Keeps c (take at L ++ line (terms_at L at) w ∷ drop (suc at) L) (table_at t.lines t.order t.terms (set t.weights r w) t.counts)
  anew at r w h er o =
      let f : List ℕ = terms_at L at in
      let y = weighed q.fits at r f w (among q.fits e at h) er (sym (terms_are q.fits e at h)) (subst (λ (M : List Line). IsInOrder (take at M ++ line f w ∷ drop (suc at) M)) (sym e) o) in
      (y.0 ∙ ap (λ (M : List Line). take at M ++ line f w ∷ drop (suc at) M) e, record { fits = y.1; small = q.small })
