-- Laws of a table as the list of its lines.
use Rattle.std.specs.Prelude.{◌≡◌, refl, List, [], ◌∷◌, ℕ, zero, suc, ◌+◌, ◌/◌, ◌^◌, ◌<◌, length, get_or, drop}
use Rattle.std.proofs.Common.{◌∙◌, ap, sym, add-one, le_of_suc-le-suc, not-suc-le-zero, drop-cons}
use Rattle.term.specs.OrderLaws.{key_degree}
use Rattle.configuration.specs.Configuration.{Line, line}
use Rattle.table.specs.Rows.{Table, lines_of, first_key, Holds}
use Rattle.table.specs.Table.{no_line, terms_at, weight_at, leading_degree, IsKept}

-- what is kept of each table that code has: it holds the list that is its model
pub kept_holds : {c : ℕ} {t : Table} → IsKept c t → Holds c (lines_of t) t
kept_holds q = (refl, q.fits)

-- the line at a place
pub line_is : (L : List Line) (i : ℕ) (d : Line) → i < length L → get_or L i d ≡ line (terms_at L i) (weight_at L i)
line_is [] i d h = absurd (not-suc-le-zero h)
line_is (line f w ∷ L) zero d h = refl
line_is (line f w ∷ L) (suc i) d h = line_is L i d (le_of_suc-le-suc h)

-- it is the first of the lines from there on
pub lines_after : (L : List Line) (i : ℕ) → i < length L → drop i L ≡ line (terms_at L i) (weight_at L i) ∷ drop (i + 1) L
lines_after L i h =
    drop-cons L i no_line h ∙ ap (λ (x : Line). x ∷ drop (suc i) L) (line_is L i no_line h) ∙ ap (λ (k : ℕ). line (terms_at L i) (weight_at L i) ∷ drop k L) (sym (add-one i))

-- the key of a term of 32 bits has its degree
pub key_leading : (f : List ℕ) → get_or f 0 0 < 2 ^ 32 → first_key f / 2 ^ 32 ≡ leading_degree f
key_leading [] h = refl
key_leading (t ∷ f) h = key_degree t h
