-- A table as the list of its lines.
use Rattle.std.specs.Prelude.{◌≡◌, Bool, List, [], ◌∷◌, ℕ, ◌<◌, ◌^◌, ℤ, pos, get_or}
use Rattle.term.specs.Term.{degree_of}
use Rattle.configuration.specs.Configuration.{Line, line, polynomial_of, place_of, is_held}
use Rattle.table.specs.Rows.{Table, Fits}

abbrev pub no_line : Line
no_line = line [] (pos 0)

-- the polynomial and the weight of the line at a place
abbrev pub terms_at : List Line → ℕ → List ℕ
terms_at L i = polynomial_of (get_or L i no_line)

abbrev pub weight_in : Line → ℤ
weight_in (line f w) = w

abbrev pub weight_at : List Line → ℕ → ℤ
weight_at L i = weight_in (get_or L i no_line)

-- the degree of a polynomial's first term: 0 where there is none
abbrev pub leading_degree : List ℕ → ℕ
leading_degree [] = 0
leading_degree (t ∷ f) = degree_of t

-- that of the first line, which is the largest of all: lines and terms stand in order
abbrev pub first_degree : List Line → ℕ
first_degree L = leading_degree (terms_at L 0)

-- what holds of a table's areas: they fit, and the terms have 32 bits
pub record IsKept (c : ℕ) (t : Table) : Type 0 where
  pub fits : Fits c t
  pub small : (j : ℕ) → get_or t.terms j 0 < 2 ^ 32

-- where a polynomial stands or would stand among lines, and whether it is held
pub record Located (L : List Line) (f : List ℕ) (at : ℕ) (held : Bool) : Type 0 where
  pub place : at ≡ place_of f L
  pub is : held ≡ is_held f L
