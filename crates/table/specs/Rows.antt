-- The working form of a configuration, which no caller of an operation sees: the terms, the weight and the count of a line stand in one row of three areas, 64 places of
-- the first and one of each of the others, and a run of entries has the order. Entry i is 128 k + r: line i stands in row r, and k is the key of its first term. Rows
-- that no line has come behind, and what such a row holds is free.
use Rattle.std.specs.Prelude.{◌≡◌, cond, List, [], ◌∷◌, map, ℕ, zero, suc, ◌*◌, ◌/◌, ◌%◌, ◌≤◌, ◌<◌, ltb, ℤ, pos, length, get_or, take, drop}
use Rattle.term.specs.Term.{key_of}
use Rattle.refusal.specs.Outcome.{Told}
use Rattle.configuration.specs.Configuration.{Line, line, IsInOrder}
use Rattle.configuration.specs.Made.{Made}

pub record Table : Type 0 where
  pub lines : ℕ
  pub order : List ℕ
  pub terms : List ℕ
  pub weights : List ℤ
  pub counts : List ℕ

-- a table by the fields that code has: how many lines there are, and what the four areas hold
abbrev pub table_at : ℕ → List ℕ → List ℕ → List ℤ → List ℕ → Table
table_at n is ts ws cs = record { lines = n; order = is; terms = ts; weights = ws; counts = cs }

-- the same areas, with so many lines
abbrev pub with_lines : ℕ → Table → Table
with_lines n t = record { lines = n; order = t.order; terms = t.terms; weights = t.weights; counts = t.counts }

-- ---- the lines that a table holds
abbrev pub row_of : ℕ → ℕ
row_of e = e % 128

abbrev pub key_in : ℕ → ℕ
key_in e = e / 128

-- the terms in a row, and the line
abbrev pub terms_in : Table → ℕ → List ℕ
terms_in t r = take (get_or t.counts r 0) (drop (64 * r) t.terms)

abbrev pub line_in : Table → ℕ → Line
line_in t r = line (terms_in t r) (get_or t.weights r (pos 0))

-- the lines in the rows of some entries
abbrev pub lines_at : Table → List ℕ → List Line
lines_at t is = map (λ e. line_in t (row_of e)) is

abbrev pub lines_of : Table → List Line
lines_of t = lines_at t (take t.lines t.order)

-- how many lines a table has room for
abbrev pub capacity_of : Table → ℕ
capacity_of t = length t.counts

-- ---- what holds of a table between one function and the next
-- a fact of each entry
abbrev pub Each : (ℕ → Type 0) → List ℕ → Type 0
Each P [] = Unit {0}
Each P (e ∷ is) = P e × Each P is

-- no entry has the row r
abbrev pub Misses : ℕ → List ℕ → Type 0
Misses r is = Each (λ e. row_of e ≡ r → ⊥) is

-- the rows are below c, and none comes twice
abbrev pub Once : ℕ → List ℕ → Type 0
Once c [] = Unit {0}
Once c (e ∷ is) = (row_of e < c) × (Misses (row_of e) is × Once c is)

-- the key of a polynomial's first term
abbrev pub first_key : List ℕ → ℕ
first_key [] = 0
first_key (t ∷ f) = key_of t

-- an entry has the key of the first term in its row, and the row's count is at most 64
abbrev pub Entered : Table → ℕ → Type 0
Entered t e = (key_in e ≡ first_key (terms_in t (row_of e))) × (get_or t.counts (row_of e) 0 ≤ 64)

pub record Fits (c : ℕ) (t : Table) : Type 0 where
  pub capacity : c ≤ 128
  pub room : t.lines ≤ c
  pub order_length : length t.order ≡ c
  pub terms_length : length t.terms ≡ 64 * c
  pub weights_length : length t.weights ≡ c
  pub counts_length : length t.counts ≡ c
  pub once : Once c t.order
  pub entered : Each (Entered t) (take t.lines t.order)
  pub ordered : IsInOrder (lines_of t)

-- a table fits and holds the lines L. Each table that code has holds the list that is its model, before a method and after it (`TableLaws` `kept_holds`)
abbrev pub Holds : ℕ → List Line → Table → Type 0
Holds c L t = (lines_of t ≡ L) × Fits c t

-- what an operation makes, where a table holds the lines
abbrev pub made_in : {A : Type 0} → ℕ → Table → Told A → Made A
made_in n t told = record { variables = n; lines = lines_of t; told = told }

-- ---- keys
-- how many entries at the front have a key above k
unfoldable pub ahead : ℕ → List ℕ → ℕ
ahead k [] = 0
ahead k (e ∷ is) = cond (ltb k (key_in e)) (suc (ahead k is)) 0

-- no key is above one that stands before it
abbrev pub IsFalling : List ℕ → Type 0
IsFalling is = (i j : ℕ) → i ≤ j → j < length is → key_in (get_or is j 0) ≤ key_in (get_or is i 0)

-- the entries of n rows from row i on, one after the other, with the key 0
unfoldable pub in_turn : ℕ → ℕ → List ℕ
in_turn zero i = []
in_turn (suc n) i = i ∷ in_turn n (suc i)
