-- The hard list: polynomials that must be 0, which no weight can buy off. Document 02, Ask 1: "A filing may hold up to 16 hard polynomials .. An assignment is consistent if every hard
-- polynomial is 0 there." It keeps the order of entry, folds nothing, and may hold 0 and 1.
use Rattle.std.specs.Prelude.{Bool, true, false, not, ◌&&◌, List, [], ◌∷◌, ◌++◌, map, ℕ, zero, suc, ◌-◌, ◌*◌, T, leb, eqb, length, get_or, take, drop, replicate}
use Rattle.polynomial.specs.Polynomial.{ZERO, eval}
use Rattle.configuration.specs.Area.{zeros}
use Rattle.configuration.specs.Configuration.{is_polynomial}

-- ---- the list
unfoldable pub all_polynomials : ℕ → List (List ℕ) → Bool
all_polynomials n [] = true
all_polynomials n (h ∷ H) = is_polynomial n h && all_polynomials n H

-- what can be held, of n variables
abbrev pub is_hard_list : ℕ → List (List ℕ) → Bool
is_hard_list n H = leb (length H) 16 && all_polynomials n H

-- "the hard polynomial's number, from 1": the polynomial of a number, and whether there is one
abbrev pub hard_at : List (List ℕ) → ℕ → List ℕ
hard_at H zero = ZERO
hard_at H (suc i) = get_or H i ZERO

abbrev pub is_number : List (List ℕ) → ℕ → Bool
is_number H zero = false
is_number H (suc i) = leb (suc i) (length H)

-- every hard polynomial is 0 at an assignment
unfoldable pub consistent : List (List ℕ) → ℕ → Bool
consistent [] α = true
consistent (h ∷ H) α = not (eval h α) && consistent H α

-- the assignments that a derivation is held to
pub record IsAdmissible (H : List (List ℕ)) (α : ℕ) : Type 0 where
  pub meets : T (consistent H α)

-- ---- what callers lend: "16 counts, 1,024 places, 64 for each in entry order", and in the head their number
pub record HardArea : Type 0 where
  pub number : ℕ
  pub counts : List ℕ
  pub places : List ℕ

-- the first so many polynomials: each has a count, and 64 places from where those of the one before end
unfoldable pub read_hard : ℕ → List ℕ → List ℕ → List (List ℕ)
read_hard zero cs ps = []
read_hard (suc k) [] ps = []
read_hard (suc k) (c ∷ cs) ps = take c (take 64 ps) ∷ read_hard k cs (drop 64 ps)

abbrev pub hard_of : HardArea → List (List ℕ)
hard_of a = read_hard a.number a.counts a.places

-- the 64 places of each polynomial
abbrev pub places_of : List ℕ → List ℕ
places_of h = h ++ replicate (64 - length h) 0

unfoldable pub laid_hard : List (List ℕ) → List ℕ
laid_hard [] = []
laid_hard (h ∷ H) = places_of h ++ laid_hard H

-- the area of a list: all other counts and places are zero
abbrev pub hard_image : List (List ℕ) → HardArea
hard_image H = record {
  number = length H;
  counts = map length H ++ replicate (16 - length H) 0;
  places = laid_hard H ++ replicate (1024 - 64 * length H) 0;
}

-- ---- the tests 1 and 2
abbrev pub hard_sized : HardArea → Bool
hard_sized a = eqb (length a.counts) 16 && eqb (length a.places) 1024

-- a count and its 64 places: at most 64 terms, a polynomial of n variables, and zeros behind them
abbrev pub row_formed : ℕ → ℕ → List ℕ → Bool
row_formed n c row = leb c 64 && (is_polynomial n (take c row) && zeros (drop c row))

unfoldable pub rows_formed : ℕ → ℕ → List ℕ → List ℕ → Bool
rows_formed n zero cs ps = zeros cs && zeros ps
rows_formed n (suc k) [] ps = false
rows_formed n (suc k) (c ∷ cs) ps = row_formed n c (take 64 ps) && rows_formed n k cs (drop 64 ps)

-- "A k above 16, or a lent hard list that breaks the rules on counts, term order, masks or unused zeros, is 2"
abbrev pub hard_formed : ℕ → HardArea → Bool
hard_formed n a = hard_sized a && (leb a.number 16 && rows_formed n a.number a.counts a.places)
