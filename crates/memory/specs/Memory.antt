-- What callers lend, and how a configuration lies in it. Document 01: "a head (n, number of lines), a term area of 8,192 32-bit numbers and a line table. The line table is a
-- lent run of 128 records, each a weight and a count of terms. .. Lines stand in the order above; all unused places are zero." Document 02, Ask 10: "Let the terms of all lines
-- follow one another in line order from place 0, all places after the last being zero."
use Rattle.std.specs.Prelude.{◌≡◌, Bool, true, false, ◌&&◌, List, [], ◌∷◌, ◌++◌, ℕ, zero, suc, ◌-◌, ◌≤◌, T, eqb, ℤ, pos, negsuc, length, take, drop, replicate}
use Rattle.configuration.specs.Configuration.{Line, line, is_configuration}
use Rattle.memory.specs.declared.Head.{Head}
use Rattle.memory.specs.declared.Entry.{Entry}

pub record Memory : Type 0 where
  pub variables : ℕ
  pub lines : ℕ
  pub terms : List ℕ
  pub table : List Entry

abbrev pub memory_of : Head → List ℕ → List Entry → Memory
memory_of h ts t = record { variables = h.variables; lines = h.lines; terms = ts; table = t }

-- ---- the layout of code: the terms of all lines, one after the other
-- the first so many lines: an entry counts the terms of its line, which begin where those of the line before end
unfoldable pub read_lines : ℕ → List ℕ → List Entry → List Line
read_lines zero ts t = []
read_lines (suc k) ts [] = []
read_lines (suc k) ts (e ∷ t) = line (take e.count ts) e.weight ∷ read_lines k (drop e.count ts) t

-- the terms of all lines, in line order
unfoldable pub all_terms : List Line → List ℕ
all_terms [] = []
all_terms (line f w ∷ L) = f ++ all_terms L

-- A layout is how lines are read from a term area, and what they fill of one from place 0 on. Code has one; document 01's first one is in OldLayout.antt, for a theorem alone.
pub record Layout : Type 0 where
  pub read : ℕ → List ℕ → List Entry → List Line
  pub laid : List Line → List ℕ

abbrev pub back_to_back : Layout
back_to_back = record { read = read_lines; laid = all_terms }

unfoldable pub entries_of : List Line → List Entry
entries_of [] = []
entries_of (line f w ∷ L) = record { weight = w; count = length f } ∷ entries_of L

abbrev pub unused : Entry
unused = record { weight = pos 0; count = 0 }

-- ---- the tests 1 and 2
abbrev pub sized : Memory → Bool
sized m = eqb (length m.terms) 8192 && eqb (length m.table) 128

-- two runs are the same, place by place, by a test of two places
unfoldable pub alike : {A : Type 0} → (A → A → Bool) → List A → List A → Bool
alike same [] [] = true
alike same [] (y ∷ m) = false
alike same (x ∷ l) [] = false
alike same (x ∷ l) (y ∷ m) = same x y && alike same l m

abbrev pub same_weight : ℤ → ℤ → Bool
same_weight (pos m) (pos n) = eqb m n
same_weight (pos m) (negsuc n) = false
same_weight (negsuc m) (pos n) = false
same_weight (negsuc m) (negsuc n) = eqb m n

abbrev pub same_entry : Entry → Entry → Bool
same_entry d e = same_weight d.weight e.weight && eqb d.count e.count

abbrev pub same_memory : Memory → Memory → Bool
same_memory m k =
    eqb m.variables k.variables && (eqb m.lines k.lines && (alike eqb m.terms k.terms && alike same_entry m.table k.table))

-- ---- in any layout
module _ (l : Layout) where
  -- the configuration that a memory holds, document 01's standing
  abbrev pub standing_under : Memory → List Line
  standing_under m = l.read m.lines m.terms m.table

  -- the memory of a configuration of n variables
  abbrev pub image_under : ℕ → List Line → Memory
  image_under n L = record {
    variables = n;
    lines = length L;
    terms = l.laid L ++ replicate (8192 - length (l.laid L)) 0;
    table = entries_of L ++ replicate (128 - length L) unused;
  }

  -- well formed: what the memory holds is a configuration, of which the memory is the image, and it has as many lines as its head says
  abbrev pub well_formed_under : Memory → Bool
  well_formed_under m = is_configuration m.variables (standing_under m) && same_memory m (image_under m.variables (standing_under m))

  -- every configuration has room, and is read back as it was laid out: no line, no term and no order is lost
  pub record IsFaithful : Type 0 where
    pub room : (n : ℕ) (L : List Line) → T (is_configuration n L) → length (l.laid L) ≤ 8192
    pub back : (n : ℕ) (L : List Line) → T (is_configuration n L) → standing_under (image_under n L) ≡ L

-- ---- in the layout of code
abbrev pub standing_of : Memory → List Line
standing_of m = standing_under back_to_back m

abbrev pub image_of : ℕ → List Line → Memory
image_of n L = image_under back_to_back n L

abbrev pub well_formed : Memory → Bool
well_formed m = well_formed_under back_to_back m
