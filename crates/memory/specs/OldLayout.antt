-- Document 01's layout: "Line i, from 0, has its terms at places 64 i onward." Document 02, Ask 10, replaced it, and no code has it. It stays so that there is something to
-- compare with: a memory in this layout and one in that of code, which hold one configuration, answer every call alike (`checker/specs/Layouts.antt`).
use Rattle.std.specs.Prelude.{List, [], ◌∷◌, ◌++◌, ℕ, zero, suc, ◌-◌, length, take, drop, replicate}
use Rattle.configuration.specs.Configuration.{Line, line}
use Rattle.memory.specs.declared.Entry.{Entry}
use Rattle.memory.specs.Memory.{Layout}

unfoldable pub read_rows : ℕ → List ℕ → List Entry → List Line
read_rows zero ts t = []
read_rows (suc k) ts [] = []
read_rows (suc k) ts (e ∷ t) = line (take e.count ts) e.weight ∷ read_rows k (drop 64 ts) t

unfoldable pub rows_of : List Line → List ℕ
rows_of [] = []
rows_of (line f w ∷ L) = f ++ replicate (64 - length f) 0 ++ rows_of L

abbrev pub in_rows : Layout
in_rows = record { read = read_rows; laid = rows_of }
