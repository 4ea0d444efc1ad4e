-- The layout as code goes through it: the places that entries count, and what no line uses.
use Rattle.std.specs.Prelude.{◌≡◌, Bool, true, ◌&&◌, List, [], ◌∷◌, ℕ, ◌+◌, ◌≤◌, T, eqb, length, drop}
use Rattle.configuration.specs.Area.{zeros}
use Rattle.configuration.specs.Weight.{is_zero}
use Rattle.memory.specs.declared.Entry.{Entry}

-- how many terms entries count together: the terms of the next line begin behind as many places
unfoldable pub used_by : List Entry → ℕ
used_by [] = 0
used_by (e ∷ t) = e.count + used_by t

-- a term area that is zero from a place on
abbrev pub ClearFrom : ℕ → List ℕ → Type 0
ClearFrom u ts = (length ts ≡ 8192) × (u ≤ 8192) × T (zeros (drop u ts))

-- an entry of no line, and a run of such
abbrev pub is_unused : Entry → Bool
is_unused e = is_zero e.weight && eqb e.count 0

unfoldable pub all_unused : List Entry → Bool
all_unused [] = true
all_unused (e ∷ t) = is_unused e && all_unused t
