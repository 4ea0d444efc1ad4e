-- The hard list as one run of 1,041 numbers, which are how many polynomials there are, the 16 counts, and the 1,024 places. What a `HardList` keeps while an operation runs is such a run, in these three parts.
use Rattle.std.specs.Prelude.{◌≡◌, List, ◌∷◌, ◌++◌, ℕ, ◌≤◌, length, get_or, take, drop}
use Rattle.hard.specs.Hard.{HardArea, hard_of, hard_image}

-- an area as one run, and a run as an area
abbrev pub flat : HardArea → List ℕ
flat a = a.number ∷ (a.counts ++ a.places)

abbrev pub area_in : List ℕ → HardArea
area_in rs = record { number = get_or rs 0 0; counts = take 16 (drop 1 rs); places = drop 17 rs }

-- the list that a run holds, and the run of a list
abbrev pub hard_in : List ℕ → List (List ℕ)
hard_in rs = hard_of (area_in rs)

abbrev pub run_of : List (List ℕ) → List ℕ
run_of H = flat (hard_image H)

-- what holds of a run between one function and the next
abbrev pub HardFits : List ℕ → Type 0
HardFits rs = (length rs ≡ 1041) × (get_or rs 0 0 ≤ 16)
