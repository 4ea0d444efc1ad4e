-- What the writers of text do: a text stands in an area of bytes from a place on, and the bytes before and after it are as they were.
use Rattle.std.specs.Prelude.{Bool, true, false, List, ◌∷◌, ◌++◌, ℕ, ◌+◌, ◌-◌, length, take, drop, replicate}
use Rattle.listing.specs.Words.{letter}

abbrev pub overwritten : List ℕ → ℕ → List ℕ → List ℕ
overwritten area at text = take at area ++ (text ++ drop (at + length text) area)

-- a name that stands first in its term, or behind an asterisk
abbrev pub starred : Bool → List ℕ → List ℕ
starred true name = name
starred false name = letter "*" ∷ name

-- a text at the front of an area of n bytes: zeros stand behind it
abbrev pub padded : ℕ → List ℕ → List ℕ
padded n text = text ++ replicate (n - length text) 0
