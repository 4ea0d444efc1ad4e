-- What a `HardList` keeps: how many polynomials there are, at most 16, and the two areas. What lies in unused places is free.
use Rattle.std.specs.Prelude.{◌≡◌, ◌≤◌, length}
use Rattle.hard.specs.Hard.{HardArea}

pub record IsHeld (a : HardArea) : Type 0 where
  pub few : a.number ≤ 16
  pub counts_length : length a.counts ≡ 16
  pub places_length : length a.places ≡ 1024
