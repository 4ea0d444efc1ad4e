-- What a writer of text does.
use Rattle.std.specs.Prelude.{◌≡◌, List, ℕ, ◌+◌, ◌≤◌, length}
use Rattle.listing.specs.Writing.{overwritten}
use Rattle.listing.specs.declared.text.Writer.{Writer}

-- a text fits behind what stands
abbrev pub HasRoom : Writer → List ℕ → Type 0
HasRoom w text = w.at + length text ≤ length w.out.now

-- in the same area a text stands behind what stood before, and the other bytes are as they were
pub record Wrote (before after : Writer) (text : List ℕ) : Type 0 where
  pub area : after.out.ghost_name ≡ before.out.ghost_name
  pub long : length after.out.now ≡ length before.out.now
  pub room : HasRoom before text
  pub end : after.at ≡ before.at + length text
  pub bytes : after.out.now ≡ overwritten before.out.now before.at text
