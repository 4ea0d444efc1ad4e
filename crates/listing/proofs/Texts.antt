-- A text by value: at the front of an area of zeros it has zeros behind it.
use mathlib.Core.Path.{◌≡◌, refl, sym, ap, ◌∙◌}
use mathlib.Core.List.{List, ◌++◌}
use Prim.Native.Nat.{ℕ, ◌≤◌}
use native.Mathlib.Omega.{arith}
use lib.ListN.{length, take, drop, replicate, length-append, length-drop, length-replicate}
use lib.Seq.{take_at}
use Rattle.std.proofs.lemmas.List.{drop-replicate}
use Rattle.listing.specs.Writing.{padded}

module _ (n : ℕ) (text : List ℕ) (h : length text ≤ n) where
  -- the area
  abbrev pub area : List ℕ
  area = text ++ drop (length text) (replicate n 0)

  pub area_long : length area ≡ n
  area_long = simp (length-append, length-drop, length-replicate) (omega (arith, h))

  pub area_padded : padded n (take (length text) area) ≡ area
  area_padded =
      ap (padded n) (take_at text (drop (length text) (replicate n 0)) (length text) refl) ∙ ap (λ (x : List ℕ). text ++ x) (sym (drop-replicate (length text) n 0))
