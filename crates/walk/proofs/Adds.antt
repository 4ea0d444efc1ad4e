-- Whether a polynomial at the front of an area has a term.
use mathlib.Core.Path.{◌≡◌}
use mathlib.Core.Bool.{not}
use mathlib.Core.List.{List, [], ◌∷◌}
use Prim.Native.Nat.{ℕ, zero, suc}
use native.Mathlib.Omega.{arith}
use lib.Dec.{eqb}
use lib.ListN.{length, take}
use borrow.Author.Tests.{eq-eqb, ne_eqb}
use Rattle.configuration.specs.Configuration.{some}

-- ---- a polynomial of no terms has none
pub held_none : (k : ℕ) (us : List ℕ) → length us ≡ 64 → eqb k 0 ≡ not (some (take k us))
held_none zero us h = eq-eqb 0 0 (omega arith)
held_none (suc k) [] h = let x : ⊥ = omega arith in absurd x
held_none (suc k) (t ∷ us) h = ne_eqb (suc k) 0 (λ e. omega arith)
