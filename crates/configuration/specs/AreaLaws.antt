-- An area is zero just where it is so many zeros.
use Rattle.std.specs.Prelude.{◌≡◌, refl, List, [], ◌∷◌, ℕ, zero, suc, T, eqb, length, replicate}
use Rattle.std.proofs.Common.{ap₂, eqb→eq}
use Rattle.run.specs.BooleanLaws.{left, right}
use Rattle.configuration.specs.Area.{zeros}

pub zeros-replicate : (l : List ℕ) → T (zeros l) → l ≡ replicate (length l) 0
unfolding zeros
zeros-replicate [] h = refl
zeros-replicate (x ∷ l) h = ap₂ (λ (y : ℕ) (m : List ℕ). y ∷ m) (eqb→eq x 0 (left (eqb x 0) (zeros l) h)) (zeros-replicate l (right (eqb x 0) (zeros l) h))

pub replicate-zeros : (n : ℕ) → T (zeros (replicate n 0))
unfolding zeros
replicate-zeros zero = tt
replicate-zeros (suc n) = replicate-zeros n
