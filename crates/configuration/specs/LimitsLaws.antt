-- What refusal 7 tells, behind the limits: a polynomial that is too long tells how many terms it has, and the limits of lines and weights tell none.
use Rattle.std.specs.Prelude.{◌≡◌, refl, Bool, true, false, List, [], ◌∷◌, ℕ, ◌≤◌, ◌<◌, leb, length}
use Rattle.std.proofs.Common.{leb→le}
use Rattle.std.proofs.Math.Dec.{nleb→lt}
use Rattle.run.specs.BooleanLaws.{of_true}
use Rattle.refusal.specs.Refusal.{too_long}
use Rattle.refusal.specs.Outcome.{Outcome, unless_for, unless, accepted, passing}
use Rattle.refusal.specs.Tests.{TellsTerms}
use Rattle.refusal.specs.TestsLaws.{tells_unless}
use Rattle.configuration.specs.Configuration.{Line, weights_fit}
use Rattle.configuration.specs.Limits.{short, within}

module _ (Q : ℕ → Type 0) where
  pub tells_short : {A : Type 0} (f : List ℕ) (o : Outcome A) → (64 < length f → Q (length f)) → (length f ≤ 64 → TellsTerms Q o) → TellsTerms Q (passing (short f ∷ []) o)
  tells_short f o long rest = go (leb (length f) 64) refl
    where
      go : (b : Bool) → leb (length f) 64 ≡ b → TellsTerms Q (unless_for b (too_long (length f)) o)
      go true e = rest (leb→le (length f) 64 (of_true e))
      go false e = λ z. long (nleb→lt (length f) 64 (rw e tt))

  pub tells_within : (L : List Line) → TellsTerms Q (within L)
  unfolding within
  tells_within L = tells_unless Q (leb (length L) 128) 10 (unless (weights_fit L) 11 (accepted L)) tt (λ h. tells_unless Q (weights_fit L) 11 (accepted L) tt (λ i. tt))
