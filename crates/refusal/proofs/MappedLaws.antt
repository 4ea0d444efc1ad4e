-- What stood before its error was put in other words, as `map_err` promises it.
use Rattle.std.specs.Prelude.{◌≡◌, refl}
use Rattle.std.proofs.Common.{sym, ◌∙◌}
use Rattle.std.specs.Result.{MatchResult, IsErrAnd}
use Rattle.std.specs.declared.result.Result.{Result}
use Rattle.std.specs.declared.result.Result.TheVariants.{Ok, Err}

-- m is r with the error y put as some d of which Q y d holds
pub mapped_ok : {A E F : Type 0} (Q : E → F → Type 0) (r : Result A E) (m : Result A F)
    → MatchResult r (λ x. m ≡ Ok x) (λ y. IsErrAnd m (λ d. Q y d)) → (x : A) → m ≡ Ok x → r ≡ Ok x
mapped_ok {A} {E} {F} Q (Ok y) m h x e = let z : ◌≡◌ {A = Result A F} (Ok y) (Ok x) = sym h ∙ e in cc
mapped_ok Q (Err y) m h x e = absurd (rw e at h)

pub mapped_err : {A E F : Type 0} (Q : E → F → Type 0) (r : Result A E) (m : Result A F)
    → MatchResult r (λ x. m ≡ Ok x) (λ y. IsErrAnd m (λ d. Q y d)) → (d : F) → m ≡ Err d → (y : E) × (r ≡ Err y) × Q y d
mapped_err {A} {E} {F} Q (Ok x) m h d e = let z : ◌≡◌ {A = Result A F} (Ok x) (Err d) = sym h ∙ e in cc
mapped_err Q (Err y) m h d e = (y, refl, rw e at h)
