-- SUM in signed mode by PROD alone. Document 004, Lemma 4.5: "Using weights in Z, and the structural substitution rules, the SUM rule can simulate the PROD rule and vice versa." Its proof that PROD
-- simulates SUM, each line below the second by one more PROD, folded:
--     [f, w] [g, w]
--     [f, w] [g, w] [f + g, w] [f + g, −w]                          unfolded
--     [f, w] [g, w] [f + g, w] [f (f + g), −w] [g (f + 1), −w]      of f + g by f
--     [f, w] [g f, w] [f + g, w] [f (f + g), −w]                    of g by f
--     [f g, 2w] [f + g, w]                                          of f by f + g
-- Document 02, Ask 11, takes the PROD of f before that of g, and by g: f g is f (f + g + 1), and f (g + 1) is f (f + g), so that it gives the same two polynomials.
use Rattle.std.specs.Prelude.{◌≡◌, List, [], ◌∷◌, ℕ, ℤ, neg_ℤ}
use Rattle.refusal.specs.Outcome.{accepted}
use Rattle.polynomial.specs.Polynomial.{sum_of}
use Rattle.configuration.specs.Configuration.{Line, add_all}
use Rattle.calculus.specs.Calculus.{changes, direct_step}
use Rattle.calculus.specs.declared.Rule.{Rule}
use Rattle.calculus.specs.declared.Rule.TheVariants.{Sum, Prod}
use Rattle.calculus.specs.declared.Mode.TheVariants.{Signed}

-- an application of a rule: f, g and the amount
pub data Application : Type 0 where
  apply : Rule → List ℕ → List ℕ → ℤ → Application

-- "signed SUM of f and g with w"
abbrev pub by_sum : List ℕ → List ℕ → ℤ → List Application
by_sum f g w = apply Sum f g w ∷ []

-- "PROD of f + g by f with −w, PROD of f by g with w, and PROD of g by f with w"
abbrev pub by_prods : List ℕ → List ℕ → ℤ → List Application
by_prods f g w = apply Prod (sum_of f g) f (neg_ℤ w) ∷ apply Prod f g w ∷ apply Prod g f w ∷ []

-- the lines that applications, one after the other, leave without limits: the changes of each folded in. H is the hard list; SUM and PROD do not read it.
unfoldable pub applied : List (List ℕ) → List Application → List Line → List Line
applied H [] L = L
applied H (apply r f g w ∷ more) L = applied H more (add_all (changes H r f g w) L)

-- each of them is taken as a direct step in signed mode, on the lines of n variables that those before it leave
abbrev pub AllAccepted : List (List ℕ) → ℕ → List Application → List Line → Type 0
AllAccepted H n [] L = Unit {0}
AllAccepted H n (apply r f g w ∷ more) L =
    let M = add_all (changes H r f g w) L in (direct_step H r Signed f g w n L ≡ accepted M) × AllAccepted H n more M
