-- All tests of a step in their order, and what its refusal 7 tells. A step is taken exactly where all tests are passed, and otherwise refused for the first that is not: TestsLaws.antt.
use Rattle.std.specs.Prelude.{◌≡◌, ◌⊎◌, List, [], ◌∷◌, ◌++◌, ℕ, ◌≤◌, ◌<◌, leb, ℤ, length}
use Rattle.refusal.specs.Outcome.{Test, test}
use Rattle.refusal.specs.Tests.{TermsOf}
use Rattle.polynomial.specs.Polynomial.{ONE, sum_of, product_of}
use Rattle.configuration.specs.Configuration.{Line, add_all, weights_fit}
use Rattle.hard.specs.Hard.{hard_at}
use Rattle.calculus.specs.Calculus.{conclusions, changes, mode_tests, length_tests, operand_tests}
use Rattle.calculus.specs.declared.Rule.{Rule}
use Rattle.calculus.specs.declared.Rule.TheVariants.{Sum, Prod, Hard}
use Rattle.calculus.specs.declared.Mode.{Mode}

-- the tests of the mode, then "7 a result over 64 terms; 10; 11", the last two of the lines with the changes folded in
abbrev pub step_tests : List (List ℕ) → Rule → Mode → List ℕ → List ℕ → ℤ → List Line → List Test
step_tests H r d f g w L =
    let M = add_all (changes H r f g w) L in
    mode_tests H r d f g w L ++ length_tests (conclusions H r f g w) ++ (test 10 (leb (length M) 128) ∷ test 11 (weights_fit M) ∷ [])

-- those of a step that is taken directly, in a configuration of n variables
abbrev pub direct_tests : List (List ℕ) → Rule → Mode → List ℕ → List ℕ → ℤ → ℕ → List Line → List Test
direct_tests H r d f g w n L = operand_tests n f g ++ step_tests H r d f g w L

-- ---- what refusal 7 tells (document 02, Ask 6): "fg is told first, then f + g or f(g + 1)"
-- p is f g, and q the other result: where f g is short enough, f (g + 1) is the sum of two polynomials as f + g is
abbrev pub LongOfTwo : List ℕ → List ℕ → ℕ → Type 0
LongOfTwo p q k = TermsOf p 4096 k ⊎ ((length p ≤ 64) × TermsOf q 128 k)

-- "up to 128 for a sum, 4,096 for a product and 4,160 for f(g + 1) or a hard-rule step's result"
abbrev pub LongResult : List (List ℕ) → Rule → List ℕ → List ℕ → ℕ → Type 0
LongResult H Sum f g k = LongOfTwo (product_of f g) (sum_of f g) k
LongResult H Prod f g k = LongOfTwo (product_of f g) (product_of f (sum_of g ONE)) k
LongResult H (Hard i) f g k = TermsOf (sum_of f (product_of g (hard_at H i))) 4160 k

-- a step that is taken directly: "for an f or g given too long its length, f's if both"
abbrev pub LongStep : List (List ℕ) → Rule → List ℕ → List ℕ → ℕ → Type 0
LongStep H r f g k =
    ((k ≡ length f) × (64 < k))
    ⊎ (((length f ≤ 64) × (k ≡ length g) × (64 < k))
    ⊎ ((length f ≤ 64) × (length g ≤ 64) × LongResult H r f g k))
