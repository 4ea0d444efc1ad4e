-- Weighted Polynomial Calculus: the rules of document 004 and the hard step of document 02, folded as document 01 says, and the taking of one step.
-- H is the hard list.
use Rattle.std.specs.Prelude.{Bool, true, false, cond, not, ◌&&◌, ◌||◌, List, [], ◌∷◌, ◌++◌, ℕ, ℤ, pos, ◌+ℤ◌}
use Rattle.std.specs.Int.Signed.{le_z}
use Rattle.refusal.specs.Outcome.{Outcome, Test, test, passing}
use Rattle.run.specs.Run.{sorted}
use Rattle.term.specs.Term.{before}
use Rattle.polynomial.specs.Polynomial.{ONE, sum_of, product_of}
use Rattle.configuration.specs.Weight.{limit, in_range, is_zero}
use Rattle.configuration.specs.Configuration.{Line, line, some, weight, add_all, negated, below, any_negative}
use Rattle.configuration.specs.Limits.{short, within}
use Rattle.hard.specs.Hard.{hard_at, is_number}
use Rattle.calculus.specs.declared.Rule.{Rule}
use Rattle.calculus.specs.declared.Rule.TheVariants.{Sum, Prod, Hard}
use Rattle.calculus.specs.declared.Mode.{Mode}
use Rattle.calculus.specs.declared.Mode.TheVariants.{Plain, Signed}

-- ---- the rules: what a rule with its operands takes away, and what it gives
-- SUM: "f and g lose w each, f + g gains w, fg gains 2w". PROD: "f loses w, fg gains w, f(g + 1) gains w". What is given stands in the order of document 02, Ask 6:
-- "Where several results of a step are too long, fg is told first, then f + g or f(g + 1)."
-- The hard step of document 02, Ask 1, with g as the work polynomial q: "amount w moves from f to f + q times that polynomial".
abbrev pub premises : Rule → List ℕ → List ℕ → ℤ → List Line
premises Sum f g w = line f w ∷ line g w ∷ []
premises Prod f g w = line f w ∷ []
premises (Hard i) f g w = line f w ∷ []

abbrev pub conclusions : List (List ℕ) → Rule → List ℕ → List ℕ → ℤ → List Line
conclusions H Sum f g w = line (product_of f g) (w +ℤ w) ∷ line (sum_of f g) w ∷ []
conclusions H Prod f g w = line (product_of f g) w ∷ line (product_of f (sum_of g ONE)) w ∷ []
conclusions H (Hard i) f g w = line (sum_of f (product_of g (hard_at H i))) w ∷ []

abbrev pub changes : List (List ℕ) → Rule → List ℕ → List ℕ → ℤ → List Line
changes H r f g w = negated (premises r f g w) ++ conclusions H r f g w

-- ---- what a step is judged by
abbrev pub is_plain : Mode → Bool
is_plain Plain = true
is_plain Signed = false

-- "In the plain mode w is 1 to 10^12 .. In the signed mode .. w is from −10^12 to 10^12 and not 0"
abbrev pub amount_fits : Mode → ℤ → Bool
amount_fits Plain w = le_z (pos 1) w && le_z w (pos limit)
amount_fits Signed w = in_range w && not (is_zero w)

-- the weight is there: of each premise's polynomial as much as the premises ask of it in all; "The polynomial 0 is never asked for."
unfoldable pub covers : List Line → List Line → List Line → Bool
covers L P [] = true
covers L P (line f w ∷ Q) = cond (some f) (le_z (weight P f) (weight L f)) true && covers L P Q

abbrev pub there : List Line → List Line → Bool
there L P = covers L P P

-- a rule that names a hard polynomial names one that is there
abbrev pub rule_named : List (List ℕ) → Rule → Bool
rule_named H Sum = true
rule_named H Prod = true
rule_named H (Hard i) = is_number H i

-- ---- one step of a configuration
-- "12 plain mode and a negative line; 8; 9 plain mode and the weight not there"; document 02, Ask 1: "a number not in the list is 19, tested between 12 and 8"
abbrev pub mode_tests : List (List ℕ) → Rule → Mode → List ℕ → List ℕ → ℤ → List Line → List Test
mode_tests H r m f g w L =
    test 12 (not (is_plain m && any_negative L)) ∷
    test 19 (rule_named H r) ∷
    test 8 (amount_fits m w) ∷
    test 9 (not (is_plain m) || there L (premises r f g w)) ∷ []

-- "7 a result over 64 terms", of each result in its turn
abbrev pub length_tests : List Line → List Test
length_tests [] = []
length_tests (line f w ∷ C) = short f ∷ length_tests C

-- then the limits, 10 and 11, of the lines with the changes
abbrev pub changed : List (List ℕ) → Rule → List ℕ → List ℕ → ℤ → List Line → Outcome (List Line)
changed H r f g w L = passing (length_tests (conclusions H r f g w)) (within (add_all (changes H r f g w) L))

unfoldable pub step : List (List ℕ) → Rule → Mode → List ℕ → List ℕ → ℤ → List Line → Outcome (List Line)
step H r m f g w L = passing (mode_tests H r m f g w L) (changed H r f g w L)

-- ---- a step that is taken directly: its operands are tested first
-- "7 f or g longer than 64; 6; 16 terms of f or g not in strict written order"; 7 tells "for an f or g given too long its length, f's if both" (document 02, Ask 6)
abbrev pub operand_tests : ℕ → List ℕ → List ℕ → List Test
operand_tests n f g =
    short f ∷
    short g ∷
    test 6 (below n f && below n g) ∷
    test 16 (sorted before f && sorted before g) ∷ []

unfoldable pub direct_step : List (List ℕ) → Rule → Mode → List ℕ → List ℕ → ℤ → ℕ → List Line → Outcome (List Line)
direct_step H r d f g w n L = passing (operand_tests n f g) (step H r d f g w L)
