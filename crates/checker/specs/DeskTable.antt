-- The twelve starred rows of document 01's desk table, as one theorem. Each row speaks of the definitions that the promises of the open operations equate with: `clause_of`
-- (Polynomial::clause), and of what is lent `step_in` and `check_in`.
use Rattle.std.specs.Prelude.{◌≡◌, refl, List, [], ◌∷◌, ℕ, ℤ, pos, negsuc}
use Rattle.std.specs.Int.Count.{ones}
use Rattle.run.specs.Run.{toggle_by, normal_by, sorted}
use Rattle.term.specs.Term.{before}
use Rattle.refusal.specs.Refusal.{numbered}
use Rattle.refusal.specs.Outcome.{Told, refused_at}
use Rattle.mask.specs.Mask.{unions}
use Rattle.polynomial.specs.Polynomial.{ZERO, ONE, factors, clause_of, order_of}
use Rattle.configuration.specs.Configuration.{Line, line, total, fold, add, add_all, negated, below, line_fits, lines_fit, weights_fit, any_negative}
use Rattle.configuration.specs.Limits.{within}
use Rattle.configuration.specs.Area.{zeros}
use Rattle.hard.specs.Hard.{read_hard, laid_hard, hard_image, rows_formed}
use Rattle.memory.specs.Memory.{back_to_back, read_lines, all_terms, entries_of, alike}
use Rattle.calculus.specs.Calculus.{covers, step, direct_step}
use Rattle.calculus.specs.declared.Rule.TheVariants.{Sum, Prod}
use Rattle.calculus.specs.declared.Mode.TheVariants.{Plain, Signed}
use Rattle.record.specs.Letters.{letter_n, letter_z, letter_b}
use Rattle.record.specs.Record.{little_endian}
use Rattle.walk.specs.Walk.{walk, gathered}
use Rattle.derivation.specs.Derivation.{on_record, largest, degree_in, derivation_degree, Confirmation, confirmed, check_derivation}
use Rattle.checker.specs.Checker.{Lent, Left, left_of, lent_with, done, step_under, check_under, step_in, check_in}

-- ---- polynomials of the table
abbrev x1 : List ℕ
x1 = 1 ∷ []

abbrev x2 : List ℕ
x2 = 2 ∷ []

abbrev x1x2 : List ℕ
x1x2 = 3 ∷ []

-- two variables, the lines in the written order, and no hard polynomial
abbrev holding : List Line → Lent
holding L = lent_with back_to_back 2 L (hard_image [])

-- ---- what a step or a claim leaves
abbrev makes : List Line → Left (Unit {0})
makes L = left_of (holding L) done

abbrev refuses : List Line → ℕ → Left (Unit {0})
refuses L n = left_of (holding L) (refused_at 0 (numbered n))

-- a derivation in a mode that makes a claim and nothing else: the mode's letter, B, eight bytes
abbrev claiming : ℕ → List ℕ → List ℕ
claiming mode bytes = mode ∷ letter_b ∷ bytes

abbrev number : ℕ → List ℕ
number k = k ∷ 0 ∷ 0 ∷ 0 ∷ 0 ∷ 0 ∷ 0 ∷ 0 ∷ []

-- the bytes of -1
abbrev minus_one : List ℕ
minus_one = 255 ∷ 255 ∷ 255 ∷ 255 ∷ 255 ∷ 255 ∷ 255 ∷ 255 ∷ []

abbrev answers : List Line → Told Confirmation → Left Confirmation
answers L t = left_of (holding L) t

abbrev million² : ℕ
million² = 1000000000000

-- ---- the rows
pub record DeskTable : Type 0 where
  -- clause x1, x2: x1*x2 + x2 + x1 + 1
  pub row1 : clause_of 3 0 ≡ 3 ∷ 2 ∷ 1 ∷ 0 ∷ []
  -- clause not x1, x2, x3: x1*x2*x3 + x1*x3 + x1*x2 + x1
  pub row2 : clause_of 6 1 ≡ 7 ∷ 5 ∷ 3 ∷ 1 ∷ []
  -- clause x1, not x2, x3: x1*x2*x3 + x2*x3 + x1*x2 + x2
  pub row3 : clause_of 5 2 ≡ 7 ∷ 6 ∷ 3 ∷ 2 ∷ []
  -- clause x1, not x1: 0, no line
  pub row4 : (clause_of 1 1 ≡ ZERO) × ((w : ℤ) (L : List Line) → add (clause_of 1 1) w L ≡ L)
  -- the empty clause: 1
  pub row5 : clause_of 0 0 ≡ ONE
  -- x1 and x2 at 1 each, plain SUM 1: x1*x2 at 2, x2 + x1 at 1
  pub row6 : step_in Sum Plain x1 x2 (pos 1) (holding (line x2 (pos 1) ∷ line x1 (pos 1) ∷ [])) ≡ makes (line x1x2 (pos 2) ∷ line (2 ∷ 1 ∷ []) (pos 1) ∷ [])
  -- x1 at 1, plain PROD by x2, 1: x1*x2 at 1, x1*x2 + x1 at 1
  pub row7 : step_in Prod Plain x1 x2 (pos 1) (holding (line x1 (pos 1) ∷ [])) ≡ makes (line x1x2 (pos 1) ∷ line (3 ∷ 1 ∷ []) (pos 1) ∷ [])
  -- x1 at 2, plain SUM with itself, 2 then 1: refused 9, then unchanged
  pub row8 : (step_in Sum Plain x1 x1 (pos 2) (holding (line x1 (pos 2) ∷ [])) ≡ refuses (line x1 (pos 2) ∷ []) 9)
      × (step_in Sum Plain x1 x1 (pos 1) (holding (line x1 (pos 2) ∷ [])) ≡ makes (line x1 (pos 2) ∷ []))
  -- empty standing, signed PROD of x1 by x2, 1: x1 at -1, x1*x2 at 1, x1*x2 + x1 at 1; claim 0 refused 12
  pub row9 : (step_in Prod Signed x1 x2 (pos 1) (holding []) ≡ makes (line x1x2 (pos 1) ∷ line (3 ∷ 1 ∷ []) (pos 1) ∷ line x1 (negsuc 0) ∷ []))
      × (check_in (claiming letter_z (number 0)) (holding (line x1x2 (pos 1) ∷ line (3 ∷ 1 ∷ []) (pos 1) ∷ line x1 (negsuc 0) ∷ []))
      ≡ answers (line x1x2 (pos 1) ∷ line (3 ∷ 1 ∷ []) (pos 1) ∷ line x1 (negsuc 0) ∷ []) (refused_at 2 (numbered 12)))
  -- 1 at 2, claims 2, 3, 0, -1: confirmed, 13, confirmed, 8
  pub row10 : (check_in (claiming letter_n (number 2)) (holding (line ONE (pos 2) ∷ [])) ≡ answers (line ONE (pos 2) ∷ []) (confirmed (pos 2) 0))
      × (check_in (claiming letter_n (number 3)) (holding (line ONE (pos 2) ∷ [])) ≡ answers (line ONE (pos 2) ∷ []) (refused_at 2 (numbered 13)))
      × (check_in (claiming letter_n (number 0)) (holding (line ONE (pos 2) ∷ [])) ≡ answers (line ONE (pos 2) ∷ []) (confirmed (pos 0) 0))
      × (check_in (claiming letter_n minus_one) (holding (line ONE (pos 2) ∷ [])) ≡ answers (line ONE (pos 2) ∷ []) (refused_at 2 (numbered 8)))
  -- empty standing, signed SUM of x1 and x2, 10^12: refused 11
  pub row11 : step_in Sum Signed x1 x2 (pos million²) (holding []) ≡ refuses [] 11
  -- the same with PROD: accepted
  pub row12 : step_in Prod Signed x1 x2 (pos million²) (holding [])
      ≡ makes (line x1x2 (pos million²) ∷ line (3 ∷ 1 ∷ []) (pos million²) ∷ line x1 (negsuc 999999999999) ∷ [])

-- ---- every row holds: all of it is computed
pub desk_table : DeskTable
unfolding factors normal_by toggle_by unions before ones below sorted order_of lines_fit line_fits weights_fit any_negative total add fold add_all negated within covers step direct_step little_endian walk gathered on_record largest degree_in derivation_degree check_derivation read_lines all_terms entries_of alike zeros read_hard laid_hard rows_formed step_under check_under
desk_table = record {
  row1 = refl;
  row2 = refl;
  row3 = refl;
  row4 = (refl, λ w L. refl);
  row5 = refl;
  row6 = refl;
  row7 = refl;
  row8 = (refl, refl);
  row9 = (refl, refl);
  row10 = (refl, refl, refl, refl);
  row11 = refl;
  row12 = refl;
}
