-- What the programs print is what the open operations on lent memory tell and leave, whatever is lent, if its areas have the right lengths.
use Rattle.std.specs.Prelude.{◌≡◌, ℕ, T}
use Rattle.std.proofs.Common.{sym, ◌∙◌}
use Rattle.std.proofs.Math.Path.{ap, ap₂}
use mathlib.Core.List.{List, ◌++◌}
use Rattle.run.specs.BooleanLaws.{is_true}
use Rattle.configuration.specs.Configuration.{Line}
use Rattle.configuration.specs.Made.{Made}
use Rattle.hard.specs.Hard.{HardArea, hard_of, hard_image}
use Rattle.hard.specs.HardLaws as HardLaws
use Rattle.memory.specs.Memory.{back_to_back, standing_of}
use Rattle.memory.specs.MemoryLaws.{back_to_back_lem}
use Rattle.problem.specs.Problem.{FilingMade, file_problem}
use Rattle.problem.specs.ProblemLaws.{filed_configuration, filed_hard}
use Rattle.derivation.specs.Derivation.{Confirmation, check_derivation}
use Rattle.derivation.proofs.DerivationLaws.{check_variables, check_configuration}
use Rattle.listing.specs.Listing.{listing_of}
use Rattle.listing.specs.Code.{code_of}
use Rattle.checker.specs.Checker.{Lent, lent_sized, Left, left_of, lent_with, filed_with, file_in, check_in, listed_in, code_in}
use Rattle.checker.specs.CheckerLaws.{image_formed, file_sized, check_well}
use Rattle.report.specs.Report.{if_filed, code_text, verdict_text, code_output, check_output}

-- what a check leaves of what it makes, beside a hard list's area, and what it tells
abbrev laid_beside : HardArea → Made Confirmation → Left Confirmation
laid_beside a y = left_of (lent_with back_to_back y.variables y.lines a) y.told

-- a filing makes x
module _ (s : List ℕ) where
  abbrev x : FilingMade
  x = file_problem s

  abbrev area : HardArea
  area = hard_image x.hard

  abbrev filed : Lent
  filed = lent_with back_to_back x.variables x.lines area

  file_is : (m : Lent) → T (lent_sized m) → file_in s m ≡ filed_with back_to_back x
  file_is m h = file_sized back_to_back s m (is_true (lent_sized m) h)

  file_back : standing_of filed.memory ≡ x.lines
  file_back = back_to_back_lem.back x.variables x.lines (filed_configuration s)

  hard_back : hard_of area ≡ x.hard
  hard_back = HardLaws.image_back x.variables x.hard (filed_hard s)

  pub code_printed : (m : Lent) → T (lent_sized m) → (let left = file_in s m in code_output s ≡ if_filed left.told (code_text (code_in left.lent)))
  unfolding code_output
  code_printed m h =
      ap₂ (λ (H : List (List ℕ)) (L : List Line). if_filed x.told (code_text (code_of x.variables H L))) (sym hard_back) (sym file_back)
      ∙ ap (λ (left : Left (Unit {0})). if_filed left.told (code_text (code_in left.lent))) (sym (file_is m h))

  -- a check of it makes y, and leaves the hard list's area
  module _ (t : List ℕ) where
    abbrev y : Made Confirmation
    y = check_derivation t x.variables x.hard x.lines

    check_is : check_in t filed ≡ laid_beside area y
    check_is =
        check_well back_to_back_lem t filed
        (image_formed back_to_back_lem x.variables x.lines area (filed_configuration s) (HardLaws.image_formed x.variables x.hard (filed_hard s)))
        ∙ ap₂ (λ (H : List (List ℕ)) (L : List Line). laid_beside area (check_derivation t x.variables H L)) hard_back file_back

    check_back : standing_of (laid_beside area y).lent.memory ≡ y.lines
    check_back =
        back_to_back_lem.back y.variables y.lines
        (rw (check_variables t x.variables x.hard x.lines)
        (check_configuration t x.variables x.hard x.lines (filed_hard s) (filed_configuration s)))

    -- what is printed of what is left by a filing and by a check
    abbrev printed : Left (Unit {0}) → Left Confirmation → List ℕ
    printed left last = if_filed left.told (listed_in left.lent ++ listed_in last.lent ++ verdict_text last.told)

    -- the same of a hard list and the lines before and after
    abbrev printed_of : List (List ℕ) → List Line → List Line → List ℕ
    printed_of H L M = if_filed x.told (listing_of x.variables H L ++ listing_of y.variables H M ++ verdict_text y.told)

    pub check_printed : (m : Lent) → T (lent_sized m)
        → (let left = file_in s m in let last = check_in t left.lent in
        check_output s t ≡ if_filed left.told (listed_in left.lent ++ listed_in last.lent ++ verdict_text last.told))
    unfolding check_output
    check_printed m h =
        ap (λ (H : List (List ℕ)). printed_of H x.lines y.lines) (sym hard_back)
        ∙ ap₂ (printed_of (hard_of area)) (sym file_back) (sym check_back)
        ∙ ap (printed (filed_with back_to_back x)) (sym check_is)
        ∙ ap (λ (left : Left (Unit {0})). printed left (check_in t left.lent)) (sym (file_is m h))
