-- What is printed of a problem's bytes and a derivation's, from what filing and checking made.
use mathlib.Core.Path.{◌≡◌, sym, ap, subst}
use mathlib.Core.List.{List, ◌++◌}
use Prim.Native.Nat.{ℕ}
use lib.Dec.{T}
use Rattle.std.specs.declared.result.Result.{Result}
use Rattle.refusal.specs.Outcome.{Told}
use Rattle.refusal.specs.declared.Refused.{Refused}
use Rattle.configuration.specs.Configuration.{Line, is_configuration}
use Rattle.configuration.specs.Made.{Made}
use Rattle.hard.specs.Hard.{is_hard_list}
use Rattle.problem.specs.Problem.{FilingMade, file_problem}
use Rattle.problem.specs.ProblemLaws.{filed_configuration, filed_hard}
use Rattle.derivation.specs.Derivation.{Confirmation, check_derivation, told_of_check}
use Rattle.derivation.specs.declared.Confirmed.{Confirmed}
use Rattle.listing.specs.Listing.{listing_of}
use Rattle.report.specs.Report.{verdict_text, report_text}

-- what a filing made of the bytes: the hard list and the lines are such of its variables
module _ (s : List ℕ) (n : ℕ) (H : List (List ℕ)) (L : List Line) (a : Told (Unit {0}))
    (e : ◌≡◌ {A = FilingMade} (record { variables = n; hard = H; lines = L; told = a }) (file_problem s)) where
  pub filed_list : T (is_hard_list n H)
  filed_list = subst (λ (x : FilingMade). T (is_hard_list x.variables x.hard)) (sym e) (filed_hard s)

  pub filed_lines : T (is_configuration n L)
  filed_lines = subst (λ (x : FilingMade). T (is_configuration x.variables x.lines)) (sym e) (filed_configuration s)

-- a report, by what the check made
pub report_parts : (t : List ℕ) (n : ℕ) (H : List (List ℕ)) (L M : List Line) (b : Result Confirmed Refused)
    → ◌≡◌ {A = Made Confirmation} (record { variables = n; lines = M; told = told_of_check b }) (check_derivation t n H L)
    → listing_of n H L ++ listing_of n H M ++ verdict_text (told_of_check b) ≡ report_text t n H L
report_parts t n H L M b e = ap (λ (y : Made Confirmation). listing_of n H L ++ listing_of y.variables H y.lines ++ verdict_text y.told) e
