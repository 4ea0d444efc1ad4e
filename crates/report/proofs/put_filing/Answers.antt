-- `put_filing` meets its contract: nothing, or the words and what was refused.
use mathlib.Core.Path.{sym, ap}
use Rattle.std.specs.declared.result.Result.{Result}
use Rattle.refusal.specs.declared.Refused.{Refused}
use Rattle.listing.proofs.Chains.{wrote_as, wrote_then}
use Rattle.problem.specs.Problem.{told_of_filing}
use Rattle.report.specs.Report.{filing_text}
use Rattle.report.proofs.put_filing.Goals as goal

pub returns-in-Err : goal.returns-in-Err
returns-in-Err c =
    wrote_as _ (ap (λ (x : Result (Unit {0}) Refused). filing_text (told_of_filing x)) (sym c.in-Err.is)) (wrote_then c.put_bytes.ensures c.put_refusal.ensures)
