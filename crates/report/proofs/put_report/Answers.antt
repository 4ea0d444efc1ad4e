-- `put_report` meets its contract: the listing before, the listing after and the verdict, one behind the other.
use Rattle.listing.proofs.Chains.{wrote_as, wrote_then}
use Rattle.report.proofs.Outputs.{report_parts}
use Rattle.report.proofs.put_report.Goals as goal

pub returns : goal.returns
returns c =
    let h = c.check_derivation-answer in
    let a = c.args in
    wrote_as _ (report_parts a.steps.now a.variables a.hard.now a.lines.now _ h.result h.ensures)
    (wrote_then (wrote_then c.put_listing.ensures.text c.put_listing-2.ensures.text) c.put_verdict.ensures)
