-- `check_report` meets its contract: what was filed is as a report asks.
use Rattle.report.proofs.Outputs.{filed_list, filed_lines}
use Rattle.report.proofs.check_report.Goals as goal

pub put_report-requires-clause-hard : goal.put_report-requires-clause-hard
put_report-requires-clause-hard c = filed_list c.args.bytes.now _ _ _ _ c.file_problem-filed.ensures

pub put_report-requires-clause-lines : goal.put_report-requires-clause-lines
put_report-requires-clause-lines c = filed_lines c.args.bytes.now _ _ _ _ c.file_problem-filed.ensures
