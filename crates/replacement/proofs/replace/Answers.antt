-- `replace` meets its contract: the outcome is judged, and only then the changes are folded in.
use native.Mathlib.Omega.{arith}
use lib.ListN.{take}
use Rattle.replacement.proofs.Judgements.{Judged, judged_done, judged_few, judged_range}
use Rattle.replacement.proofs.replace.Goals as goal
use Rattle.replacement.proofs.replace.Goals.{After-judge}

judged : (c : goal.After-judge) → Judged c.args.changes.now c.args.table.now c.len-lines.result (take c.len-new_lines.result c.weigh-known.result) c.judge.result
judged c = record {
  new_ordered = c.len-new_lines.ensures.ordered;
  old_ordered = c.len-lines.ensures.ordered;
  old_fit = c.requires.0;
  counted = c.len-lines.ensures.lines;
  weighed = rw c.len-new_lines.ensures.lines c.weigh-known.ensures;
  is_told = c.judge.ensures;
}

pub fold_all-requires : goal.fold_all-requires
fold_all-requires c =
    let j = judged (goal.at.fold_all-requires c).After-judge in
    (j.new_ordered, j.old_ordered, omega (arith, c.len-lines.ensures.lines, c.len-lines.ensures.few), j.weighed, judged_range j c.in_ok-judge.field-0 c.in_ok-judge.was, judged_few j c.in_ok-judge.field-0 c.in_ok-judge.was)

pub returns : goal.returns
returns c = judged_done (judged (goal.at.returns c).After-judge) c.in_ok-judge.field-0 c.in_ok-judge.was _ c.fold_all.ensures
