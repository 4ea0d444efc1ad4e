use Rattle.std.proofs.Common.{rules, arith}
use Rattle.hard.proofs.Forms.{row_good, end_good, end_bad}
use Rattle.hard.proofs.form.rows_formed.Goals as goal

pub loop-i-preserved : goal.loop-i-preserved
loop-i-preserved c =
    let i = c.loop-i-test.true in
    row_good _ _ _ _ _ _ c.loop-i.invariant _ (omega arith) i (omega (arith, i, c.requires)) _ c.row_formed.ensures c.if-not-row_formed.false

pub returns-then-is_zero : goal.returns-then-is_zero
returns-then-is_zero c = search (rules, end_good)

pub returns-else-is_zero : goal.returns-else-is_zero
returns-else-is_zero c = search (rules, end_bad)
