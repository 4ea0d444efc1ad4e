use Rattle.table.specs.RowsLaws.{lines_short}
use Rattle.table.proofs.Table.len.Goals as goal

pub returns-clause-short : goal.returns-clause-short
returns-clause-short g c = rw (← c.self.view_is) (lines_short c.self.invariant.fits)
