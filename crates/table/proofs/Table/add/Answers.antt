-- `add` meets its contract: nothing is done for the polynomial 0.
use mathlib.Core.Path.{sym}
use Rattle.table.proofs.Located.{add_none}
use Rattle.table.proofs.Table.add.Goals as goal

pub returns-then-f : goal.returns-then-f
returns-then-f g c = sym (add_none c.args.f.now c.args.amount c.args.self.now c.if-f.true)
