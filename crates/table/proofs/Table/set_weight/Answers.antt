-- `set_weight` meets its contract: no other line has the row.
use native.Mathlib.Omega.{arith}
use mir.Facts.{to_z-of_z}
use Rattle.table.proofs.Lined.{row_there}
use Rattle.table.proofs.Changed.{anew}
use Rattle.table.proofs.Table.set_weight.Goals as goal

pub bounds-self-inside-here : goal.bounds-self-inside-here
bounds-self-inside-here g c =
    omega (arith, c.row_at-here.ensures, row_there c.self.invariant.fits c.self.view_is c.args.at c.requires.at)

pub invariant_of-self : goal.invariant_of-self
invariant_of-self g c =
    rw (to_z-of_z c.ranges.weight)
    (anew c.self.invariant c.self.view_is c.args.at c.row_at-here.result c.args.weight c.requires.at c.row_at-here.ensures c.requires.ordered).1

pub returns : goal.returns
returns g c =
    rw (to_z-of_z c.ranges.weight)
    (anew c.self.invariant c.self.view_is c.args.at c.row_at-here.result c.args.weight c.requires.at c.row_at-here.ensures c.requires.ordered).0
