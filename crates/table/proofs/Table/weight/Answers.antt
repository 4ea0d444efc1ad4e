use mathlib.Core.Path.{◌∙◌}
use native.Mathlib.Omega.{arith}
use borrow.Author.Rules.{rules}
use Rattle.configuration.proofs.Weights.{read_back}
use Rattle.table.proofs.Lined.{row_there, weight_is}
use Rattle.table.proofs.Table.weight.Goals as goal

pub bounds-self-inside-row_at : goal.bounds-self-inside-row_at
bounds-self-inside-row_at g c =
    omega (arith, c.row_at.ensures, row_there c.self.invariant.fits c.self.view_is c.args.at c.requires)

pub returns : goal.returns
returns g c =
    rw c.row_at.ensures (read_back _ (search rules)) ∙ weight_is c.self.invariant.fits c.self.view_is c.args.at c.requires
