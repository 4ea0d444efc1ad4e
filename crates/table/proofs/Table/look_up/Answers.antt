-- `look_up` meets its contract: the weight is that of the line at the place where the search found the polynomial.
use mathlib.Core.Path.{refl, sym, ◌∙◌}
use native.Mathlib.Omega.{arith}
use borrow.Author.Rules.{rules}
use Rattle.configuration.proofs.Weights.{read_back}
use Rattle.table.proofs.Lined.{lines_ordered}
use Rattle.table.proofs.Located.{among_lines, weight_here, weight_nought}
use Rattle.table.proofs.Table.look_up.Goals as goal

pub weight-requires : goal.weight-requires
weight-requires g c =
    let q = c.self.invariant.fits in
    (omega arith, among_lines (lines_ordered q c.self.view_is) c.in-Ok.ensures refl)

pub returns-in-Ok-clause-weight : goal.returns-in-Ok-clause-weight
returns-in-Ok-clause-weight g c =
    read_back c.weight.result (search rules) ∙ c.weight.ensures ∙ sym (weight_here (lines_ordered c.self.invariant.fits c.self.view_is) c.in-Ok.ensures refl)

pub returns-in-Err-clause-weight : goal.returns-in-Err-clause-weight
returns-in-Err-clause-weight g c =
    sym (weight_nought (lines_ordered c.self.invariant.fits c.self.view_is) c.in-Err.ensures refl)
