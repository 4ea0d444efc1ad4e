use mathlib.Core.Path.{◌≡◌}
use Prim.Native.Nat.{◌+◌, ◌-◌, ◌*◌, ◌≤◌}
use native.Mathlib.Omega.{arith}
use lib.ListN.{length, get_or, take, drop}
use Rattle.table.specs.RowsLaws.{row_fits, line_short}
use Rattle.table.specs.Table.{terms_at}
use Rattle.table.proofs.Lined.{among, row_there, terms_are, some_is}
use Rattle.table.proofs.Table.terms.Given.{Over}
use Rattle.table.proofs.Table.terms.Goals as goal
use Rattle.table.proofs.Table.terms.Goals.{After-row_at-here}

-- the row ends within the area
fits : (g : Over) (c : goal.After-row_at-here g) → 64 * c.row_at-here.result + get_or c.self.inside.counts c.row_at-here.result 0 ≤ length c.self.inside.terms
fits g c = rw c.row_at-here.ensures (row_fits c.self.invariant.fits c.args.at (among c.self.invariant.fits c.self.view_is c.args.at c.requires))

-- what is in it
held : (g : Over) (c : goal.After-row_at-here g) → (let i = c.row_at-here.result in let n = get_or c.self.inside.counts i 0 in
    take (64 * i + n - 64 * i) (drop (64 * i) c.self.inside.terms) ≡ terms_at c.args.self.now c.args.at)
held g c =
    let i = c.row_at-here.result in
    let n = get_or c.self.inside.counts i 0 in
    let e : 64 * i + n - 64 * i ≡ n = omega arith in
    rw (e, c.row_at-here.ensures) (terms_are c.self.invariant.fits c.self.view_is c.args.at c.requires)

pub bounds-self-inside-here : goal.bounds-self-inside-here
bounds-self-inside-here g c =
    omega (arith, c.row_at-here.ensures, row_there c.self.invariant.fits c.self.view_is c.args.at c.requires)

pub slice_bounds-result-end : goal.slice_bounds-result-end
slice_bounds-result-end g c = fits g (goal.at.slice_bounds-result-end g c).After-row_at-here

pub returns-clause-line : goal.returns-clause-line
returns-clause-line g c = held g (goal.at.returns-clause-line g c).After-row_at-here

pub returns-clause-some : goal.returns-clause-some
returns-clause-some g c = rw (held g (goal.at.returns-clause-some g c).After-row_at-here) (some_is c.self.invariant.fits c.self.view_is c.args.at c.requires)

pub returns-clause-short : goal.returns-clause-short
returns-clause-short g c =
    rw (held g (goal.at.returns-clause-short g c).After-row_at-here, ← terms_are c.self.invariant.fits c.self.view_is c.args.at c.requires)
    (line_short c.self.invariant.fits c.args.at (among c.self.invariant.fits c.self.view_is c.args.at c.requires))
