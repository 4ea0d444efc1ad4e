-- `insert` meets its contract: the line comes into the first free row, and the order has an entry for it at its place.
use mathlib.Core.Path.{ap}
use Prim.Native.Nat.{ℕ, ◌+◌, ◌*◌, ◌^◌, ◌<◌}
use native.Mathlib.Omega.{arith}
use mir.Facts.{to_z-of_z}
use Rattle.table.specs.RowsLaws.{row_below}
use Rattle.table.proofs.Searches.{first_small}
use Rattle.table.proofs.Lined.{many}
use Rattle.table.proofs.Changed.{put}
use Rattle.table.proofs.Table.insert.Given.{Over}
use Rattle.table.proofs.Table.insert.Goals as goal
use Rattle.table.proofs.Table.insert.Goals.{After-row_at-here}

-- there is a row
in_table : (g : Over) (c : goal.After-row_at-here g) → c.row_at-here.result < g.row.ROWS
in_table g c = let q = c.self.invariant.fits in omega (arith, c.row_at-here.ensures, row_below q c.self.inside.lines (omega (arith, many q c.self.view_is, c.requires.room)))

-- the key is small
first_bound : (g : Over) (c : goal.After-row_at-here g) → c.args.first < 2 ^ 38
first_bound g c = rw c.requires.first (first_small c.args.f.now c.requires.some (c.type_inv.f 0).fits)

pub overflow_mul-first : goal.overflow_mul-first
overflow_mul-first g c = omega (arith, first_bound g (goal.at.overflow_mul-first g c).After-row_at-here)

pub overflow_add-first : goal.overflow_add-first
overflow_add-first g c = omega (arith, first_bound g (goal.at.overflow_add-first g c).After-row_at-here, in_table g (goal.at.overflow_add-first g c).After-row_at-here, c.self.invariant.fits.capacity)

pub write-requires : goal.write-requires
write-requires g c = omega (arith, in_table g (goal.at.write-requires g c).After-row_at-here, c.self.invariant.fits.terms_length, c.requires.short)

pub invariant_of-self : goal.invariant_of-self
invariant_of-self g c =
    let a = c.args in
    let r = c.row_at-here.result in
    let p = c.requires in
    rw (c.insert.ensures.whole, c.write.ensures, to_z-of_z c.ranges.weight)
    (put c.self.invariant c.self.view_is a.at r (128 * a.first + r) a.f.now a.weight p.at p.room p.short (λ j. (c.type_inv.f j).fits) c.row_at-here.ensures
    (ap (λ (k : ℕ). 128 * k + r) p.first) p.ordered).1

pub returns : goal.returns
returns g c =
    let a = c.args in
    let r = c.row_at-here.result in
    let p = c.requires in
    rw (c.insert.ensures.whole, c.write.ensures, to_z-of_z c.ranges.weight)
    (put c.self.invariant c.self.view_is a.at r (128 * a.first + r) a.f.now a.weight p.at p.room p.short (λ j. (c.type_inv.f j).fits) c.row_at-here.ensures
    (ap (λ (k : ℕ). 128 * k + r) p.first) p.ordered).0
