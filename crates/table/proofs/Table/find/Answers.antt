use mathlib.Core.Path.{sym, ◌∙◌}
use Prim.Native.Nat.{◌+◌, ◌-◌, ◌*◌, ◌/◌, ◌<◌}
use Rattle.std.proofs.Math.Nat.{min-le_right}
use native.Mathlib.Omega.{arith}
use lib.ListN.{length}
use Rattle.table.specs.Table.{no_line}
use Rattle.table.specs.TableLaws.{line_is}
use Rattle.table.proofs.Searches.{IsBetween, lower, upper, found, missing, first_small, falling}
use Rattle.table.proofs.Lined.{lines_ordered, starts_at}
use Rattle.table.proofs.Table.find.Given.{Over}
use Rattle.table.proofs.Table.find.Goals as goal
use Rattle.table.proofs.Table.find.Goals.{In-loop-low, Joined-side, in-Less, in-Greater}

-- the line that is looked at
in_table : (g : Over) (c : goal.In-loop-low g) → c.loop-low.middle < length c.args.self.now
in_table g c =
    let i = c.loop-low.invariant in
    omega (arith, i.0.in_table, i.2 c.loop-low-test.true)

-- the bounds after a comparison
narrowed : (g : Over) (c : goal.Joined-side g) → (
    let l = c.loop-low in
    IsBetween c.args.f.now c.args.self.now c.match-side.low c.match-side.high × (c.match-side.high - c.match-side.low < l.high - l.low))
narrowed g c =
    let l = c.loop-low in
    let m = l.invariant.2 c.loop-low-test.true in
    let e = line_is c.args.self.now l.middle no_line (in_table g (goal.at.Joined-side g c).In-loop-low) in
    elim c.match-side.branch [
      | in-Less w ↦ (rw (w.high-is, w.low-is) (lower _ _ _ _ l.middle l.invariant.0 m _ _ e (sym c.order_at-side.ensures ∙ w.in-Less.is)), rw (w.high-is, w.low-is) (omega (arith, l.invariant.1)))
      | in-Greater w ↦ (
        rw (w.high-is, w.low-is) (upper _ _ _ _ l.middle l.invariant.0 m _ _ e (lines_ordered c.self.invariant.fits c.self.view_is) (sym c.order_at-side.ensures ∙ w.in-Greater.is)),
        rw (w.high-is, w.low-is) (omega (arith, l.invariant.1)),
      )
    ]

pub ahead-low-requires : goal.ahead-low-requires
ahead-low-requires g c =
    let q = c.self.invariant in (
      omega (arith, q.fits.room, q.fits.order_length),
      falling _ q.small q.fits,
      rw c.requires.first (first_small c.args.f.now c.requires.some (c.type_inv.f 0).fits),
    )

pub loop-low-init : goal.loop-low-init
loop-low-init g c =
    let q = c.self.invariant in (
      rw (c.ahead-low.ensures, c.requires.first) (starts_at q.fits c.self.view_is q.small c.args.f.now c.requires.some (c.type_inv.f 0).fits),
      omega arith,
      λ h. h,
      omega arith,
    )

pub order_at-side-requires : goal.order_at-side-requires
order_at-side-requires g c =
    (omega arith, (in_table g c, (c.requires.some, c.requires.first)))

pub returns-in-Equal : goal.returns-in-Equal
returns-in-Equal g c =
    let l = c.loop-low in
    let x = found _ _ _ _ l.middle l.invariant.0 (l.invariant.2 c.loop-low-test.true) _ _ (line_is c.args.self.now l.middle no_line (in_table g (goal.at.returns-in-Equal g c).In-loop-low))
    (lines_ordered c.self.invariant.fits c.self.view_is) (sym c.order_at-side.ensures ∙ c.in-Equal.is) in
    record { place = x.0; is = x.1 }

pub loop-low-preserved : goal.loop-low-preserved
loop-low-preserved g c =
    ((narrowed g (goal.at.loop-low-preserved g c).Joined-side).0, omega arith, λ h. omega (arith, c.min.ensures, min-le_right c.loop-low.reach ((c.match-side.high - c.match-side.low) / 2)), omega (arith, c.min-reach.ensures, min-le_right (2 * c.loop-low.reach + 1) 127))

pub returns : goal.returns
returns g c =
    let x = missing _ _ _ _ c.loop-low.invariant.0 c.loop-low-test.false in
    record { place = x.0; is = x.1 }
