-- `remove` meets its contract: the entry of the line goes behind those of the others.
use Rattle.std.proofs.Common.{◌≡◌, ◌++◌, ◌∷◌, ◌+◌, ◌-◌, arith, take, drop, set}
use Rattle.std.proofs.Math.Seq.{slice}
use Rattle.mask.proofs.ShiftSteps.{freed}
use Rattle.table.proofs.Lined.{many}
use Rattle.table.proofs.Changed.{out}
use Rattle.table.proofs.Table.remove.Goals as goal
use Rattle.table.proofs.Table.remove.Goals.{After-remove}
use Rattle.table.proofs.Table.remove.Given.{Over}

-- the order, with the free row behind
without : (g : Over) (c : After-remove g) → (let t = c.self.inside in let at = c.args.at in let r = c.row_at-here.result in
    set c.remove.new.area (t.lines - 1) r ≡ take at t.order ++ (slice (at + 1) t.lines t.order ++ (r ∷ drop t.lines t.order)))
without g c =
    let t = c.self.inside in
    let q = c.self.invariant.fits in
    let n = many q c.self.view_is in
    freed t.order c.remove.new.area t.lines c.args.at c.row_at-here.result (omega (arith, c.requires, n)) (omega (arith, q.room, q.order_length)) c.remove.ensures.whole

pub invariant_of-self : goal.invariant_of-self
invariant_of-self g c =
    rw (without g (goal.at.invariant_of-self g c).After-remove) (out c.self.invariant c.self.view_is c.args.at c.row_at-here.result c.requires c.row_at-here.ensures).1

pub returns : goal.returns
returns g c =
    rw (without g (goal.at.returns g c).After-remove) (out c.self.invariant c.self.view_is c.args.at c.row_at-here.result c.requires c.row_at-here.ensures).0
