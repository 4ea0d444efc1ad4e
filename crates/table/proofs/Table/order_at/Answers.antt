-- `order_at` meets its contract: a line whose first key is lower stands behind, and any other is compared term by term.
use Rattle.table.proofs.Lined.{behind_key}
use Rattle.table.proofs.Table.order_at.Goals as goal

pub returns-then-key_at-first : goal.returns-then-key_at-first
returns-then-key_at-first g c =
    let q = c.self.invariant in
    behind_key q.fits c.self.view_is q.small c.args.f.now c.requires.some (c.type_inv.f 0).fits c.args.at c.requires.at
    (rw (← c.key_at.ensures, ← c.requires.first) c.if-key_at-first.true)
