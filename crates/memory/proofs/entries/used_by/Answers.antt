use Rattle.std.proofs.Common.{arith, refl, rules}
use Rattle.memory.specs.MemoryLaws.{used_next}
use Rattle.memory.specs.Places.{used_by}
use Rattle.memory.proofs.entries.used_by.Goals as goal

pub loop-entry-init : goal.loop-entry-init
unfolding used_by
loop-entry-init c = (refl, omega arith)

pub loop-entry-preserved : goal.loop-entry-preserved
loop-entry-preserved c =
    let n = used_next c.loop-entry.entry-index c.args.entries.now (omega (arith, c.loop-entry-test.true)) in
    (omega (arith, n, c.loop-entry.invariant.0), search rules)
