use Rattle.std.proofs.Common.{◌+◌, refl, arith}
use lib.ListN.{length, get_or}
use Rattle.run.proofs.Pasted.{none_pasted, more_pasted, all_pasted}
use Rattle.polynomial.proofs.area.write.Goals as goal

pub loop-i-init : goal.loop-i-init
loop-i-init c = none_pasted c.args.area.now c.args.run.now c.args.at 0 refl

pub loop-i-preserved : goal.loop-i-preserved
loop-i-preserved c =
    let l = c.loop-i in
    let s = c.args.run.now in
    more_pasted c.args.area.now s l.area c.args.at l.i (c.args.at + l.i) (l.i + 1) (get_or s l.i 0) 0 (omega arith) (omega arith) refl (omega arith) refl l.invariant

pub returns : goal.returns
returns c =
    let s = c.args.run.now in
    all_pasted c.args.area.now s c.loop-i.area c.args.at c.loop-i.i (c.args.at + length s) (omega arith) (omega arith) c.loop-i.invariant
