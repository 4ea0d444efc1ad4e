-- `arranged` meets its contract: masks that ascend, apart from a mask, are different with it too, so as many are left as there are.
use mathlib.Core.List.{map}
use native.Mathlib.Omega.{arith}
use lib.Bits.{bit_or}
use lib.ListN.{take}
use Rattle.polynomial.specs.Polynomial.{normal}
use Rattle.polynomial.proofs.Keys.{IsBelow-each, run_masks, Written-terms}
use Rattle.polynomial.proofs.few.arranged.Goals as goal
use Rattle.polynomial.proofs.few.arranged.Goals.{After-spare-2-1}

pub returns : goal.returns
returns c =
    let masks = c.args.masks.now in
    let below = IsBelow-each masks (λ i h. omega (arith, c.type_inv.masks i)) in
    let k = c.ordered_keys-n in
    let w = c.write_masks in
    let a = Written-terms (normal (map (bit_or c.args.fixed) masks)) (take k.result k.new.keys) c.args.out.now w.new.out w.result
    (run_masks c.args.fixed masks _ c.ranges.fixed.fits below k.ensures.numbers) (w.ensures.size, w.ensures.masks) in
    record { size = a.0; sum = a.1 }
