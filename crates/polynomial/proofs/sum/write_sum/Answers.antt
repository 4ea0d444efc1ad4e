-- `write_sum` meets its contract: few terms are added one by one; else the keys of both runs are put in order, and then merged.
use mathlib.Core.List.{[], map}
use native.Mathlib.Omega.{arith}
use lib.Bits.{bit_or}
use lib.ListN.{take}
use Rattle.polynomial.specs.Polynomial.{sum_of}
use Rattle.polynomial.proofs.Keys.{IsBelow-each, sum_masks, sum_in_order, Written-terms}
use Rattle.polynomial.proofs.sum.write_sum.Goals as goal
use Rattle.polynomial.proofs.sum.write_sum.Goals.{After-left-3-1, After-merged-4-1, After-merged-5-1, After-merged-6-1, After-toggle_all-n, After-write-arg-1}

pub toggle_all-n-requires : goal.toggle_all-n-requires
toggle_all-n-requires c =
    let t = c.toggle_all-m in
    let f = c.args.f.now in
    (omega (arith, t.ensures.size, t.auto.terms), sum_in_order [] (map (bit_or 0) f) _ t.ensures.sum)

pub returns : goal.returns
returns c =
    let f = c.args.f.now in
    let g = c.args.g.now in
    let below_f = IsBelow-each f (λ i h. omega (arith, c.type_inv.f i)) in
    let below_g = IsBelow-each g (λ i h. omega (arith, c.type_inv.g i)) in
    let m = c.merge-count in
    let w = c.write_masks in
    let a = Written-terms (sum_of f g) (take m.result m.new.out) c.args.out.now w.new.out w.result
    (sum_masks f g _ _ _ below_f below_g c.ordered_keys-m.ensures.numbers c.ordered_keys-n.ensures.numbers m.ensures.numbers)
    (w.ensures.size, w.ensures.masks) in
    record { size = a.0; sum = a.1 }
