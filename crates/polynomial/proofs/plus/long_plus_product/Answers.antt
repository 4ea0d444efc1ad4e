-- `long_plus_product` meets its contract: the keys of f and those of q h are in order, and then merged.
use mathlib.Core.Path.{◌≡◌, sym}
use Prim.Native.Nat.{◌+◌, ◌≤◌}
use native.Mathlib.Omega.{arith}
use lib.ListN.{length, take}
use lib.Seq.{length-take-le}
use borrow.Author.Rules.{rules}
use Rattle.run.specs.Run.{descending, normal_by}
use Rattle.run.proofs.RunSteps.{in_order}
use Rattle.term.specs.Term.{keys_with}
use Rattle.polynomial.specs.Polynomial.{sum_of, product_of, IsBelow}
use Rattle.polynomial.specs.PolynomialLaws.{product_ordered, product_below}
use Rattle.polynomial.proofs.Keys.{IsBelow-each, keys_ordered, sum_masks, Written-terms}
use Rattle.polynomial.proofs.plus.long_plus_product.Goals as goal
use Rattle.polynomial.proofs.plus.long_plus_product.Goals.{After-left-3-1, After-merged-4-1, After-merged-5-1, After-merged-6-1, After-product_keys-n}

pub slice_bounds-left-end : goal.slice_bounds-left-end
slice_bounds-left-end c = search rules

pub slice_bounds-merge-end : goal.slice_bounds-merge-end
slice_bounds-merge-end c = sym (length-take-le _ _ (slice_bounds-left-end (goal.at.slice_bounds-merge-end c).After-merged-4-1))

pub slice_bounds-right-end : goal.slice_bounds-right-end
slice_bounds-right-end c = search rules

pub slice_bounds-merge-end-2 : goal.slice_bounds-merge-end-2
slice_bounds-merge-end-2 c = sym (length-take-le _ _ (slice_bounds-right-end (goal.at.slice_bounds-merge-end-2 c).After-left-3-1))

-- there is room for both
room : (c : goal.After-merged-5-1) → length (take c.ordered_keys-m.result c.ordered_keys-m.new.keys)
    + length (take c.product_keys-n.result c.product_keys-n.new.keys) ≤ length c.product_keys-n.new.spare
room c =
    let l = c.ordered_keys-m in
    let r = c.product_keys-n in
    let l_long = length-take-le l.result l.new.keys (slice_bounds-left-end (goal.at.After-merged-5-1 c).After-merged-4-1) in
    let r_long = length-take-le r.result r.new.keys (slice_bounds-right-end (goal.at.After-merged-5-1 c).After-left-3-1) in
    omega (arith, c.requires, l_long, r_long, l.ensures.size, r.ensures.size, l.auto.spare, r.auto.spare)

-- the terms of q h are 32-bit masks, so that their keys are in order
low : (c : goal.After-product_keys-n) → (let a = c.args in IsBelow 32 (product_of a.q.now a.h.now))
low c =
    let a = c.args in
    product_below 32 a.q.now a.h.now
    (IsBelow-each a.q.now (λ i k. omega (arith, c.type_inv.q i)))
    (IsBelow-each a.h.now (λ i k. omega (arith, c.type_inv.h i)))

ordered : (c : goal.After-product_keys-n) → (let a = c.args in let k = c.product_keys-n in
    take k.result k.new.keys ≡ normal_by descending (keys_with 0 (product_of a.q.now a.h.now)))
ordered c =
    let a = c.args in
    keys_ordered (product_of a.q.now a.h.now) _ (low c) (product_ordered a.q.now a.h.now) c.product_keys-n.ensures.numbers

pub merge-count-requires : goal.merge-count-requires
merge-count-requires c = (room c, in_order _ _ c.ordered_keys-m.ensures.numbers, in_order _ _ (ordered (goal.at.merge-count-requires c).After-product_keys-n))

pub slice_bounds-merged-end : goal.slice_bounds-merged-end
slice_bounds-merged-end c =
    let m = c.merge-count in
    omega (arith, m.ensures.size, m.auto.out, room (goal.at.slice_bounds-merged-end c).After-merged-5-1)

pub slice_bounds-write_masks-end : goal.slice_bounds-write_masks-end
slice_bounds-write_masks-end c = sym (length-take-le _ _ (slice_bounds-merged-end (goal.at.slice_bounds-write_masks-end c).After-merged-6-1))

pub returns : goal.returns
returns c =
    let w = c.write_masks in
    let m = c.merge-count in
    let v = c.args in
    let f = v.f.now in
    let p = product_of v.q.now v.h.now in
    let below_f = IsBelow-each f (λ i h. omega (arith, c.type_inv.f i)) in
    let a = Written-terms (sum_of f p) (take m.result m.new.out) v.out.now w.new.out w.result
    (sum_masks f p _ _ _ below_f (low (goal.at.returns c).After-product_keys-n) c.ordered_keys-m.ensures.numbers (ordered (goal.at.returns c).After-product_keys-n) m.ensures.numbers) (w.ensures.size, w.ensures.masks) in
    record { size = a.0; sum = a.1 }
