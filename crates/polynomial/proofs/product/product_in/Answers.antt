-- `product_in` meets its contract: the masks of the keys that are left are the product.
use Rattle.std.proofs.Common.{take, arith}
use Rattle.polynomial.specs.Polynomial.{product_of}
use Rattle.polynomial.proofs.Keys.{IsBelow-each, product_masks, Written-terms}
use Rattle.polynomial.proofs.product.product_in.Goals as goal

pub returns : goal.returns
returns g c =
    let f = c.args.f.now in
    let q = c.args.g.now in
    let k = c.ordered_products-count in
    let w = c.write_masks in
    let below_f = IsBelow-each f (λ i h. omega (arith, c.type_inv.f i)) in
    let below_g = IsBelow-each q (λ i h. omega (arith, c.type_inv.g i)) in
    let a = Written-terms (product_of f q) (take k.result k.new.keys) c.args.out.now w.new.out w.result
    (product_masks f q _ below_f below_g k.ensures.numbers) (w.ensures.size, w.ensures.masks) in
    record { size = a.0; product = a.1 }
