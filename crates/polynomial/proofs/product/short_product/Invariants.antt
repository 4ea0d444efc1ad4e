-- `short_product` meets its contract. The invariant: the product of the terms of f passed with g stands in front.
use Rattle.std.proofs.Common.{◌≡◌, ◌*◌, ◌≤◌, length, take}
use Rattle.polynomial.specs.Polynomial.{product_of}
use Rattle.polynomial.proofs.product.short_product.Given as goal

abbrev pub invariant-loop-factor : goal.invariant-loop-factor
invariant-loop-factor l = record {
  size : l.count ≤ l.factor-index * length l.g;
  product : take l.count l.out ≡ product_of (take l.factor-index l.f) l.g;
}
