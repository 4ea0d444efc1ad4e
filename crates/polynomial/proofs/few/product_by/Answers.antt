-- `product_by` meets its contract: the subsets written are different and apart from the common variables, and joined to these their sum is the product.
use Rattle.std.proofs.Common.{ℕ}
use Rattle.std.proofs.Math.ListN.{length-replicate}
use Rattle.mask.specs.FewLaws.{odd_run}
use Rattle.polynomial.proofs.few.product_by.Goals as goal

pub arranged-requires : goal.arranged-requires
arranged-requires g c =
    let k = odd_run c.args.fixed c.args.mask g.row.PLACES c.args.f.now c.args.g.now c.requires.2 c.requires.3 _ (rw (length-replicate {A = ℕ} g.row.PLACES 0) at c.odd_subsets-count.ensures.masks) in
    (k.0, k.1, c.requires.7)
