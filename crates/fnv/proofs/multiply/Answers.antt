-- `fnv::multiply` meets its contract: the product by halves is the law `by_halves` at a half width of 32. Assumes nothing.
use Rattle.fnv.specs.Halves.{product_by_halves}
use Rattle.fnv.proofs.Halves.{by_halves}
use Rattle.fnv.proofs.multiply.Goals as goal

pub returns-clause-halves : goal.returns-clause-halves
unfolding product_by_halves
returns-clause-halves c = by_halves 32 c.args.a c.args.b
