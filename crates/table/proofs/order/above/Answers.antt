-- `above` meets its contract: the sum is 2^63 or more just where the entry's key is the larger.
use native.Mathlib.Omega.{arith}
use Rattle.table.proofs.order.above.Goals as goal

pub returns : goal.returns
returns c = (λ h. omega (arith, h, c.requires, c.ranges.entry), λ h. omega (arith, h, c.requires, c.ranges.entry))
