-- `put_decimal` meets its contract: the digits in front of the last one, and the last one.
use mathlib.Core.Path.{sym}
use native.Mathlib.Omega.{arith}
use Rattle.listing.proofs.Chains.{wrote_as, wrote_then}
use Rattle.listing.proofs.Decimals.{last_digit}
use Rattle.listing.proofs.text.Writer.+put_decimal.Goals as goal

pub returns : goal.returns
returns t c = wrote_as _ (sym (last_digit c.args.n (omega arith) c.ranges.n.fits)) (wrote_then c.put_decimal.ensures c.put_byte.ensures)
