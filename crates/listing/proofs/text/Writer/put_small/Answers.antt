-- `put_small` meets its contract: its two digits one behind the other.
use mathlib.Core.Path.{sym}
use native.Mathlib.Omega.{arith}
use Rattle.listing.proofs.Chains.{wrote_as, wrote_then}
use Rattle.listing.proofs.Decimals.{two_digits}
use Rattle.listing.proofs.text.Writer.put_small.Goals as goal

pub returns : goal.returns
returns c = wrote_as _ (sym (two_digits c.args.n (omega arith) c.requires.digits)) (wrote_then c.put_byte-2.ensures c.put_byte-3.ensures)
