-- `put_hard_line` meets its contract: its word and number one behind the other.
use mathlib.Core.Path.{◌≡◌, sym}
use native.Mathlib.Omega.{arith}
use Rattle.listing.proofs.Chains.{wrote_as, wrote_then}
use Rattle.listing.proofs.Names.{line_of_some}
use Rattle.listing.proofs.put_hard_line.Goals as goal

pub returns : goal.returns
returns c =
    wrote_as _ (sym (line_of_some c.args.hard_count (λ (e : c.args.hard_count ≡ 0). omega arith))) (wrote_then (wrote_then c.put_bytes.ensures c.put_decimal.ensures) c.put_byte.ensures)
