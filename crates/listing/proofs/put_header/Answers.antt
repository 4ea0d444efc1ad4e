-- `put_header` meets its contract: its words and numbers one behind the other.
use Rattle.listing.specs.Listing.{header_text}
use Rattle.listing.proofs.Chains.{wrote_then}
use Rattle.listing.proofs.put_header.Goals as goal

pub returns : goal.returns
unfolding header_text
returns c =
    wrote_then (wrote_then (wrote_then (wrote_then (wrote_then c.put_bytes.ensures c.put_decimal.ensures) c.put_bytes-2.ensures) c.put_decimal-2.ensures) c.put_byte.ensures)
    c.put_hard_line.ensures
