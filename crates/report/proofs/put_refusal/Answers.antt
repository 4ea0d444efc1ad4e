-- `put_refusal` meets its contract: its words and numbers one behind the other.
use mathlib.Core.Path.{ap}
use Rattle.listing.specs.Listing.{decimal}
use Rattle.listing.proofs.Chains.{wrote_as, wrote_then}
use Rattle.report.specs.Report.{refusal_text}
use Rattle.report.proofs.put_refusal.Goals as goal

pub returns : goal.returns
unfolding refusal_text
returns c =
    wrote_then (wrote_then (wrote_then (wrote_then c.put_bytes.ensures (wrote_as _ (ap decimal c.number-kind.ensures) c.put_decimal.ensures)) c.put_bytes-2.ensures) c.put_decimal-2.ensures)
    c.put_byte.ensures
