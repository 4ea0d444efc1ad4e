-- `put_confirmation` meets its contract: its words and numbers one behind the other.
use mathlib.Core.Path.{ap}
use borrow.Author.Rules.{rules}
use Rattle.std.proofs.Common.{w64}
use mir.Facts.{to_z-of_z}
use Rattle.listing.specs.Listing.{weight_text}
use Rattle.listing.proofs.Chains.{wrote_as, wrote_then}
use Rattle.report.specs.Report.{confirmed_text}
use Rattle.report.proofs.put_confirmation.Goals as goal

pub returns : goal.returns
unfolding confirmed_text
returns c =
    wrote_then (wrote_then (wrote_then (wrote_then c.put_bytes.ensures (wrote_as _ (ap weight_text (to_z-of_z {w = w64} (search rules))) c.put_weight.ensures)) c.put_bytes-2.ensures) c.put_decimal.ensures)
    c.put_byte.ensures
