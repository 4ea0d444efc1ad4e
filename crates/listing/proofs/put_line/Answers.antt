-- `put_line` meets its contract: its parts one behind the other.
use mathlib.Core.Path.{ap}
use mir.Facts.{to_z-of_z}
use Rattle.listing.specs.Listing.{line_text, weight_text}
use Rattle.listing.proofs.Chains.{wrote_as, wrote_then}
use Rattle.listing.proofs.put_line.Goals as goal

pub returns : goal.returns
unfolding line_text
returns c =
    wrote_then (wrote_then (wrote_then (wrote_as _ (ap weight_text (to_z-of_z c.ranges.weight)) c.put_weight.ensures) c.put_bytes.ensures) c.put_terms.ensures) c.put_byte.ensures
