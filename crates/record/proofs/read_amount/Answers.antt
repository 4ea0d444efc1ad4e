-- `record::read_amount` meets its contract: the chunk at the front of the rest is the amount's bytes. Assumes nothing.
use mathlib.Core.Path.{ap, ◌∙◌}
use Rattle.std.proofs.Common.{Some}
use mir.Syntax.{w64}
use mir.Facts.{to_z-of_z}
use borrow.Author.Rules.{rules}
use Rattle.record.proofs.Numbers.{amount_read}
use Rattle.record.proofs.read_amount.Goals as goal

pub returns : goal.returns
returns c =
    let inside = c.in_ok-get.ensures.lookup.0 in
    ap Some (to_z-of_z {w = w64} {z = c.from_le_bytes.result} (record { sfits = search rules }))
    ∙ amount_read _ _ _ _ _ inside.0 inside.2 c.in_ok-amount.ensures.cases c.from_le_bytes.ensures
