-- `record::read_byte` meets its contract: what `get` finds at the place is the body of one byte. Assumes nothing.
use mathlib.Core.Path.{◌∙◌}
use Rattle.record.proofs.Numbers.{byte_read}
use Rattle.record.proofs.read_byte.Goals as goal

pub returns : goal.returns
returns c = c.copied.ensures ∙ byte_read _ _ _ c.get.ensures.lookup
