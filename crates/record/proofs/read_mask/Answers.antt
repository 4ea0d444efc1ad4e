-- `record::read_mask` meets its contract: the chunk at the front of the rest is the mask's bytes. Assumes nothing.
use Rattle.record.proofs.Numbers.{mask_read}
use Rattle.record.proofs.read_mask.Goals as goal

pub returns : goal.returns
returns c =
    let inside = c.in_ok-get.ensures.lookup.0 in
    mask_read _ _ _ _ _ inside.0 inside.2 c.in_ok-mask.ensures.cases c.from_le_bytes.ensures
