-- `copy_of` meets its contract: behind the text stand the zeros of the area that it is copied to.
use Rattle.listing.proofs.Texts.{area_long, area_padded}
use Rattle.listing.proofs.text.Text.copy_of.Goals as goal

pub invariant_of-result : goal.invariant_of-result
invariant_of-result g c =
    let text = c.args.text.now in
    rw c.copy_from_slice.ensures.after (c.requires, area_long g.row.N text c.requires, area_padded g.row.N text c.requires)
