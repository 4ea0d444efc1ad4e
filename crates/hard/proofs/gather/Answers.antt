-- `gather` meets its contract: the number, then the counts, then the places.
use Rattle.hard.proofs.Fills.{gathered}
use Rattle.hard.proofs.gather.Goals as goal

pub returns : goal.returns
returns c =
    let a = c.args in
    rw (c.copy_from_slice-2.ensures.after, c.copy_from_slice.ensures.after) (gathered a.counts.now a.places.now a.number c.requires.0 a.hard.now c.requires.2)
