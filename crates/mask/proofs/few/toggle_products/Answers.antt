-- The indices stand in front of their areas.
use Rattle.mask.specs.Few.{index_of}
use lib.ListN.{length}
use Rattle.std.proofs.lemmas.List.{take-replicate}
use Rattle.mask.proofs.FewSteps.{front_is, unions_fit}
use Rattle.mask.proofs.few.toggle_products.Goals as goal

pub indices-requires : goal.indices-requires
indices-requires c = (c.requires.2, take-replicate (length c.args.f.now) 64 0 c.requires.0)

pub indices-requires-2 : goal.indices-requires-2
indices-requires-2 c = (c.requires.2, take-replicate (length c.args.g.now) 64 0 c.requires.1)

pub toggle_pairs-requires : goal.toggle_pairs-requires
toggle_pairs-requires c =
    let m = c.args.mask in
    let f = c.args.f.now in
    let g = c.args.g.now in
    let i = c.indices in
    let j = c.indices-2 in
    unions_fit m (length c.args.table.now) f g _ _ c.ranges.mask.fits c.requires.3
    (front_is (index_of 32 m) f i.new.out _ i.ensures) (front_is (index_of 32 m) g j.new.out _ j.ensures)
