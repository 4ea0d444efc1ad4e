-- The table that is left holds zeros and ones.
use native.Mathlib.Omega.{arith}
use lib.ListN.{length}
use Rattle.std.proofs.lemmas.List.{length-take}
use Rattle.mask.specs.SubsetLaws.{length_subsets_le}
use Rattle.mask.proofs.FewSteps.{from_zeros, table_small}
use Rattle.mask.proofs.few.odd_subsets.Goals as goal

pub choose-requires : goal.choose-requires
choose-requires c =
    let t = c.toggle_products in
    let d = c.subsets-places in (
      simp length-take (omega (arith, d.ensures.count, t.auto.table, length_subsets_le 32 c.args.mask, c.requires.4)),
      table_small (length c.args.table.now) _ t.new.table (from_zeros (length c.args.table.now) _ c.args.table.now _ c.requires.5 t.ensures),
    )
