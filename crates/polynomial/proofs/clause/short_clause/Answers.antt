-- `short_clause` meets its contract: its terms are the subsets of the plain literals, each with all the negated ones.
use mathlib.Core.Path.{◌≡◌, sym}
use Prim.Native.Nat.{◌≤◌}
use native.Mathlib.Omega.{arith}
use lib.ListN.{length, take}
use lib.Pow.{pow_mono}
use lib.Seq.{length-take-le}
use Rattle.term.specs.Term.{degree_of}
use Rattle.mask.specs.SubsetLaws.{length_subsets_le}
use Rattle.polynomial.specs.Polynomial.{clause_of}
use Rattle.polynomial.proofs.Keys.{clause_masks, outcome_short}
use Rattle.polynomial.proofs.clause.short_clause.Goals as goal
use Rattle.polynomial.proofs.clause.short_clause.Goals.{After-masks-2-1, After-spare-2-1, After-subsets-n}

pub subsets-n-requires : goal.subsets-n-requires
subsets-n-requires c = pow_mono {i = degree_of c.args.plain} {j = 6} c.requires

-- there are at most 64 subsets, and as many places
few : (c : goal.After-subsets-n) → (c.subsets-n.result ≤ 64) × (length c.subsets-n.new.out ≡ 64)
few c =
    (omega (arith, c.subsets-n.ensures.count, length_subsets_le 32 c.args.plain, pow_mono {i = degree_of c.args.plain} {j = 6} c.requires), c.subsets-n.auto.out)

pub slice_bounds-masks-end : goal.slice_bounds-masks-end
slice_bounds-masks-end c = omega (arith, few (goal.at.slice_bounds-masks-end c).After-subsets-n)

pub slice_bounds-ordered_keys-end : goal.slice_bounds-ordered_keys-end
slice_bounds-ordered_keys-end c = sym (length-take-le _ _ (slice_bounds-masks-end (goal.at.slice_bounds-ordered_keys-end c).After-masks-2-1))

pub ordered_keys-m-requires : goal.ordered_keys-m-requires
ordered_keys-m-requires c =
    let r = c.subsets-n in
    let long = length-take-le r.result r.new.out (slice_bounds-masks-end (goal.at.ordered_keys-m-requires c).After-masks-2-1) in
    (omega (arith, long, few (goal.at.ordered_keys-m-requires c).After-subsets-n), omega (arith, long, few (goal.at.ordered_keys-m-requires c).After-subsets-n))

pub slice_bounds-keys-end : goal.slice_bounds-keys-end
slice_bounds-keys-end c =
    let r = c.subsets-n in
    let d = c.ordered_keys-m in
    omega (arith, d.ensures.size, d.auto.keys, few (goal.at.slice_bounds-keys-end c).After-subsets-n, length-take-le r.result r.new.out (slice_bounds-masks-end (goal.at.slice_bounds-keys-end c).After-masks-2-1))

pub slice_bounds-write_masks-end : goal.slice_bounds-write_masks-end
slice_bounds-write_masks-end c = sym (length-take-le _ _ (slice_bounds-keys-end (goal.at.slice_bounds-write_masks-end c).After-spare-2-1))

pub returns : goal.returns
returns c =
    let p = c.args.plain in
    let n = c.args.negated in
    let w = c.write_masks-count in
    let k = c.ordered_keys-m in
    let long = length-take-le k.result k.new.keys (slice_bounds-keys-end (goal.at.returns c).After-spare-2-1) in
    outcome_short (clause_of p n) (take k.result k.new.keys) w.new.out w.result
    (clause_masks p n _ _ c.ranges.plain.fits c.ranges.negated.fits c.subsets-n.ensures.masks k.ensures.numbers)
    (w.ensures.size, w.ensures.masks) (omega (arith, w.ensures.size, slice_bounds-keys-end (goal.at.returns c).After-spare-2-1, k.auto.keys))
