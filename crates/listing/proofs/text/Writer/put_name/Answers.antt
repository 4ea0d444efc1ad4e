-- `put_name` meets its contract.
use mathlib.Core.Path.{refl, sym}
use mathlib.Core.List.{[]}
use native.Mathlib.Omega.{arith}
use Rattle.listing.specs.Writer.{Wrote}
use Rattle.listing.specs.Writing.{starred}
use Rattle.listing.proofs.Chains.{wrote_as, wrote_none, wrote_then}
use Rattle.listing.proofs.Names.{starred_parts}
use Rattle.listing.proofs.text.Writer.put_name.Goals as goal
use Rattle.listing.proofs.text.Writer.put_name.Goals.{Joined-not-first, then-not-first, else-not-first}

parted : (c : goal.Joined-not-first) → Wrote c.args.self.now c.if-not-first.self (starred c.args.first [])
parted c =
    elim c.if-not-first.branch [
      | then-not-first w ↦ rw (w.self-is, w.if-not-first.true) w.put_byte.ensures
      | else-not-first w ↦ rw (w.self-is, w.if-not-first.false) (wrote_none [] refl (omega arith))
    ]

pub returns : goal.returns
returns c =
    wrote_as _ (sym (starred_parts c.args.first _)) (wrote_then (parted (goal.at.returns c).Joined-not-first) (wrote_then c.put_byte-2.ensures c.put_small.ensures))
