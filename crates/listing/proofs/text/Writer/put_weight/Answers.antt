-- `put_weight` meets its contract: the sign, and the size behind it.
use mathlib.Core.Path.{◌≡◌, refl, sym, ap, ◌∙◌}
use mathlib.Core.List.{[]}
use native.Mathlib.Omega.{arith}
use lib.IntN.{nat_abs}
use mir.Facts.{to_z-of_z}
use mir.Syntax.{w64}
use mir.Val.{to_z, of_z}
use Rattle.listing.specs.Listing.{decimal}
use Rattle.listing.specs.Writer.{Wrote}
use Rattle.listing.proofs.Chains.{wrote_as, wrote_none, wrote_then}
use Rattle.listing.proofs.Decimals.{sign, sign_of, no_sign, weight_parts}
use Rattle.listing.proofs.text.Writer.put_weight.Goals as goal
use Rattle.listing.proofs.text.Writer.put_weight.Goals.{Joined-weight-lt0, then-weight-lt0, else-weight-lt0}

signed : (c : goal.Joined-weight-lt0) → Wrote c.args.self.now c.if-weight-lt0.self (sign c.args.weight)
signed c =
    let back : to_z w64 (of_z w64 c.args.weight) ≡ c.args.weight = to_z-of_z c.ranges.weight in
    elim c.if-weight-lt0.branch [
      | then-weight-lt0 w ↦ rw w.self-is (wrote_as _ (sym (sign_of c.args.weight (rw back at w.if-weight-lt0.true))) w.put_byte.ensures)
      | else-weight-lt0 w ↦ rw (w.self-is, no_sign c.args.weight (rw back at w.if-weight-lt0.false)) (wrote_none [] refl (omega arith))
    ]

pub returns : goal.returns
returns c =
    let size : c.unsigned_abs.result ≡ nat_abs c.args.weight = c.unsigned_abs.ensures.value ∙ ap nat_abs (to_z-of_z c.ranges.weight) in
    wrote_as _ (sym (weight_parts c.args.weight))
    (wrote_then (signed (goal.at.returns c).Joined-weight-lt0) (wrote_as (decimal (nat_abs c.args.weight)) (ap decimal size) c.put_decimal.ensures))
