-- `put_listing` meets its contract.
use mathlib.Core.Path.{◌≡◌}
use Prim.Native.Nat.{ℕ, ◌+◌}
use native.Mathlib.Omega.{arith}
use lib.ListN.{length}
use Rattle.listing.specs.ListingLaws.{listing_short}
use Rattle.listing.proofs.Chains.{all_left, left_as, left_none, left_then}
use Rattle.listing.proofs.Listings.{texts_step, texts_over, all_texts}
use Rattle.listing.proofs.put_listing.Goals as goal

pub loop-number-init : goal.loop-number-init
loop-number-init c =
    let a = c.args in
    let h = c.len.ensures in
    let l = c.len-2.ensures in
    let last : ℕ = c.len.result + c.len-2.result in
    let k : last ≡ length a.hard.now + length a.lines.now = omega (arith, h.number, l.lines) in
    record {
      room = omega arith;
      left = all_left _ (all_texts last a.variables a.hard.now a.lines.now k)
          (omega (arith, c.requires, listing_short a.variables a.hard.now a.lines.now h.short (omega (arith, h.number, h.few)) l.short (omega (arith, l.lines, l.few))));
    }

pub loop-number-preserved : goal.loop-number-preserved
loop-number-preserved c =
    let a = c.args in
    let i = c.loop-number in
    record {
      room = omega (arith, c.put_text.ensures.room, i.invariant.room);
      left = left_then _ _ (left_as _ (texts_step (c.len.result + c.len-2.result) i.number a.variables a.hard.now a.lines.now c.loop-number-test.true) i.invariant.left) c.put_text.ensures.text;
    }

pub returns-2-clause-text : goal.returns-2-clause-text
returns-2-clause-text c =
    let a = c.args in
    let i = c.loop-number in
    let last : ℕ = c.len.result + c.len-2.result in
    left_none _ (texts_over last (i.number + 1) a.variables a.hard.now a.lines.now (omega arith))
    (left_then _ _ (left_as _ (texts_step last i.number a.variables a.hard.now a.lines.now c.loop-number-test.true) i.invariant.left) c.put_text.ensures.text)
