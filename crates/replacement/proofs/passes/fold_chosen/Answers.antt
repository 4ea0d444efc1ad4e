use mathlib.Core.Path.{◌≡◌}
use mathlib.Core.Bool.{true, beq}
use Prim.Native.Nat.{◌+◌, ◌-◌, ◌^◌, ◌≤◌, ◌<◌}
use native.Mathlib.Omega.{arith}
use Rattle.std.proofs.Common.{rules}
use lib.ListN.{length, get_or}
use lib.Signed.{mag}
use Rattle.configuration.specs.Weight.{is_zero}
use Rattle.configuration.specs.Configuration.{place_of}
use Rattle.configuration.proofs.Weights.{read_back}
use Rattle.table.specs.Table.{terms_at}
use Rattle.replacement.proofs.Weighings.{unknown}
use Rattle.replacement.proofs.Foldings.{Folding-first, Folding-last, Folding-skip, Folding-more, folding_place, folding_weight, folding_fits, folding_room}
use Rattle.replacement.proofs.passes.fold_chosen.Goals as goal
use Rattle.replacement.proofs.passes.fold_chosen.Goals.{In-loop-i, After-len, then-vanishes-vanishing, else-vanishes-vanishing}

pub loop-i-init : goal.loop-i-init
loop-i-init c = Folding-first c.args.vanishing c.args.weighed.now c.args.changes.now c.args.table.now c.len-i-end.ensures.ordered c.requires.1 c.requires.2

-- the change is there, and what is known of it
inside : (c : goal.In-loop-i) → (c.loop-i.i < length c.args.weighed.now) × (c.loop-i.i < length c.args.changes.now)
inside c = (omega (arith, c.requires.0), omega arith)

is_chosen : (c : goal.After-len) → beq (is_zero (get_or c.args.weighed.now c.loop-i.i unknown).after) c.args.vanishing ≡ true
is_chosen c = rw c.vanishes.ensures at c.if-vanishes-vanishing.true

place : (c : goal.After-len) → (let k = get_or c.args.weighed.now c.loop-i.i unknown in
    (c.len-lines.result ≤ k.at + c.len.result) × (k.at + c.len.result - c.len-lines.result ≡ place_of (terms_at c.args.changes.now c.loop-i.i) c.loop-i.table)
    × (k.at + c.len.result ≤ length c.loop-i.table + length c.args.table.now))
place c =
    let i = inside (goal.at.After-len c).In-loop-i in
    folding_place c.loop-i.i c.args.weighed.now c.args.changes.now c.loop-i.invariant i.0 i.1 (is_chosen c) c.len.result c.len-lines.result c.len.ensures.lines c.len-lines.ensures.lines

pub overflow_add-known : goal.overflow_add-known
overflow_add-known c = omega (arith, place (goal.at.overflow_add-known c).After-len)

pub overflow_sub-known : goal.overflow_sub-known
overflow_sub-known c = (place (goal.at.overflow_sub-known c).After-len).0

pub add_at-requires : goal.add_at-requires
add_at-requires c =
    let k = get_or c.args.weighed.now c.loop-i.i unknown in
    let i = inside (goal.at.add_at-requires c).In-loop-i in
    let y = is_chosen (goal.at.add_at-requires c).After-len in
    let g = c.loop-i.invariant in
    let h : mag k.before < 2 ^ 63 = search rules in
    rw (read_back c.weight.result c.weight.type_inv, read_back k.before h, c.weight.ensures, c.terms.ensures.line) (
      omega arith,
      (
        (place (goal.at.add_at-requires c).After-len).1,
        (
          folding_weight c.loop-i.i c.args.weighed.now c.args.changes.now g i.0 i.1 y,
          (
            rw c.terms.ensures.line at c.terms.ensures.some,
            (
              rw c.terms.ensures.line at c.terms.ensures.short,
              (
                c.key.ensures,
                (
                  folding_fits c.loop-i.i c.args.weighed.now c.args.changes.now g i.0 i.1 y,
                  (
                      folding_room c.loop-i.i c.args.weighed.now c.args.changes.now g i.0 i.1 y),
                ),
              ),
            ),
          ),
        ),
      ),
    )

pub loop-i-preserved : goal.loop-i-preserved
loop-i-preserved c =
    let i = inside (goal.at.loop-i-preserved c).In-loop-i in
    elim c.if-vanishes-vanishing.branch [
      | then-vanishes-vanishing w ↦ rw (w.table-is, w.add_at.ensures, read_back w.weight.result w.weight.type_inv, w.weight.ensures, w.terms.ensures.line)
          (Folding-more c.loop-i.i c.args.weighed.now c.args.changes.now c.loop-i.invariant i.0 i.1 (rw c.vanishes.ensures at w.if-vanishes-vanishing.true) w.len.ensures.ordered)
      | else-vanishes-vanishing w ↦ rw w.table-is
          (Folding-skip c.loop-i.i c.args.weighed.now c.args.changes.now c.loop-i.invariant i.0 i.1 (rw c.vanishes.ensures at w.if-vanishes-vanishing.false))
    ]

pub returns : goal.returns
returns c = Folding-last c.loop-i.i c.args.weighed.now c.args.changes.now (omega (arith, c.requires.0)) c.loop-i.invariant
