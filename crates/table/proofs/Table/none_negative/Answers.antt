use mathlib.Core.Path.{◌≡◌, refl, sym, ap, ◌∙◌}
use mathlib.Core.Bool.{Bool, not, ◌&&◌}
use mathlib.Core.List.{List}
use Prim.Native.Nat.{◌^◌, ◌<◌}
use native.Mathlib.Omega.{arith}
use borrow.Author.Rules.{rules}
use lib.Bits.{bit_or}
use lib.Dec.{ltb}
use lib.IntN.{ℤ, pos}
use lib.ListN.{length, get_or, take, length-map}
use lib.Seq.{get_or-take}
use mir.Syntax.{w64}
use mir.Val.{of_z, to_z, SFits}
use Rattle.std.proofs.Common.{Fits}
use Rattle.std.proofs.Math.Facts.{of_z-to_z, Fits-or, Fits-of_z}
use Rattle.configuration.specs.Weight.{is_negative, none_negative}
use Rattle.configuration.specs.Configuration.{Line, any_negative}
use Rattle.configuration.proofs.Tests.{one_joined, all_joined}
use Rattle.configuration.proofs.Weights.{joined_below, sign_bit, sign_is}
use Rattle.table.specs.Rows.{row_of, table_at}
use Rattle.table.specs.RowsLaws.{map_at, lines_long, row_below}
use Rattle.table.proofs.Weights.{weights_at, weights_sign}
use Rattle.table.proofs.Table.none_negative.Given.{Over}
use Rattle.table.proofs.Table.none_negative.Goals as goal
use Rattle.table.proofs.Table.none_negative.Goals.{After-self}

-- the test that each weight must pass
abbrev non_negative : ℤ → Bool
non_negative w = not (is_negative w)

-- the weights of the lines
abbrev all : {g : Over} → goal.After-self g → List ℤ
all c = weights_at c.self.inside.weights (take c.self.inside.lines c.self.inside.order)

many : (g : Over) (c : goal.After-self g) → length (all c) ≡ c.self.inside.lines
many g c = length-map (take c.self.inside.lines c.self.inside.order) (λ e. get_or c.self.inside.weights (row_of e) (pos 0)) ∙ lines_long c.self.invariant.fits

pub bounds-self-inside-entry : goal.bounds-self-inside-entry
bounds-self-inside-entry g c =
    let q = c.self.invariant.fits in
    let h : c.loop-entry.entry-index < c.self.inside.lines = omega (arith, c.loop-entry-test.true, lines_long q) in
    rw (get_or-take c.self.inside.lines c.self.inside.order c.loop-entry.entry-index 0 h) (row_below q c.loop-entry.entry-index (omega (arith, q.room)))

pub loop-entry-preserved : goal.loop-entry-preserved
unfolding none_negative
loop-entry-preserved g c =
    let l = c.loop-entry in
    let x = (goal.at.loop-entry-preserved g c).After-self in
    let i = l.entry-index in
    let E = take c.self.inside.lines c.self.inside.order in
    let w = get_or c.self.inside.weights (row_of (get_or E i 0)) (pos 0) in
    let h : i < length E = omega (arith, c.loop-entry-test.true) in
    let e : w ≡ get_or (all x) i (pos 0) = sym (map_at (λ e. get_or c.self.inside.weights (row_of e) (pos 0)) i E 0 (pos 0) h) in
    let same : of_z w64 (to_z w64 l.bits-bits) ≡ l.bits-bits = of_z-to_z {w = w64} {n = l.bits-bits} (search rules) in
    let held : Fits w64 l.bits-bits = search rules in
    let more : SFits w64 w = search rules in
    let fits : Fits w64 (bit_or l.bits-bits (of_z w64 w)) = Fits-or held (Fits-of_z more) in
    rw of_z-to_z (one_joined non_negative none_negative refl (λ x k. refl) (all x) i (pos 0) (ltb l.bits-bits (2 ^ 63)) (rw same at l.invariant) _
    (joined_below 63 l.bits-bits (of_z w64 w) ∙ ap (λ (t : Bool). ltb l.bits-bits (2 ^ 63) && t) (sign_is w more.sfits ∙ ap non_negative e))
    (omega (arith, h, many g x, lines_long c.self.invariant.fits)))

pub returns : goal.returns
unfolding none_negative
returns g c =
    let l = c.loop-entry in
    let t = c.self.inside in
    let x = (goal.at.returns g c).After-self in
    let E = take t.lines t.order in
    let same : of_z w64 (to_z w64 l.bits-bits) ≡ l.bits-bits = of_z-to_z {w = w64} {n = l.bits-bits} (search rules) in
    ap not c.is_negative.ensures ∙ sign_bit l.bits-bits
    ∙ all_joined non_negative none_negative refl (λ x k. refl) (all x) l.entry-index (pos 0) (ltb l.bits-bits (2 ^ 63)) (rw same at l.invariant)
    (omega (arith, c.loop-entry-test.false, many g x, lines_long c.self.invariant.fits))
    ∙ weights_sign (table_at t.lines t.order t.terms t.weights t.counts) E ∙ ap (λ (L : List Line). not (any_negative L)) c.self.view_is
