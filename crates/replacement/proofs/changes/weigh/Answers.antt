use mathlib.Core.Path.{ap, ◌∙◌}
use mathlib.Core.List.{List}
use Prim.Native.Nat.{ℕ, ◌<◌}
use native.Mathlib.Omega.{arith}
use lib.ListN.{length, length-set}
use Rattle.configuration.specs.Configuration.{weight, place_of}
use Rattle.table.specs.Table.{terms_at, weight_at}
use Rattle.replacement.proofs.Weighings.{small_at, held_is, sum_fits, sum_is, weighed_more}
use Rattle.replacement.proofs.changes.weigh.Goals as goal

pub overflow_add-weighed : goal.overflow_add-weighed
overflow_add-weighed c =
    let N = c.args.changes.now in
    let L = c.args.table.now in
    let i = c.loop-i.i in
    let h : i < length N = omega arith in
    sum_fits L (terms_at N i) (weight_at N i) c.requires.0 c.requires.1 (small_at 45 N i c.requires.2 h) _ _
    (c.look_up-known.ensures.weight ∙ ap (weight L) c.terms.ensures.line) c.weight.ensures

pub loop-i-preserved : goal.loop-i-preserved
loop-i-preserved c =
    let N = c.args.changes.now in
    let L = c.args.table.now in
    let i = c.loop-i.i in
    let h : i < length N = omega arith in
    let s = small_at 45 N i c.requires.2 h in
    let x = c.look_up-known.ensures.weight ∙ ap (weight L) c.terms.ensures.line in (
      simp length-set c.loop-i.invariant.0,
      weighed_more N L i c.loop-i.weighed _ _ _ h (omega arith) (c.look_up-known.ensures.at ∙ ap (λ (f : List ℕ). place_of f L) c.terms.ensures.line)
          (held_is L (terms_at N i) (weight_at N i) c.requires.0 c.requires.1 s _ _ x c.weight.ensures)
          (sum_is L (terms_at N i) (weight_at N i) c.requires.0 c.requires.1 s _ _ x c.weight.ensures) c.loop-i.invariant.1,
    )
