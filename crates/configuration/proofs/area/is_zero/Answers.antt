use Rattle.std.proofs.Common.{Bool, ◌&&◌, eqb, get_or, take, refl, sym, ap, ◌∙◌, arith}
use Rattle.std.proofs.lemmas.List.{take_more}
use Rattle.std.proofs.lemmas.List.Recursion.{and_push}
use Rattle.configuration.specs.Area.{zeros}
use Rattle.configuration.proofs.Weights.{joined_zero}
use Rattle.configuration.proofs.area.is_zero.Goals as goal

pub loop-x-preserved : goal.loop-x-preserved
unfolding zeros
loop-x-preserved c =
    let l = c.loop-x in
    let s = c.args.area.now in
    let x = get_or s l.x-index 0 in
    joined_zero l.bits x ∙ ap (λ (b : Bool). b && eqb x 0) l.invariant ∙ sym (and_push zeros (λ x. eqb x 0) refl (λ _ _. refl) (take l.x-index s) x)
    ∙ sym (ap zeros (take_more s l.x-index 0 (omega arith)))
