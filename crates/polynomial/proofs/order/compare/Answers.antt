use Rattle.std.proofs.Common.{ℕ, drop, sym, ap, ◌∙◌}
use Rattle.std.proofs.lemmas.Slice.Zip.{zip_end}
use Rattle.polynomial.specs.Polynomial.{order_of}
use Rattle.polynomial.proofs.OrderSteps.{ended}
use Rattle.polynomial.proofs.order.compare.Goals as goal

pub returns : goal.returns
returns c =
    let l = c.loop-a in
    let f = c.args.f.now in
    let g = c.args.g.now in
    let e = zip_end f g l.yielded c.into_iter-a-iterator.result l.a-iterator c.next.new.self c.next.result (cc) (cc) l.yielded_by c.in-None.is c.next.ensures.steps in
    c.cmp.ensures ∙ sym (ended f g) ∙ ap (λ (k : ℕ). order_of (drop k f) (drop k g)) (sym e) ∙ l.invariant
