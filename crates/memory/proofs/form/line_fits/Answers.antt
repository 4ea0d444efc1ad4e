-- Each test is one of those that the definition joins.
use Rattle.std.proofs.Common.{◌≡◌, sym, ap, ◌∙◌, Bool, ◌&&◌, w64}
use Rattle.std.proofs.lemmas.Int.{to_z-of_z}
use Rattle.configuration.specs.Weight.{in_range}
use Rattle.configuration.specs.Configuration.{line, line_fits}
use Rattle.configuration.proofs.Weights.{is_zero_lem, not_zero}
use Rattle.memory.proofs.Forms.{and-false, and-true, without_terms, without_weight, the_polynomial}
use Rattle.memory.proofs.form.line_fits.Goals as goal
use Rattle.memory.proofs.form.line_fits.Goals.{After-within_limit}

pub returns-then-terms : goal.returns-then-terms
returns-then-terms c = let a = c.args in ap (λ (b : Bool). b && in_range a.weight) (without_terms a.variables a.terms.now a.weight c.if-terms.true)

pub returns-then-weight-eq0 : goal.returns-then-weight-eq0
returns-then-weight-eq0 c =
    let a = c.args in
    ap (λ (b : Bool). b && in_range a.weight) (without_weight a.variables a.terms.now a.weight (is_zero_lem a.weight c.ranges.weight.sfits c.if-weight-eq0.true))

-- what is answered is the range of the weight
ranged : (c : goal.After-within_limit) → c.within_limit.result ≡ in_range c.args.weight
ranged c = c.within_limit.ensures ∙ ap in_range (to_z-of_z w64 _ c.ranges.weight)

pub returns-then-not-within_limit : goal.returns-then-not-within_limit
returns-then-not-within_limit c =
    let a = c.args in
    sym (and-false (line_fits a.variables (line a.terms.now a.weight)) (in_range a.weight)
    (sym (ranged (goal.at.returns-then-not-within_limit c).After-within_limit) ∙ c.if-not-within_limit.true))

pub returns : goal.returns
returns c =
    let a = c.args in
    c.is_polynomial.ensures
    ∙ the_polynomial a.variables a.terms.now a.weight c.if-terms.false (not_zero a.weight c.if-weight-eq0.false)
    ∙ sym (and-true (line_fits a.variables (line a.terms.now a.weight)) (in_range a.weight)
    (sym (ranged (goal.at.returns c).After-within_limit) ∙ c.if-not-within_limit.false))
