-- `is_there` meets its contract: a rule asks for its amount once, or twice where SUM's operands are the same polynomial.
use mathlib.Core.Path.{◌≡◌, sym, ap, ◌∙◌}
use mathlib.Core.Bool.{Bool, ◌&&◌}
use lib.IntN.{◌+ℤ◌}
use mir.Facts.{to_z-of_z}
use Rattle.std.proofs.Common.{rules}
use Rattle.calculus.specs.Calculus.{premises, there}
use Rattle.calculus.specs.declared.Rule.{Rule}
use Rattle.step.proofs.Amounts.{doubled_is}
use Rattle.step.proofs.Asked.{enough, asked_twice, asked_each}
use Rattle.step.proofs.is_there.Goals as goal
use Rattle.step.proofs.is_there.Goals.{After-is_held-in-Sum-2, Start}

by_rule : (s : goal.Start) → {r : Rule} → s.args.rule ≡ r → (let a = s.args in there a.table.now (premises r a.f.now a.g.now a.amount) ≡ there a.table.now (premises a.rule a.f.now a.g.now a.amount))
by_rule s e = let a = s.args in ap (λ (r : Rule). there a.table.now (premises r a.f.now a.g.now a.amount)) (sym e)

pub returns-in-Sum : goal.returns-in-Sum
returns-in-Sum c =
    let a = c.args in
    let h : a.f.now ≡ a.g.now = search rules in
    let e : c.is_held.result ≡ enough a.table.now a.f.now (a.amount +ℤ a.amount) =
    c.is_held.ensures ∙ ap (enough a.table.now a.f.now) (doubled_is a.amount c.requires _ (to_z-of_z c.ranges.amount)) in
    e ∙ asked_twice a.table.now a.f.now a.g.now a.amount h ∙ by_rule (goal.at.returns-in-Sum c).Start c.in-Sum.is

-- of two polynomials that differ, each is asked for once
each : (c : goal.After-is_held-in-Sum-2) → (let a = c.args in
    (c.is_held-in-Sum-2.result ≡ enough a.table.now a.f.now a.amount)
    × ((enough a.table.now a.f.now a.amount && enough a.table.now a.g.now a.amount) ≡ there a.table.now (premises a.rule a.f.now a.g.now a.amount)))
each c =
    let a = c.args in
    let n : a.f.now ≡ a.g.now → ⊥ = search rules in
    (rw (to_z-of_z c.ranges.amount) at c.is_held-in-Sum-2.ensures, asked_each a.table.now a.f.now a.g.now a.amount n ∙ by_rule (goal.at.After-is_held-in-Sum-2 c).Start c.in-Sum-2.is)

pub returns-then-is_held : goal.returns-then-is_held
returns-then-is_held c =
    let a = c.args in
    let k = each (goal.at.returns-then-is_held c).After-is_held-in-Sum-2 in
    let d : c.is_held-then-is_held.result ≡ enough a.table.now a.g.now a.amount = rw (to_z-of_z c.ranges.amount) at c.is_held-then-is_held.ensures in
    d ∙ ap (λ (b : Bool). b && enough a.table.now a.g.now a.amount) (sym c.if-is_held.true ∙ k.0) ∙ k.1

pub returns-else-is_held : goal.returns-else-is_held
returns-else-is_held c =
    let a = c.args in
    let k = each (goal.at.returns-else-is_held c).After-is_held-in-Sum-2 in
    c.if-is_held.false ∙ ap (λ (b : Bool). b && enough a.table.now a.g.now a.amount) (sym c.if-is_held.false ∙ k.0) ∙ k.1
