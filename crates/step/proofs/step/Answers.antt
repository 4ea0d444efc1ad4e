-- `step` meets its contract: what is found against the step stands in front of its plan, and that in front of the replacement.
use mathlib.Core.Path.{◌≡◌, ◌∙◌}
use mir.Syntax.{w64}
use mir.Val.{to_z, of_z}
use Rattle.std.proofs.Common.{rules}
use Rattle.std.proofs.lemmas.Result.{err_from_is_err_and}
use Rattle.step.specs.Stepping.{HasPlan}
use Rattle.step.proofs.Tests.{Tested, amount_fits, is_named, plan_refused, IsSmall-plan, step_taken}
use Rattle.step.proofs.step.Goals as goal
use Rattle.step.proofs.step.Goals.{After-object, After-plan_of, Start}

exact : (s : goal.Start) → to_z w64 (of_z w64 s.args.asked.amount) ≡ s.args.asked.amount
exact s = search rules

tested : (c : goal.After-object) → (let a = c.args in let m = a.asked in Tested a.hard.now m.rule m.mode a.f.now a.g.now m.amount a.table.now c.object.result)
tested c = record { found = c.object.ensures }

pub plan_of-requires : goal.plan_of-requires
plan_of-requires c =
    let t = tested (goal.at.plan_of-requires c).After-object in
    (is_named t c.in_ok-object.was, c.requires.1, c.requires.2, rw (exact (goal.at.plan_of-requires c).Start) (amount_fits t c.in_ok-object.was), c.new-changes.ensures)

plan : (c : goal.After-plan_of) → (let a = c.args in HasPlan a.hard.now a.asked.rule a.f.now a.g.now a.asked.amount c.plan_of.result c.plan_of.new.changes)
plan c = rw (exact (goal.at.After-plan_of c).Start) at c.plan_of.ensures

pub returns-in_err-plan_of : goal.returns-in_err-plan_of
returns-in_err-plan_of c =
    let p = err_from_is_err_and c.from_residual-in_err-plan_of.result c.from_residual-in_err-plan_of.ensures.1 in
    let k = plan (goal.at.returns-in_err-plan_of c).After-plan_of in
    rw (p.1, p.2) (plan_refused (tested (goal.at.returns-in_err-plan_of c).After-object) c.in_ok-object.was c.plan_of.result c.plan_of.new.changes k c.in_err-plan_of.field-0.0 c.in_err-plan_of.was)

pub replace-requires : goal.replace-requires
replace-requires c =
    let k = plan (goal.at.replace-requires c).After-plan_of in
    (c.requires.0, IsSmall-plan (tested (goal.at.replace-requires c).After-object) c.in_ok-object.was c.plan_of.result c.plan_of.new.changes k c.in_ok-plan_of.field-0 c.in_ok-plan_of.was)

pub returns : goal.returns
returns c =
    let k = plan (goal.at.returns c).After-plan_of in
    c.replace.ensures
    ∙ step_taken (tested (goal.at.returns c).After-object) c.in_ok-object.was c.plan_of.result c.plan_of.new.changes k c.in_ok-plan_of.field-0 c.in_ok-plan_of.was c.len-lines.ensures.ordered
