-- `take_step` meets its contract.
use mathlib.Core.Path.{◌≡◌, ap, ◌∙◌}
use mathlib.Core.List.{List}
use Rattle.std.proofs.lemmas.Result.{err_from_is_err_and}
use Rattle.std.specs.declared.result.Result.TheVariants.{Ok}
use borrow.Author.Rules.{rules}
use Rattle.memory.specs.declared.Entry.{Entry}
use Rattle.refusal.proofs.MappedLaws.{mapped_ok, mapped_err}
use Rattle.checker.specs.Checker.{Lent, lent_of, Left, step_in}
use Rattle.checker.proofs.Opening.{operands_fit, memory_opened, lines_opened, weights_opened, clear_opened, misfit_left, fit_left, refused_left, taken_left}
use Rattle.checker.proofs.stepping.take_step.Goals as goal
use Rattle.checker.proofs.stepping.take_step.Goals.{Start, In_ok-hard, In_ok-map_err}

-- what is lent, with a line table
abbrev lent : goal.Start → List Entry → Lent
lent s t = let a = s.args in lent_of a.head.now a.terms.now t a.counts.now a.places.now

abbrev answer : goal.Start → List Entry → Left (Unit {0})
answer s t = let a = s.args in step_in a.asked.rule a.asked.mode a.f.now a.g.now a.asked.amount (lent s t)

same : (c : goal.In_ok-hard) → c.in_ok-entries.entries.now ≡ c.args.table.now
same c = search rules

-- the operands pass their tests
passed : (c : goal.In_ok-map_err) → c.misfit.result ≡ Ok c.in_ok-map_err.field-0
passed c = mapped_ok _ c.misfit.result c.map_err.result c.map_err.ensures.cases c.in_ok-map_err.field-0 c.in_ok-map_err.was

pub returns-in_err-map_err : goal.returns-in_err-map_err
returns-in_err-map_err c =
    let a = c.args in
    let s = (goal.at.returns-in_err-map_err c).Start in
    let p = err_from_is_err_and c.from_residual-in_err-map_err.result c.from_residual-in_err-map_err.ensures.1 in
    let q = mapped_err _ c.misfit.result c.map_err.result c.map_err.ensures.cases c.in_err-map_err.field-0.0 c.in_err-map_err.was in
    let d = c.in_err-map_err.field-0.0 in
    let told : (d.record ≡ 0) × (d.reason ≡ q.0) = search (rules, q.2) in
    rw (p.1, p.2, told.0, told.1)
    (misfit_left c.in_ok-hard.ensures a.asked.rule a.asked.mode a.f.now a.g.now a.asked.amount c.misfit.result c.misfit.ensures q.0 q.1
    ∙ ap (answer s) (same (goal.at.returns-in_err-map_err c).In_ok-hard))

pub open-requires-clause-formed : goal.open-requires-clause-formed
open-requires-clause-formed c = memory_opened c.in_ok-hard.ensures

pub step-requires : goal.step-requires
step-requires c =
    let a = c.args in
    let p = operands_fit a.head.now.variables a.f.now a.g.now c.misfit.result _ c.misfit.ensures (passed (goal.at.step-requires c).In_ok-map_err) in
    (weights_opened (lines_opened c.in_ok-hard.ensures c.open.ensures), p.0, p.1)

pub returns-in_err-map_err-2 : goal.returns-in_err-map_err-2
returns-in_err-map_err-2 c =
    let a = c.args in
    let m = a.asked in
    let s = (goal.at.returns-in_err-map_err-2 c).Start in
    let o = lines_opened c.in_ok-hard.ensures c.open.ensures in
    let p = err_from_is_err_and c.from_residual-in_err-map_err-2.result c.from_residual-in_err-map_err-2.ensures.1 in
    let q = mapped_err _ c.step.result c.map_err-2.result c.map_err-2.ensures.cases c.in_err-map_err-2.field-0.0 c.in_err-map_err-2.was in
    let d = c.in_err-map_err-2.field-0.0 in
    let told : (d.record ≡ 0) × (d.reason ≡ q.0) = search (rules, q.2) in
    rw (p.1, p.2, told.0, told.1)
    (refused_left o m.rule m.mode a.f.now a.g.now m.amount q.0 _
    (fit_left o m.rule m.mode a.f.now a.g.now m.amount c.misfit.result c.misfit.ensures _ (passed (goal.at.returns-in_err-map_err-2 c).In_ok-map_err) (rw q.1 at c.step.ensures))
    ∙ ap (answer s) (same (goal.at.returns-in_err-map_err-2 c).In_ok-hard))

pub close-requires : goal.close-requires
close-requires c = rw c.used_by-used.ensures (clear_opened c.in_ok-hard.ensures)

pub returns : goal.returns
returns c =
    let a = c.args in
    let m = a.asked in
    let s = (goal.at.returns c).Start in
    let o = lines_opened c.in_ok-hard.ensures c.open.ensures in
    rw c.len.ensures.lines
    (taken_left o m.rule m.mode a.f.now a.g.now m.amount _ _
    (fit_left o m.rule m.mode a.f.now a.g.now m.amount c.misfit.result c.misfit.ensures _ (passed (goal.at.returns c).In_ok-map_err)
    (rw (mapped_ok _ c.step.result c.map_err-2.result c.map_err-2.ensures.cases c.in_ok-map_err-2.field-0 c.in_ok-map_err-2.was) at c.step.ensures))
    (c.close.ensures a.head.now.variables a.head.now.hard)
    ∙ ap (answer s) (same (goal.at.returns c).In_ok-hard))
