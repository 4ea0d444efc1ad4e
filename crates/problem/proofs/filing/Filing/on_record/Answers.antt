-- The kind says which record it is.
use Rattle.std.proofs.Common.{ap, ◌∙◌, rules, ℕ}
use borrow.Author.Tests.{tests}
use Rattle.refusal.specs.Outcome.{after}
use Rattle.walk.specs.Walk.{Progress}
use Rattle.walk.specs.Held.{progress_at}
use Rattle.problem.specs.Problem.{State}
use Rattle.problem.specs.Held.{state_in}
use Rattle.problem.proofs.Records.{is_variables, is_term, is_weight, is_clause, is_hard, no_kind}
use Rattle.problem.proofs.filing.Filing.on_record.Goals as goal
use Rattle.problem.proofs.filing.Filing.on_record.Goals.{Start}

abbrev progress : goal.Start → ℕ → Progress State
progress s k = let a = s.args in progress_at a.at k (state_in a.self.now a.lines.now a.hard.now)

pub returns-in-86 : goal.returns-in-86
returns-in-86 c k =
    let q = progress (goal.at.returns-in-86 c).Start k in
    c.on_variables.ensures _ _ k ∙ ap (after q) (is_variables c.args.bytes.now q c.in-86.is)

pub returns-in-77 : goal.returns-in-77
returns-in-77 c k =
    let q = progress (goal.at.returns-in-77 c).Start k in
    c.on_term.ensures _ _ k ∙ ap (after q) (is_term c.args.bytes.now q c.in-77.is)

pub returns-in-87 : goal.returns-in-87
returns-in-87 c k =
    let q = progress (goal.at.returns-in-87 c).Start k in
    c.on_weight.ensures _ k ∙ ap (after q) (is_weight c.args.bytes.now q c.in-87.is)

pub returns-in-67 : goal.returns-in-67
returns-in-67 c k =
    let q = progress (goal.at.returns-in-67 c).Start k in
    c.on_clause.ensures _ k ∙ ap (after q) (is_clause c.args.bytes.now q c.in-67.is)

pub returns-in-72 : goal.returns-in-72
returns-in-72 c k =
    let q = progress (goal.at.returns-in-72 c).Start k in
    c.on_hard.ensures _ _ k ∙ ap (after q) (is_hard c.args.bytes.now q c.in-72.is)

pub returns-in_default : goal.returns-in_default
returns-in_default c k =
    let q = progress (goal.at.returns-in_default c).Start k in
    ap (after q) (no_kind c.args.bytes.now q (search (rules, tests)) (search (rules, tests)) (search (rules, tests)) (search (rules, tests)) (search (rules, tests)))
