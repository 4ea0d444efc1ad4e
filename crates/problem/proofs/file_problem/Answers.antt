use Rattle.std.proofs.Common.{◌≡◌, ap, sym, subst, ◌∙◌}
use Rattle.refusal.specs.Outcome.{Told}
use Rattle.walk.specs.Walk.{read_all, verdict}
use Rattle.problem.specs.Problem.{State, empty, filing, file_problem, told_of_filing}
use Rattle.problem.specs.ProblemLaws.{IsSound, IsSound-empty}
use Rattle.problem.specs.Held.{state_in}
use Rattle.problem.proofs.file_problem.Goals as goal
use Rattle.problem.proofs.file_problem.Goals.{After-new-filing}

-- nothing is read yet
fresh : (c : goal.After-new-filing) → state_in c.new-filing.result c.args.lines.now c.args.hard.now ≡ empty
fresh c = λ i. state_in (c.new-filing.ensures i) (c.requires.1 i) (c.requires.0 i)

pub read-answer-requires : goal.read-answer-requires
read-answer-requires c = subst IsSound (sym (fresh (goal.at.read-answer-requires c).After-new-filing)) IsSound-empty

pub returns : goal.returns
unfolding file_problem
returns c =
    let r = c.read-answer in
    let f = fresh (goal.at.returns c).After-new-filing in
    let s = c.args.bytes.now in
    let x : state_in r.new.self r.new.lines r.new.hard ≡ (read_all filing s empty).reached.state = r.ensures.0 ∙ ap (λ (y : State). (read_all filing s y).reached.state) f in
    let t : ◌≡◌ {A = Told (Unit {0})} (told_of_filing r.result) (let w = read_all filing s empty in verdict w.reached.records (tt {0}) w.stop) =
    r.ensures.1 ∙ ap (λ (y : State). let w = read_all filing s y in verdict w.reached.records (tt {0}) w.stop) f in
    λ i. record {
      variables = (c.variables.ensures ∙ ap (λ (y : State). y.variables) x) i;
      hard = ap (λ (y : State). y.holding.hard) x i;
      lines = ap (λ (y : State). y.holding.lines) x i;
      told = t i;
    }
