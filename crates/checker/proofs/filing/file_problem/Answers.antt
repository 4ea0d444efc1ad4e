-- `file_problem` meets its contract.
use mathlib.Core.Path.{◌≡◌, refl, sym, ◌∙◌}
use mathlib.Core.Bool.{true}
use borrow.Author.Rules.{rules}
use Rattle.memory.specs.MemoryLaws.{clear_past}
use Rattle.hard.specs.Hard.{HardArea, hard_image}
use Rattle.problem.specs.Problem.{told_of_filing}
use Rattle.checker.specs.Checker.{Lent, lent_of, no_head}
use Rattle.checker.proofs.Opening.{others, terms_fit, filed_left}
use Rattle.checker.proofs.filing.file_problem.Goals as goal
use Rattle.checker.proofs.filing.file_problem.Goals.{Start, Else-not-lengths_fit}

abbrev lent : goal.Start → Lent
lent s = let a = s.args in lent_of no_head a.terms.now a.table.now a.counts.now a.places.now

fit : (c : goal.Else-not-lengths_fit) → others (lent (goal.at.Else-not-lengths_fit c).Start) ≡ true
fit c = sym c.lengths_fit.ensures ∙ c.if-not-lengths_fit.false

pub close-requires : goal.close-requires
close-requires c = clear_past c.args.terms.now (terms_fit (lent (goal.at.close-requires c).Start) (fit (goal.at.close-requires c).Else-not-lengths_fit))

pub returns : goal.returns
returns c =
    let s = (goal.at.returns c).Start in
    let k = c.file_problem-filed in
    let a : ◌≡◌ {A = HardArea} (record { number = c.len-2.result; counts = c.close-2.new.counts; places = c.close-2.new.places }) (hard_image k.new.hard) =
    rw (c.len-2.ensures.number, c.close-2.ensures.counts, c.close-2.ensures.places) refl in
    rw c.len.ensures.lines
    (filed_left (lent s) c.args.bytes.now (search rules) (fit (goal.at.returns c).Else-not-lengths_fit) k.result.variables k.new.lines k.new.hard (told_of_filing k.result.answer)
    k.ensures _ _ (c.close.ensures k.result.variables c.len-2.result) a)
