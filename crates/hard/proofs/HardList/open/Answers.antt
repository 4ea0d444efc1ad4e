-- `open` meets its contract: a well-formed area is that of the list that it holds.
use Rattle.std.proofs.Common.{◌≡◌, sym, ap, ◌∙◌, subst, rules}
use Rattle.run.specs.BooleanLaws.{of_true}
use Rattle.hard.specs.Hard.{HardArea, hard_of}
use Rattle.hard.specs.HardLaws.{formed_list}
use Rattle.hard.specs.Held.{IsHeld}
use Rattle.hard.specs.HeldLaws.{formed_held}
use Rattle.hard.specs.WorkingLaws.{held_back}
use Rattle.hard.proofs.HardList.open.Goals as goal

pub invariant_of-result : goal.invariant_of-result
invariant_of-result c = formed_held c.args.variables _ (of_true (sym c.hard_formed.ensures ∙ c.if-not-hard_formed.false))

pub returns-clause-polynomials : goal.returns-clause-polynomials
returns-clause-polynomials c = formed_list c.args.variables _ (of_true (sym c.hard_formed.ensures ∙ c.if-not-hard_formed.false))

pub returns-clause-run : goal.returns-clause-run
returns-clause-run c =
    let a = c.args in
    let lent : HardArea = record { number = a.number; counts = a.counts.now; places = a.places.now } in
    let same : record { number = a.number; counts = c.in_ok-counts.counts.now; places = c.in_ok-places.places.now } ≡ lent = search rules in
    ap hard_of same ∙ sym (held_back lent (subst IsHeld same (formed_held a.variables _ (of_true (sym c.hard_formed.ensures ∙ c.if-not-hard_formed.false)))))
