-- The body, the variables and the length of the sum are tested in the definition's order.
use Rattle.std.proofs.Common.{◌≡◌, sym, ◌∙◌, true, ◌^◌, ◌≤◌, ◌<◌, [], ◌∷◌, subst}
use Rattle.std.specs.Prelude.{ltb}
use Rattle.std.specs.declared.option.Option.TheVariants.{Some}
use Rattle.record.specs.Record.{mask_in}
use Rattle.walk.proofs.Terms.{cut_short, unknown, too_long_lem, added}
use Rattle.polynomial.specs.Polynomial.{terms_of, IsOrdered}
use Rattle.polynomial.specs.PolynomialLaws.{sum_ordered}
use Rattle.walk.proofs.add_term.Goals as goal
use Rattle.walk.proofs.add_term.Goals.{After-toggle-sum}

read : (c : goal.After-toggle-sum) → mask_in c.args.bytes.now c.args.at ≡ Some c.in-Some.mask
read c = sym c.read_mask.ensures ∙ c.in-Some.is

known : (c : goal.After-toggle-sum) → ltb c.in-Some.mask (2 ^ c.args.variables) ≡ true
known c = sym c.is_term.ensures ∙ c.if-not-is_term.false

pub returns-in_default : goal.returns-in_default
returns-in_default c =
    let a = c.args in
    record { sum = cut_short a.variables a.bytes.now a.at (terms_of a.work.now) (sym c.read_mask.ensures ∙ c.in_default.is); held = c.requires }

pub returns-then-not-is_term-clause-sum : goal.returns-then-not-is_term-clause-sum
returns-then-not-is_term-clause-sum c =
    let a = c.args in
    unknown a.variables a.bytes.now a.at (terms_of a.work.now) _ (sym c.read_mask.ensures ∙ c.in-Some.is) (sym c.is_term.ensures ∙ c.if-not-is_term.true)

pub returns-then-not-fits-clause-sum : goal.returns-then-not-fits-clause-sum
returns-then-not-fits-clause-sum c =
    let a = c.args in
    let n = c.requires.area in
    let l : 64 < c.toggle-sum.result = c.if-not-fits.true in
    rw (c.toggle-sum.ensures.full (rw n l)) (too_long_lem a.variables a.bytes.now a.at (terms_of a.work.now) _ (read (goal.at.returns-then-not-fits-clause-sum c).After-toggle-sum)
    (known (goal.at.returns-then-not-fits-clause-sum c).After-toggle-sum) _ c.toggle-sum.ensures.size l)

pub returns-clause-sum : goal.returns-clause-sum
returns-clause-sum c =
    let a = c.args in
    let n = c.requires.area in
    let l : c.toggle-sum.result ≤ 64 = c.if-not-fits.false in
    rw (c.toggle-sum.ensures.sum (rw n l)) (added a.variables a.bytes.now a.at (terms_of a.work.now) _ (read (goal.at.returns-clause-sum c).After-toggle-sum)
    (known (goal.at.returns-clause-sum c).After-toggle-sum) (rw c.toggle-sum.ensures.size at l))

pub returns-clause-held : goal.returns-clause-held
returns-clause-held c =
    let a = c.args in
    let l : c.toggle-sum.result ≤ 64 = c.if-not-fits.false in
    record {
      area = c.toggle-sum.auto.terms ∙ c.requires.area;
      room = l;
      ordered = subst IsOrdered (sym (c.toggle-sum.ensures.sum (rw c.requires.area l))) (sum_ordered (c.in-Some.mask ∷ []) (terms_of a.work.now));
    }

pub returns-then-not-fits-clause-held : goal.returns-then-not-fits-clause-held
returns-then-not-fits-clause-held c = rw (c.toggle-sum.ensures.full (rw c.requires.area c.if-not-fits.true)) c.requires
