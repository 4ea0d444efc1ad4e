-- `polynomial` meets its contract: the first of its 64 places, as many as it has terms.
use Rattle.std.proofs.Common.{◌≡◌, ap, ◌∙◌, sym, ◌+◌, ◌-◌, ◌*◌, ◌<◌, List, [], ℕ, arith, rules, get_or, length}
use Rattle.hard.specs.HeldLaws.{held_number, held_one, held_short}
use Rattle.hard.proofs.HardList.polynomial.Goals as goal
use Rattle.hard.proofs.HardList.polynomial.Goals.{After-self, After-front}

there : (c : After-self) → c.args.i < 16
there c =
    let e : c.self.inside.number ≡ length c.args.self.now = held_number _ c.self.invariant ∙ ap (λ (H : List (List ℕ)). length H) c.self.view_is in
    omega (arith, e, c.self.invariant.few, c.requires)

pub overflow_mul-start : goal.overflow_mul-start
overflow_mul-start c = let b = there c in record { fits = omega (arith, b) }

pub overflow_add-start : goal.overflow_add-start
overflow_add-start c = let b = there c in record { fits = omega (arith, b) }

pub offset_bounds-places-start : goal.offset_bounds-places-start
offset_bounds-places-start c = let b = there c in record { fits = omega (arith, b) }

pub slice_bounds-front-end : goal.slice_bounds-front-end
slice_bounds-front-end c = let b = there (goal.at.slice_bounds-front-end c).After-self in search rules

terms : (c : After-front) → c.front.result.now ≡ get_or c.args.self.now c.args.i []
terms c =
    let k : 64 * c.args.i + 64 - 64 * c.args.i ≡ 64 = omega arith in
    c.front.ensures ∙ rw (k, ← c.self.view_is) (sym (held_one _ c.self.invariant c.args.i (rw c.self.view_is c.requires)))

pub returns-clause-terms : goal.returns-clause-terms
returns-clause-terms c = terms c

pub returns-clause-short : goal.returns-clause-short
returns-clause-short c = rw (terms c, ← c.self.view_is) (held_short _ c.self.invariant c.args.i (rw c.self.view_is c.requires))
