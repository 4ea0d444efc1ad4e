-- `push` meets its contract: the area is that of the longer list.
use Rattle.std.proofs.Common.{◌≡◌, ap, ◌∙◌, ◌+◌, ◌-◌, ◌*◌, ◌<◌, List, ℕ, length, arith, rules, drop-drop}
use Rattle.hard.specs.HeldLaws.{held_number, more_held, more_list}
use Rattle.hard.proofs.HardList.push.Goals as goal
use Rattle.hard.proofs.HardList.push.Goals.{After-self}

there : (c : After-self) → c.self.inside.number < 16
there c =
    let e : c.self.inside.number ≡ length c.args.self.now = held_number _ c.self.invariant ∙ ap (λ (H : List (List ℕ)). length H) c.self.view_is in
    omega (arith, e, c.requires.0)

pub slice_bounds-copy_from_slice-end : goal.slice_bounds-copy_from_slice-end
slice_bounds-copy_from_slice-end c = let b = there (goal.at.slice_bounds-copy_from_slice-end c).After-self in search rules

pub bounds-self-inside-self-inside : goal.bounds-self-inside-self-inside
bounds-self-inside-self-inside c = omega (arith, there (goal.at.bounds-self-inside-self-inside c).After-self)

pub invariant_of-self : goal.invariant_of-self
invariant_of-self c =
    let f = c.args.f.now in
    let start = 64 * c.self.inside.number in
    let long : start + length f - start ≡ length f = omega arith in
    rw (c.copy_from_slice.ensures.after, long, drop-drop (length f) start c.self.inside.places)
    (more_held _ c.self.invariant f (rw c.self.view_is c.requires.0) c.requires.1)

pub returns : goal.returns
returns c =
    let f = c.args.f.now in
    let start = 64 * c.self.inside.number in
    let long : start + length f - start ≡ length f = omega arith in
    rw (c.copy_from_slice.ensures.after, long, drop-drop (length f) start c.self.inside.places, ← c.self.view_is)
    (more_list _ c.self.invariant f (rw c.self.view_is c.requires.0) c.requires.1)
