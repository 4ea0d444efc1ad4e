use mathlib.Core.Path.{◌≡◌, refl}
use mathlib.Core.Bool.{Bool, true, false}
use mathlib.Core.List.{List}
use Prim.Native.Nat.{ℕ, ◌+◌, ◌-◌, ◌*◌, ◌/◌, ◌≤◌, ◌<◌}
use native.Mathlib.Omega.{arith}
use lib.Dec.{ltb}
use lib.ListN.{length, get_or, take}
use lib.Seq.{get_or-take, length-take-le}
use borrow.Author.Tests.{ltb-true, ltb-false}
use Rattle.table.specs.Rows.{key_in, ahead}
use Rattle.table.proofs.Keys.{ahead-le, ahead_below, ahead_above}
use Rattle.table.proofs.order.ahead.Goals as goal
use Rattle.table.proofs.order.ahead.Goals.{After-above, In-loop-size, Start}

-- the first entries
abbrev first : goal.Start → List ℕ
first s = take s.args.lines s.args.order.now

first_long : (s : goal.Start) → length (first s) ≡ s.args.lines
first_long s = length-take-le s.args.lines s.args.order.now s.requires.0

-- the larger half of those that are left, and the place of its last, which is looked at
abbrev half : goal.In-loop-size → ℕ
half c = c.loop-size.size - c.loop-size.size / 2

abbrev middle : goal.In-loop-size → ℕ
middle c = c.loop-size.low + half c - 1

entry_is : (c : goal.In-loop-size) → get_or (first (goal.at.In-loop-size c).Start) (middle c) 0 ≡ get_or c.args.order.now (middle c) 0
entry_is c = get_or-take c.args.lines c.args.order.now (middle c) 0 (omega arith)

-- after the step the number lies within the rest
stepped : (c : goal.After-above) → (
    let low = c.loop-size.low + half (goal.at.After-above c).In-loop-size * c.above.result in
    let a = ahead c.args.key (first (goal.at.After-above c).Start) in (low ≤ a) × (a ≤ low + (c.loop-size.size - half (goal.at.After-above c).In-loop-size)) × (low + (c.loop-size.size - half (goal.at.After-above c).In-loop-size) ≤ c.args.lines))
stepped c = go (ltb key entry) refl c.above.result c.above.ensures.0 c.above.ensures.1
  where
    key : ℕ
    key = c.args.key

    entry : ℕ
    entry = key_in (get_or c.args.order.now (middle (goal.at.After-above c).In-loop-size) 0)

    inside : middle (goal.at.After-above c).In-loop-size < length (first (goal.at.After-above c).Start)
    inside = omega (arith, first_long (goal.at.After-above c).Start)

    go : (b : Bool) → ltb key entry ≡ b → (r : ℕ) → (key < entry → r ≡ 1) → (entry ≤ key → r ≡ 0)
        → (let low = c.loop-size.low + half (goal.at.After-above c).In-loop-size * r in
        let a = ahead key (first (goal.at.After-above c).Start) in (low ≤ a) × (a ≤ low + (c.loop-size.size - half (goal.at.After-above c).In-loop-size)) × (low + (c.loop-size.size - half (goal.at.After-above c).In-loop-size) ≤ c.args.lines))
    go true h r x y = rw (x (ltb-true key entry h)) (omega (arith, ahead_above key (middle (goal.at.After-above c).In-loop-size) (first (goal.at.After-above c).Start) c.requires.1 inside (omega (arith, entry_is (goal.at.After-above c).In-loop-size, ltb-true key entry h))))
    go false h r x y = rw (y (ltb-false key entry h)) (omega (arith, ahead_below key (middle (goal.at.After-above c).In-loop-size) (first (goal.at.After-above c).Start) inside (omega (arith, entry_is (goal.at.After-above c).In-loop-size, ltb-false key entry h))))

pub loop-size-init : goal.loop-size-init
loop-size-init c = omega (arith, ahead-le c.args.key (first (goal.at.loop-size-init c).Start), first_long (goal.at.loop-size-init c).Start)

pub overflow_mul-low : goal.overflow_mul-low
overflow_mul-low c = omega (arith, stepped c)

pub overflow_add-low : goal.overflow_add-low
overflow_add-low c = omega (arith, stepped c)

pub loop-size-preserved : goal.loop-size-preserved
loop-size-preserved c = omega (arith, stepped c)
