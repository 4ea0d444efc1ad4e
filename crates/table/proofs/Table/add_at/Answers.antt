-- `add_at` meets its contract: at its place the line of a polynomial is weighed anew, taken out or put in, or nothing is done.
use mathlib.Core.Path.{◌≡◌, sym, ap, subst, ◌∙◌}
use mathlib.Core.Bool.{true, false, not}
use mathlib.Core.List.{◌∷◌, ◌++◌}
use Prim.Native.Nat.{suc, ◌<◌}
use native.Mathlib.Omega.{arith}
use borrow.Author.Rules.{rules}
use lib.IntN.{ℤ, ◌+ℤ◌}
use lib.ListN.{length, take, drop}
use mir.Syntax.{w64}
use mir.Val.{to_z, of_z, SFits}
use mir.Facts.{to_z-of_z}
use Rattle.configuration.specs.Weight.{is_zero}
use Rattle.configuration.specs.Configuration.{line, weight, add, IsInOrder}
use Rattle.configuration.specs.ConfigurationLaws.{add_ordered}
use Rattle.configuration.proofs.Weights.{read_back, is_zero_lem, not_zero}
use Rattle.table.specs.Table.{terms_at, Located}
use Rattle.table.proofs.Lined.{lines_ordered}
use Rattle.table.proofs.Located.{Located-by, in_reach, among_lines, add_nought, add-line, add_room, add_gone, add_changed}
use Rattle.table.proofs.Table.add_at.Given.{Over}
use Rattle.table.proofs.Table.add_at.Goals as goal
use Rattle.table.proofs.Table.add_at.Goals.{Start, After-self, Then-old-ne0, Else-old-ne0, Else-sum-eq0, Then-amount-ne0}

-- the sum of the weight so far and the amount
abbrev summed : {g : Over} → goal.Start g → ℤ
summed s = weight s.args.self.now s.args.f.now +ℤ s.args.amount

sum_is : (g : Over) (s : goal.Start g) → to_z w64 (of_z w64 s.args.known.weight) +ℤ to_z w64 (of_z w64 s.args.amount) ≡ summed s
sum_is g s = rw (read_back s.args.known.weight (search rules), to_z-of_z s.ranges.amount) (ap (λ (w : ℤ). w +ℤ s.args.amount) s.requires.weight)

sum_fits : (g : Over) (s : goal.Start g) → SFits w64 (summed s)
sum_fits g s = record { sfits = s.requires.fits }

ordered : (g : Over) (s : goal.After-self g) → IsInOrder s.args.self.now
ordered g s = lines_ordered s.self.invariant.fits s.self.view_is

located : (g : Over) (s : goal.After-self g) → Located s.args.self.now s.args.f.now s.args.known.at (not (is_zero s.args.known.weight))
located g s = Located-by (ordered g s) s.requires.at s.requires.weight

-- the polynomial is held, or it is not
held : (g : Over) (c : goal.Then-old-ne0 g) → not (is_zero c.args.known.weight) ≡ true
held g c = ap not (not_zero c.args.known.weight c.if-old-ne0.true)

missing : (g : Over) (c : goal.Else-old-ne0 g) → not (is_zero c.args.known.weight) ≡ false
missing g c = ap not (is_zero_lem c.args.known.weight (search rules) c.if-old-ne0.false)

there : (g : Over) (c : goal.Then-old-ne0 g) → c.args.known.at < length c.args.self.now
there g c = let s = (goal.at.Then-old-ne0 g c).After-self in among_lines (ordered g s) (located g s) (held g c)

-- it is weighed anew
changed : (g : Over) (c : goal.Else-sum-eq0 g) → (let a = c.args in let L = a.self.now in
    add a.f.now a.amount L ≡ take a.known.at L ++ line (terms_at L a.known.at) (to_z w64 (of_z w64 (to_z w64 (of_z w64 a.known.weight) +ℤ to_z w64 (of_z w64 a.amount)))) ∷ drop (suc a.known.at) L)
changed g c =
    let s = (goal.at.Else-sum-eq0 g c).After-self in
    let b = (goal.at.Else-sum-eq0 g c).Start in
    rw (sum_is g b, to_z-of_z (sum_fits g b))
    (add_changed (ordered g s) (located g s) (held g (goal.at.Else-sum-eq0 g c).Then-old-ne0) c.args.amount c.requires.some (not_zero (summed b) (rw (sum_is g b) at c.if-sum-eq0.false)))

-- it is put in
grown : (g : Over) (c : goal.Then-amount-ne0 g) → (let a = c.args in let L = a.self.now in
    add a.f.now a.amount L ≡ take a.known.at L ++ line a.f.now a.amount ∷ drop a.known.at L)
grown g c =
    let s = (goal.at.Then-amount-ne0 g c).After-self in
    add-line (ordered g s) (located g s) (missing g (goal.at.Then-amount-ne0 g c).Else-old-ne0) c.args.amount c.requires.some (not_zero c.args.amount c.if-amount-ne0.true)

pub remove-requires : goal.remove-requires
remove-requires g c = (omega arith, there g (goal.at.remove-requires g c).Then-old-ne0)

pub returns-then-sum-eq0 : goal.returns-then-sum-eq0
returns-then-sum-eq0 g c =
    let s = (goal.at.returns-then-sum-eq0 g c).After-self in
    let b = (goal.at.returns-then-sum-eq0 g c).Start in
    let z = is_zero_lem (summed b) (sum_fits g b).sfits (rw (sum_is g b) at c.if-sum-eq0.true) in
    c.remove.ensures ∙ sym (add_gone (ordered g s) (located g s) (held g (goal.at.returns-then-sum-eq0 g c).Then-old-ne0) c.args.amount c.requires.some z)

pub set_weight-requires : goal.set_weight-requires
set_weight-requires g c = (
  omega arith,
  (
    there g (goal.at.set_weight-requires g c).Then-old-ne0,
    subst IsInOrder (changed g (goal.at.set_weight-requires g c).Else-sum-eq0)
        (add_ordered c.args.f.now c.args.amount c.args.self.now (ordered g (goal.at.set_weight-requires g c).After-self)),
  ),
)

pub returns-then-old-ne0 : goal.returns-then-old-ne0
returns-then-old-ne0 g c = c.set_weight.ensures ∙ sym (changed g (goal.at.returns-then-old-ne0 g c).Else-sum-eq0)

pub insert-requires : goal.insert-requires
insert-requires g c =
    let s = (goal.at.insert-requires g c).After-self in
    let w = c.args.amount in
    let p = c.requires in
    let m = missing g (goal.at.insert-requires g c).Else-old-ne0 in
    let o = subst IsInOrder (grown g (goal.at.insert-requires g c).Then-amount-ne0) (add_ordered c.args.f.now w c.args.self.now (ordered g s)) in (
      omega arith,
      (
        in_reach (ordered g s) (located g s),
        (
          add_room (ordered g s) (located g s) m w p.some g.row.ROWS (not_zero w c.if-amount-ne0.true) p.room,
          (p.some, (p.short, (p.first, rw (to_z-of_z c.ranges.amount) o))),
        ),
      ),
    )

pub returns-then-amount-ne0 : goal.returns-then-amount-ne0
returns-then-amount-ne0 g c =
    (rw (to_z-of_z c.ranges.amount) at c.insert.ensures) ∙ sym (grown g (goal.at.returns-then-amount-ne0 g c).Then-amount-ne0)

pub returns-else-amount-ne0 : goal.returns-else-amount-ne0
returns-else-amount-ne0 g c =
    let s = (goal.at.returns-else-amount-ne0 g c).After-self in
    add_nought (ordered g s) (located g s) (missing g (goal.at.returns-else-amount-ne0 g c).Else-old-ne0) c.args.amount c.requires.some
    (is_zero_lem c.args.amount c.ranges.amount.sfits c.if-amount-ne0.false)
