-- `plan_hard` meets its contract: a result of more than 64 terms is told, and otherwise the two changes of the rule are folded one after another.
use mathlib.Core.Path.{◌≡◌, refl, ap}
use mathlib.Core.List.{List, [], ◌∷◌}
use Prim.Native.Nat.{ℕ, ◌≤◌}
use native.Mathlib.Omega.{arith}
use lib.IntN.{pos, ◌-ℤ◌, neg_ℤ}
use lib.ListN.{length, take}
use mir.Syntax.{w64}
use mir.Val.{to_z, of_z}
use mir.Facts.{to_z-of_z}
use Rattle.refusal.specs.Outcome.{accepted}
use Rattle.polynomial.specs.Polynomial.{sum_of, product_of}
use Rattle.polynomial.specs.PolynomialLaws.{exact}
use Rattle.configuration.specs.Configuration.{Line, add_all, negated}
use Rattle.replacement.specs.Passes.{IsSmall}
use Rattle.calculus.specs.Calculus.{changes}
use Rattle.calculus.specs.declared.Rule.TheVariants.{Hard}
use Rattle.step.proofs.Amounts.{negated_is, IsSmall-changes}
use Rattle.step.proofs.Plans.{not_long, Folded, Folded-none, fold_asked, fold_given}
use Rattle.step.proofs.plan.plan_hard.Goals as goal
use Rattle.step.proofs.plan.plan_hard.Goals.{After-add, After-add-2, After-plus_product-n, Else-n-gt64, Start}

abbrev result : goal.Start → List ℕ
result s = sum_of s.args.f.now (product_of s.args.q.now s.args.h.now)

abbrev ruled : goal.Start → List Line
ruled s = changes (s.args.h.now ∷ []) (Hard 1) s.args.f.now s.args.q.now s.args.amount

small : (s : goal.Start) → IsSmall 42 (ruled s)
small s = IsSmall-changes (s.args.h.now ∷ []) (Hard 1) s.args.f.now s.args.q.now s.args.amount s.requires.3

-- an amount as the code has it
gained : (s : goal.Start) → to_z w64 (of_z w64 s.args.amount) ≡ s.args.amount
gained s = to_z-of_z s.ranges.amount

lost : (s : goal.Start) → to_z w64 (of_z w64 (pos 0 -ℤ to_z w64 (of_z w64 s.args.amount))) ≡ neg_ℤ s.args.amount
lost s = negated_is s.args.amount s.requires.3 _ (gained s)

told : (c : goal.After-plus_product-n) → (let k = c.plus_product-n in let r = result (goal.at.After-plus_product-n c).Start in
    (k.result ≡ length r) × (k.result ≤ 64 → take k.result k.new.out ≡ r))
told c =
    exact (c.args.f.now ∷ c.args.q.now ∷ c.args.h.now ∷ []) (result (goal.at.After-plus_product-n c).Start) _ _ _ (c.requires.0.0, (c.requires.1.0, (c.requires.2, tt)))
    (c.plus_product-n.ensures.size, c.plus_product-n.ensures.terms)

result_is : (c : goal.Else-n-gt64) → (let k = c.plus_product-n in take k.result k.new.out ≡ result (goal.at.Else-n-gt64 c).Start)
result_is c = (told (goal.at.Else-n-gt64 c).After-plus_product-n).1 c.if-n-gt64.false

-- the first change, and both, folded
one : (c : goal.After-add) → Folded (take 1 (ruled (goal.at.After-add c).Start)) c.add.new.self
unfolding negated
one c = let s = (goal.at.After-add c).Start in fold_given (Folded-none c.requires.4) (omega arith) refl (lost s) (small s).0 c.add.ensures

two : (c : goal.After-add-2) → Folded (ruled (goal.at.After-add-2 c).Start) c.add-2.new.self
unfolding negated
two c =
    let s = (goal.at.After-add-2 c).Start in
    fold_given (one (goal.at.After-add-2 c).After-add) (omega arith) (result_is (goal.at.After-add-2 c).Else-n-gt64) (gained s) (small s).1.0 c.add-2.ensures

pub add-requires : goal.add-requires
unfolding negated
add-requires c =
    let s = (goal.at.add-requires c).Start in (omega arith, fold_asked (Folded-none c.requires.4) (omega arith) refl (lost s) (small s).0 c.requires.0.0)

pub add-requires-2 : goal.add-requires-2
unfolding negated
add-requires-2 c =
    let s = (goal.at.add-requires-2 c).Start in
    let e = (told (goal.at.add-requires-2 c).After-plus_product-n).0 in
    (omega arith, fold_asked (one (goal.at.add-requires-2 c).After-add) (omega arith) (result_is (goal.at.add-requires-2 c).Else-n-gt64) (gained s) (small s).1.0 (omega (arith, e)))

pub returns : goal.returns
returns c =
    let s = (goal.at.returns c).Start in
    (not_long _ (result s) (told (goal.at.returns c).After-plus_product-n).0 [] (accepted (add_all (ruled s) [])) c.if-n-gt64.false (ap accepted (two (goal.at.returns c).After-add-2).holds), tt)
