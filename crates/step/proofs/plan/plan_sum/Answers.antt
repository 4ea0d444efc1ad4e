-- `plan_sum` meets its contract: a result of more than 64 terms is told, the product first, and otherwise the changes of the rule are folded one after another.
use mathlib.Core.Path.{◌≡◌, refl, ap}
use mathlib.Core.List.{List, [], ◌∷◌}
use Prim.Native.Nat.{ℕ, ◌≤◌}
use native.Mathlib.Omega.{arith}
use lib.IntN.{pos, ◌+ℤ◌, ◌-ℤ◌, neg_ℤ}
use lib.ListN.{length, take}
use mir.Syntax.{w64}
use mir.Val.{to_z, of_z}
use mir.Facts.{to_z-of_z}
use Rattle.refusal.specs.Outcome.{accepted}
use Rattle.polynomial.specs.Polynomial.{sum_of, product_of}
use Rattle.polynomial.specs.PolynomialLaws.{exact}
use Rattle.configuration.specs.Configuration.{Line, add_all, negated}
use Rattle.configuration.specs.Limits.{short}
use Rattle.replacement.specs.Passes.{IsSmall}
use Rattle.calculus.specs.Calculus.{changes}
use Rattle.calculus.specs.declared.Rule.TheVariants.{Sum}
use Rattle.step.proofs.Amounts.{negated_is, doubled_is, IsSmall-changes}
use Rattle.step.proofs.Plans.{not_long, Folded, Folded-none, fold_asked, fold_given}
use Rattle.step.proofs.plan.plan_sum.Goals as goal
use Rattle.step.proofs.plan.plan_sum.Goals.{After-add, After-add-2, After-add-3, After-add-4, After-product-product_length, After-sum-sum_length, Else-sum_length-gt64, Start}

abbrev product : goal.Start → List ℕ
product s = product_of s.args.f.now s.args.g.now

abbrev sum : goal.Start → List ℕ
sum s = sum_of s.args.f.now s.args.g.now

abbrev ruled : goal.Start → List Line
ruled s = changes [] Sum s.args.f.now s.args.g.now s.args.amount

small : (s : goal.Start) → IsSmall 42 (ruled s)
small s = IsSmall-changes [] Sum s.args.f.now s.args.g.now s.args.amount s.requires.2

-- an amount as the code has it
gained : (s : goal.Start) → to_z w64 (of_z w64 s.args.amount) ≡ s.args.amount
gained s = to_z-of_z s.ranges.amount

lost : (s : goal.Start) → to_z w64 (of_z w64 (pos 0 -ℤ to_z w64 (of_z w64 s.args.amount))) ≡ neg_ℤ s.args.amount
lost s = negated_is s.args.amount s.requires.2 _ (gained s)

doubled : (s : goal.Start) → to_z w64 (of_z w64 (to_z w64 (of_z w64 s.args.amount) +ℤ to_z w64 (of_z w64 s.args.amount))) ≡ s.args.amount +ℤ s.args.amount
doubled s = doubled_is s.args.amount s.requires.2 _ (gained s)

-- f g and f + g, exact
told_product : (c : goal.After-product-product_length) → (let k = c.product-product_length in let p = product (goal.at.After-product-product_length c).Start in
    (k.result ≡ length p) × (k.result ≤ 64 → take k.result k.new.out ≡ p))
told_product c =
    exact (c.args.f.now ∷ c.args.g.now ∷ []) (product (goal.at.After-product-product_length c).Start) _ _ _ (c.requires.0.0, (c.requires.1.0, tt)) (c.product-product_length.ensures.size, c.product-product_length.ensures.terms)

told_sum : (c : goal.After-sum-sum_length) → (let k = c.sum-sum_length in let s = sum (goal.at.After-sum-sum_length c).Start in
    (k.result ≡ length s) × (k.result ≤ 64 → take k.result k.new.out ≡ s))
told_sum c =
    exact (c.args.f.now ∷ c.args.g.now ∷ []) (sum (goal.at.After-sum-sum_length c).Start) _ _ _ (c.requires.0.0, (c.requires.1.0, tt)) (c.sum-sum_length.ensures.size, c.sum-sum_length.ensures.terms)

product_is : (c : goal.Else-sum_length-gt64) → (let k = c.product-product_length in take k.result k.new.out ≡ product (goal.at.Else-sum_length-gt64 c).Start)
product_is c = (told_product (goal.at.Else-sum_length-gt64 c).After-product-product_length).1 (omega arith)

sum_is : (c : goal.Else-sum_length-gt64) → (let k = c.sum-sum_length in take k.result k.new.out ≡ sum (goal.at.Else-sum_length-gt64 c).Start)
sum_is c = (told_sum (goal.at.Else-sum_length-gt64 c).After-sum-sum_length).1 c.if-sum_length-gt64.false

-- the first changes, folded
one : (c : goal.After-add) → Folded (take 1 (ruled (goal.at.After-add c).Start)) c.add.new.self
unfolding negated
one c = let s = (goal.at.After-add c).Start in fold_given (Folded-none c.requires.3) (omega arith) refl (lost s) (small s).0 c.add.ensures

two : (c : goal.After-add-2) → Folded (take 2 (ruled (goal.at.After-add-2 c).Start)) c.add-2.new.self
unfolding negated
two c = let s = (goal.at.After-add-2 c).Start in fold_given (one (goal.at.After-add-2 c).After-add) (omega arith) refl (lost s) (small s).1.0 c.add-2.ensures

three : (c : goal.After-add-3) → Folded (take 3 (ruled (goal.at.After-add-3 c).Start)) c.add-3.new.self
unfolding negated
three c =
    let s = (goal.at.After-add-3 c).Start in
    fold_given (two (goal.at.After-add-3 c).After-add-2) (omega arith) (product_is (goal.at.After-add-3 c).Else-sum_length-gt64) (doubled s) (small s).1.1.0 c.add-3.ensures

four : (c : goal.After-add-4) → Folded (ruled (goal.at.After-add-4 c).Start) c.add-4.new.self
unfolding negated
four c =
    let s = (goal.at.After-add-4 c).Start in
    fold_given (three (goal.at.After-add-4 c).After-add-3) (omega arith) (sum_is (goal.at.After-add-4 c).Else-sum_length-gt64) (gained s) (small s).1.1.1.0 c.add-4.ensures

pub add-requires : goal.add-requires
unfolding negated
add-requires c =
    let s = (goal.at.add-requires c).Start in (omega arith, fold_asked (Folded-none c.requires.3) (omega arith) refl (lost s) (small s).0 c.requires.0.0)

pub add-requires-2 : goal.add-requires-2
unfolding negated
add-requires-2 c =
    let s = (goal.at.add-requires-2 c).Start in (omega arith, fold_asked (one (goal.at.add-requires-2 c).After-add) (omega arith) refl (lost s) (small s).1.0 c.requires.1.0)

pub add-requires-3 : goal.add-requires-3
unfolding negated
add-requires-3 c =
    let s = (goal.at.add-requires-3 c).Start in
    let e = (told_product (goal.at.add-requires-3 c).After-product-product_length).0 in
    (omega arith, fold_asked (two (goal.at.add-requires-3 c).After-add-2) (omega arith) (product_is (goal.at.add-requires-3 c).Else-sum_length-gt64) (doubled s) (small s).1.1.0 (omega (arith, e)))

pub add-requires-4 : goal.add-requires-4
unfolding negated
add-requires-4 c =
    let s = (goal.at.add-requires-4 c).Start in
    let e = (told_sum (goal.at.add-requires-4 c).After-sum-sum_length).0 in
    (omega arith, fold_asked (three (goal.at.add-requires-4 c).After-add-3) (omega arith) (sum_is (goal.at.add-requires-4 c).Else-sum_length-gt64) (gained s) (small s).1.1.1.0 (omega (arith, e)))

pub returns : goal.returns
returns c =
    let s = (goal.at.returns c).Start in
    let o = accepted (add_all (ruled s) []) in (
      not_long _ (product s) (told_product (goal.at.returns c).After-product-product_length).0 (short (sum s) ∷ []) o (omega arith)
          (not_long _ (sum s) (told_sum (goal.at.returns c).After-sum-sum_length).0 [] o c.if-sum_length-gt64.false (ap accepted (four (goal.at.returns c).After-add-4).holds)),
      tt,
    )
