-- `plan_prod` meets its contract: a result of more than 64 terms is told, the product first, and otherwise the changes of the rule are folded one after another;
-- where one result is 0, there are none.
use mathlib.Core.Path.{◌≡◌, refl, sym, ap, ◌∙◌}
use mathlib.Core.Logic.{◌⊎◌, inl, inr}
use mathlib.Core.List.{List, [], ◌∷◌}
use Prim.Native.Nat.{ℕ, ◌≤◌}
use native.Mathlib.Omega.{arith}
use lib.IntN.{pos, ◌-ℤ◌, neg_ℤ}
use lib.ListN.{length, take}
use mir.Syntax.{w64}
use mir.Val.{to_z, of_z}
use mir.Facts.{to_z-of_z}
use Rattle.refusal.specs.Outcome.{accepted, passing}
use Rattle.polynomial.specs.Polynomial.{ONE, sum_of, product_of}
use Rattle.polynomial.specs.PolynomialLaws.{exact}
use Rattle.configuration.specs.Configuration.{Line, add_all, negated}
use Rattle.configuration.specs.Limits.{short}
use Rattle.replacement.specs.Passes.{IsSmall}
use Rattle.calculus.specs.Calculus.{changes}
use Rattle.calculus.specs.declared.Rule.TheVariants.{Prod}
use Rattle.step.proofs.Amounts.{negated_is, IsSmall-changes}
use Rattle.step.proofs.Plans.{too_long_lem, not_long, plus_one, Folded, Folded-none, fold_asked, fold_given, rest_is_f, made_none}
use Rattle.step.proofs.plan.plan_prod.Goals as goal
use Rattle.step.proofs.plan.plan_prod.Goals.{After-add, After-add-2, After-add-3, After-product-n, After-sum-m, Else-m-gt64, Else-n-gt64, Start}

abbrev product : goal.Start → List ℕ
product s = product_of s.args.f.now s.args.g.now

abbrev rest : goal.Start → List ℕ
rest s = product_of s.args.f.now (sum_of s.args.g.now ONE)

abbrev ruled : goal.Start → List Line
ruled s = changes [] Prod s.args.f.now s.args.g.now s.args.amount

small : (s : goal.Start) → IsSmall 42 (ruled s)
small s = IsSmall-changes [] Prod s.args.f.now s.args.g.now s.args.amount s.requires.2

-- an amount as the code has it
gained : (s : goal.Start) → to_z w64 (of_z w64 s.args.amount) ≡ s.args.amount
gained s = to_z-of_z s.ranges.amount

lost : (s : goal.Start) → to_z w64 (of_z w64 (pos 0 -ℤ to_z w64 (of_z w64 s.args.amount))) ≡ neg_ℤ s.args.amount
lost s = negated_is s.args.amount s.requires.2 _ (gained s)

-- f g, exact
told_product : (c : goal.After-product-n) → (let k = c.product-n in let p = product (goal.at.After-product-n c).Start in
    (k.result ≡ length p) × (k.result ≤ 64 → take k.result k.new.out ≡ p))
told_product c =
    exact (c.args.f.now ∷ c.args.g.now ∷ []) (product (goal.at.After-product-n c).Start) _ _ _ (c.requires.0.0, (c.requires.1.0, tt)) (c.product-n.ensures.size, c.product-n.ensures.terms)

-- f g, as it is lent
abbrev lent : goal.Else-n-gt64 → List ℕ
lent c = let k = c.product-n in take k.result k.new.out

product_is : (c : goal.Else-n-gt64) → lent c ≡ product (goal.at.Else-n-gt64 c).Start
product_is c = (told_product (goal.at.Else-n-gt64 c).After-product-n).1 c.if-n-gt64.false

-- f g + f, exact, which is f (g + 1)
rest_is : (c : goal.Else-n-gt64) → sum_of (lent c) c.args.f.now ≡ rest (goal.at.Else-n-gt64 c).Start
rest_is c = plus_one c.args.f.now c.args.g.now (lent c) (product_is c)

told_rest : (c : goal.After-sum-m) → (let l = sum_of (lent (goal.at.After-sum-m c).Else-n-gt64) c.args.f.now in let k = c.sum-m in
    (k.result ≡ length l) × (k.result ≤ 64 → take k.result k.new.out ≡ l))
told_rest c =
    exact (lent (goal.at.After-sum-m c).Else-n-gt64 ∷ c.args.f.now ∷ []) (sum_of (lent (goal.at.After-sum-m c).Else-n-gt64) c.args.f.now) _ _ _
    (omega (arith, ap length (product_is (goal.at.After-sum-m c).Else-n-gt64), (told_product (goal.at.After-sum-m c).After-product-n).0, c.if-n-gt64.false), (c.requires.0.0, tt)) (c.sum-m.ensures.size, c.sum-m.ensures.terms)

rest_size : (c : goal.After-sum-m) → c.sum-m.result ≡ length (rest (goal.at.After-sum-m c).Start)
rest_size c = (told_rest c).0 ∙ ap length (rest_is (goal.at.After-sum-m c).Else-n-gt64)

third : (c : goal.Else-m-gt64) → (let k = c.sum-m in take k.result k.new.out ≡ rest (goal.at.Else-m-gt64 c).Start)
third c = (told_rest (goal.at.Else-m-gt64 c).After-sum-m).1 c.if-m-gt64.false ∙ rest_is (goal.at.Else-m-gt64 c).Else-n-gt64

-- both are short: what is there is accepted
fits : (c : goal.Else-m-gt64) → (M : List Line) → (let s = (goal.at.Else-m-gt64 c).Start in M ≡ add_all (ruled s) []
    → accepted M ≡ passing (short (product s) ∷ short (rest s) ∷ []) (accepted (add_all (ruled s) [])))
fits c M e =
    let s = (goal.at.Else-m-gt64 c).Start in
    let o = accepted (add_all (ruled s) []) in
    not_long _ (product s) (told_product (goal.at.Else-m-gt64 c).After-product-n).0 (short (rest s) ∷ []) o c.if-n-gt64.false
    (not_long _ (rest s) (rest_size (goal.at.Else-m-gt64 c).After-sum-m) [] o c.if-m-gt64.false (ap accepted e))

-- where one of them is 0 nothing changes
none : (c : goal.Else-m-gt64) → (let s = (goal.at.Else-m-gt64 c).Start in (length (product s) ≡ 0) ⊎ (length (rest s) ≡ 0) → c.args.changes.now ≡ add_all (ruled s) [])
none c h = c.requires.3 ∙ sym (made_none c.args.f.now c.args.g.now c.args.amount c.requires.0.1 h)

-- the first changes, folded
one : (c : goal.After-add) → Folded (take 1 (ruled (goal.at.After-add c).Start)) c.add.new.self
unfolding negated
one c = let s = (goal.at.After-add c).Start in fold_given (Folded-none c.requires.3) (omega arith) refl (lost s) (small s).0 c.add.ensures

two : (c : goal.After-add-2) → Folded (take 2 (ruled (goal.at.After-add-2 c).Start)) c.add-2.new.self
unfolding negated
two c =
    let s = (goal.at.After-add-2 c).Start in
    fold_given (one (goal.at.After-add-2 c).After-add) (omega arith) (product_is (goal.at.After-add-2 c).Else-n-gt64) (gained s) (small s).1.0 c.add-2.ensures

three : (c : goal.After-add-3) → Folded (ruled (goal.at.After-add-3 c).Start) c.add-3.new.self
unfolding negated
three c =
    let s = (goal.at.After-add-3 c).Start in
    fold_given (two (goal.at.After-add-3 c).After-add-2) (omega arith) (third (goal.at.After-add-3 c).Else-m-gt64) (gained s) (small s).1.1.0 c.add-3.ensures

pub returns-then-m-gt64 : goal.returns-then-m-gt64
returns-then-m-gt64 c =
    let s = (goal.at.returns-then-m-gt64 c).Start in
    let o = accepted (add_all (ruled s) []) in (
      not_long _ (product s) (told_product (goal.at.returns-then-m-gt64 c).After-product-n).0 (short (rest s) ∷ []) o c.if-n-gt64.false
          (too_long_lem c.sum-m.result (rest s) (rest_size (goal.at.returns-then-m-gt64 c).After-sum-m) [] o c.if-m-gt64.true),
      c.requires.3,
    )

-- where f g is 0, f (g + 1) is f, which is short
pub returns-then-n : goal.returns-then-n
returns-then-n c =
    let s = (goal.at.returns-then-n c).Start in
    let o = accepted (add_all (ruled s) []) in
    let e : length (product s) ≡ 0 = sym (told_product (goal.at.returns-then-n c).After-product-n).0 ∙ c.if-n.true in (
      not_long c.product-n.result (product s) (told_product (goal.at.returns-then-n c).After-product-n).0 (short (rest s) ∷ []) o c.if-n-gt64.false
          (not_long (length (rest s)) (rest s) refl [] o (omega (arith, ap length (rest_is_f c.args.f.now c.args.g.now c.requires.0.1 e), c.requires.0.0))
          (ap accepted (c.requires.3 ∙ sym (made_none c.args.f.now c.args.g.now c.args.amount c.requires.0.1 (inl e))))),
      tt,
    )

pub returns-then-m : goal.returns-then-m
returns-then-m c =
    let d = (goal.at.returns-then-m c).Else-m-gt64 in (fits d _ (none d (inr (sym (rest_size (goal.at.returns-then-m c).After-sum-m) ∙ c.if-m.true))), tt)

pub add-requires : goal.add-requires
unfolding negated
add-requires c =
    let s = (goal.at.add-requires c).Start in (omega arith, fold_asked (Folded-none c.requires.3) (omega arith) refl (lost s) (small s).0 c.requires.0.0)

pub add-requires-2 : goal.add-requires-2
unfolding negated
add-requires-2 c =
    let s = (goal.at.add-requires-2 c).Start in
    let e = (told_product (goal.at.add-requires-2 c).After-product-n).0 in
    (omega arith, fold_asked (one (goal.at.add-requires-2 c).After-add) (omega arith) (product_is (goal.at.add-requires-2 c).Else-n-gt64) (gained s) (small s).1.0 (omega (arith, e)))

pub add-requires-3 : goal.add-requires-3
unfolding negated
add-requires-3 c =
    let s = (goal.at.add-requires-3 c).Start in
    let e = rest_size (goal.at.add-requires-3 c).After-sum-m in
    (omega arith, fold_asked (two (goal.at.add-requires-3 c).After-add-2) (omega arith) (third (goal.at.add-requires-3 c).Else-m-gt64) (gained s) (small s).1.1.0 (omega (arith, e)))

pub returns : goal.returns
returns c = (fits (goal.at.returns c).Else-m-gt64 _ (three (goal.at.returns c).After-add-3).holds, tt)
