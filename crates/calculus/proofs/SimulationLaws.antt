-- SUM adds nothing to PROD in signed mode (document 02, Ask 11): the three PRODs leave the lines that SUM leaves, and where all three are within their limits so is SUM. Nothing is asked of the
-- lengths of f and g, nor of the order of their terms, so that both hold of those in written order, of any length.
use Rattle.std.specs.Prelude.{◌≡◌, refl, Bool, true, false, ◌&&◌, List, [], ◌∷◌, ◌++◌, ℕ, leb, ℤ, neg_ℤ, length}
use Rattle.std.proofs.Common.{sym, ap, ◌∙◌}
use Rattle.run.specs.F2.{◌⊕◌}
use Rattle.refusal.specs.Tests.{AllPassed}
use Rattle.polynomial.specs.Polynomial.{ONE, eval, sum_of, product_of}
use Rattle.polynomial.specs.PolynomialLaws.{eval_sum, eval_product, eval_one, product_ordered, product_turned, unique_everywhere}
use Rattle.configuration.specs.Weight.{share}
use Rattle.configuration.specs.Configuration.{Line, same, total, weight, add_all, negated, IsInOrder, weights_fit}
use Rattle.configuration.specs.SumLaws.{share_neg, share_add, solve, o, v, ◌⊞◌, ⊟}
use Rattle.configuration.specs.ConfigurationLaws.{same_changes, changes_append}
use Rattle.calculus.specs.Calculus.{changes}
use Rattle.calculus.specs.Simulation.{Application, apply, by_sum, by_prods, applied, AllAccepted}
use Rattle.calculus.specs.Tests.{direct_tests}
use Rattle.calculus.specs.TestsLaws.{direct_decided}
use Rattle.calculus.specs.declared.Rule.TheVariants.{Sum, Prod}
use Rattle.calculus.specs.declared.Mode.TheVariants.{Signed}

-- ---- the conclusions of the PROD of f + g by f
module _ (f g : List ℕ) where
  abbrev f₁ : List ℕ
  f₁ = sum_of f ONE

  abbrev g₁ : List ℕ
  g₁ = sum_of g ONE

  -- (f + g) f is f (g + 1)
  sum_by_first : product_of (sum_of f g) f ≡ product_of f g₁
  sum_by_first = unique_everywhere (product_of (sum_of f g) f) (product_of f g₁) (product_ordered (sum_of f g) f) (product_ordered f g₁)
      (λ α. eval_product (sum_of f g) f α ∙ rw (eval_sum f g α, eval_product f g₁ α, eval_sum g ONE α, eval_one α) (at (eval f α) (eval g α)))
    where
      at : (x y : Bool) → ((x ⊕ y) && x) ≡ (x && (y ⊕ true))
      at true true = refl
      at true false = refl
      at false true = refl
      at false false = refl

  -- (f + g) (f + 1) is g (f + 1)
  sum_by_rest : product_of (sum_of f g) f₁ ≡ product_of g f₁
  sum_by_rest = unique_everywhere (product_of (sum_of f g) f₁) (product_of g f₁) (product_ordered (sum_of f g) f₁) (product_ordered g f₁)
      (λ α. eval_product (sum_of f g) f₁ α ∙ rw (eval_sum f g α, eval_product g f₁ α, eval_sum f ONE α, eval_one α) (at (eval f α) (eval g α)))
    where
      at : (x y : Bool) → ((x ⊕ y) && (x ⊕ true)) ≡ (y && (x ⊕ true))
      at true true = refl
      at true false = refl
      at false y = refl

-- ---- applications, one after the other, as one list of changes
unfoldable changes_of : List (List ℕ) → List Application → List Line
changes_of H [] = []
changes_of H (apply r f g w ∷ more) = changes H r f g w ++ changes_of H more

applied_changes : (H : List (List ℕ)) (s : List Application) (L : List Line) → applied H s L ≡ add_all (changes_of H s) L
unfolding applied changes_of add_all
applied_changes H [] L = refl
applied_changes H (apply r f g w ∷ more) L =
    applied_changes H more (add_all (changes H r f g w) L) ∙ sym (changes_append (changes H r f g w) (changes_of H more) L)

-- SUM and the three PRODs change each weight by the same
same_weights : (H : List (List ℕ)) (f g : List ℕ) (w : ℤ) (p : List ℕ) → weight (changes_of H (by_sum f g w)) p ≡ weight (changes_of H (by_prods f g w)) p
unfolding changes_of total negated
same_weights H f g w p =
    let s : List ℕ → ℤ = λ q. share (same p q) w in
    simp (sum_by_first f g, sum_by_rest f g, product_turned f g, share_neg, share_add)
    (solve (s f ∷ s g ∷ s (sum_of f g) ∷ s (product_of f g) ∷ s (product_of f (sum_of g ONE)) ∷ s (product_of g (sum_of f ONE)) ∷ [])
    (⊟ (v 0) ⊞ (⊟ (v 1) ⊞ (v 3 ⊞ v 3 ⊞ (v 2 ⊞ o))))
    (⊟ (⊟ (v 2)) ⊞ (⊟ (v 4) ⊞ (⊟ (v 5) ⊞ (⊟ (v 0) ⊞ (v 3 ⊞ (v 4 ⊞ (⊟ (v 1) ⊞ (v 3 ⊞ (v 5 ⊞ o))))))))) tt)

-- ---- without limits: any polynomials, any whole number, any configuration, however long and whatever its weights
pub sum_by_prods : (H : List (List ℕ)) (f g : List ℕ) (w : ℤ) (L : List Line) → IsInOrder L → applied H (by_sum f g w) L ≡ applied H (by_prods f g w) L
sum_by_prods H f g w L h =
    applied_changes H (by_sum f g w) L ∙ same_changes (changes_of H (by_sum f g w)) (changes_of H (by_prods f g w)) L h (λ p n. same_weights H f g w p)
    ∙ sym (applied_changes H (by_prods f g w) L)

-- ---- within the limits: SUM passes its tests. Those of f, g and the amount are the second PROD's too; f + g is an operand of the first, f g a conclusion of the second; the lines that result are
-- those of the third.
pub sum_accepted : (H : List (List ℕ)) (f g : List ℕ) (w : ℤ) (n : ℕ) (L : List Line) → IsInOrder L → AllAccepted H n (by_prods f g w) L → AllAccepted H n (by_sum f g w) L
unfolding applied
sum_accepted H f g w n L h a =
    let first : _ = ((direct_decided H Prod Signed (sum_of f g) f (neg_ℤ w) L n).if_taken _ a.0).0 in
    let second : _ = ((direct_decided H Prod Signed f g w _ n).if_taken _ a.1.0).0 in
    let third : _ = ((direct_decided H Prod Signed g f w _ n).if_taken _ a.1.1.0).0 in
    let amount : _ = second.1.1.1.1.1.1.0 in
    let product_short : _ = second.1.1.1.1.1.1.1.1.0 in
    let lines : _ = ap (λ (M : List Line). leb (length M) 128) (sum_by_prods H f g w L h) ∙ third.1.1.1.1.1.1.1.1.1.1.0 in
    let weights : _ = ap weights_fit (sum_by_prods H f g w L h) ∙ third.1.1.1.1.1.1.1.1.1.1.1.0 in
    let passed : AllPassed (direct_tests H Sum Signed f g w n L) =
    (second.0, (second.1.0, (second.1.1.0, (second.1.1.1.0, (refl, (refl, (amount, (refl, (product_short, (first.0, (lines, (weights, tt)))))))))))) in
    ((direct_decided H Sum Signed f g w L n).if_passed passed, tt)
