-- What is found against results; changes that are folded one by one; and what a plan promises of them.
use mathlib.Core.Path.{◌≡◌, refl, sym, ap, subst, ◌∙◌}
use mathlib.Core.Logic.{◌⊎◌, inl, inr}
use mathlib.Core.List.{List, [], ◌∷◌, ◌++◌}
use Prim.Native.Nat.{ℕ, zero, suc, ◌-◌, ◌≤◌, ◌<◌, ◌^◌}
use native.Mathlib.Omega.{arith}
use lib.Dec.{T, leb→le}
use lib.IntN.{ℤ, ◌+ℤ◌}
use lib.ListN.{length, get_or, take, length-take}
use lib.Signed.{mag}
use borrow.Author.Tests.{le-leb, lt-leb}
use Rattle.std.specs.declared.result.Result.{Result}
use Rattle.refusal.specs.Refusal.{too_long}
use Rattle.refusal.specs.Outcome.{Outcome, refused, Test, passing}
use Rattle.refusal.specs.declared.Reason.{Reason}
use Rattle.polynomial.specs.Polynomial.{ZERO, ONE, sum_of, product_of, IsOrdered}
use Rattle.polynomial.specs.PolynomialLaws.{product_plus_one, sum_turned}
use Rattle.configuration.specs.Weight.{in_range}
use Rattle.configuration.specs.Configuration.{Line, line, weight, add, add_all, negated}
use Rattle.configuration.specs.ConfigurationLaws.{all_ordered}
use Rattle.configuration.specs.Limits.{short}
use Rattle.replacement.specs.Passes.{IsSmall}
use Rattle.configuration.specs.WeightLaws.{mag-add}
use Rattle.replacement.specs.PassesLaws.{netted_weight, netted_small}
use Rattle.step.proofs.Added.{all_snoc, IsSmall-snoc, add_short, all_short}
use Rattle.hard.specs.Hard.{hard_at, is_number}
use Rattle.calculus.specs.Calculus.{changes}
use Rattle.calculus.specs.CalculusLaws.{none_changed, rest_whole}
use Rattle.calculus.specs.declared.Rule.{Rule}
use Rattle.calculus.specs.declared.Rule.TheVariants.{Sum, Prod, Hard}
use Rattle.step.specs.Stepping.{HasPlan}
use Rattle.step.proofs.Amounts.{IsSmall-changes}

-- ---- what is found against results, of which the first is l, of n terms, in front of the changes
module _ (n : ℕ) (l : List ℕ) (e : n ≡ length l) (ts : List Test) (o : Outcome (List Line)) where
  pub too_long_lem : 64 < n → refused (too_long n) ≡ passing (short l ∷ ts) o
  too_long_lem h = rw (lt-leb (length l) 64 (omega (arith, e)), e)

  pub not_long : {p : Outcome (List Line)} → n ≤ 64 → p ≡ passing ts o → p ≡ passing (short l ∷ ts) o
  not_long h k = rw (le-leb (length l) 64 (omega (arith, e))) k

-- where they fit, the area has room for them
pub room : (l area : List ℕ) (r : ℕ) → (r ≡ length l) × (r ≤ 64 → take r area ≡ l) → r ≤ 64 → r ≤ length area
room l area r told h = omega (arith, told.0, ap length (told.1 h), length-take r area)

-- f g + f, worked out from f g, is f (g + 1)
pub plus_one : (f g p : List ℕ) → p ≡ product_of f g → sum_of p f ≡ product_of f (sum_of g ONE)
plus_one f g p h = sum_turned f p ∙ ap (sum_of f) h ∙ sym (product_plus_one f g)

-- ---- changes folded one by one
-- M is the changes C, none of them large
pub record Folded (C M : List Line) : Type 0 where
  pub holds : M ≡ add_all C []
  pub small : IsSmall 42 C

pub Folded-none : {M : List Line} → M ≡ [] → Folded [] M
unfolding add_all
Folded-none e = record { holds = e; small = tt }

-- one change more, of f by w, is allowed, and is then there; the code has it as x and v
module _ {C M : List Line} (k : Folded C M) (l : length C < 4) {f x : List ℕ} {w v : ℤ} (ex : x ≡ f) (ev : v ≡ w) (q : mag w < 2 ^ 42) where
  added : add x v M ≡ add f w (add_all C [])
  added = rw (ex, ev, k.holds)

  pub fold_asked : length f ≤ 64 → (length x ≤ 64) × ((mag (weight M x +ℤ v) < 2 ^ 63) × (length (add x v M) ≤ 4))
  fold_asked s =
      let m : mag (weight M x +ℤ v) < 2 ^ 63 =
      rw (ex, ev, k.holds) (omega (arith, mag-add (weight (add_all C []) f) w, netted_weight C (omega arith) k.small f)) in
      (rw ex s, (m, omega (arith, ap length added, add_short f w (add_all C []) (all_ordered C [] tt), all_short C [] tt)))

  pub fold_given : {M' : List Line} → M' ≡ add x v M → Folded (C ++ (line f w ∷ [])) M'
  fold_given h = record { holds = h ∙ added ∙ sym (all_snoc C [] f w); small = IsSmall-snoc 42 C f w k.small q }

-- ---- what a plan promises
-- the plan of h as the only hard polynomial is that of every number that h has
pub named_plan : (H : List (List ℕ)) (i : ℕ) (h f g : List ℕ) (w : ℤ) (told : Result (Unit {0}) Reason) (C : List Line) → h ≡ hard_at H i → HasPlan (h ∷ []) (Hard 1) f g w told C
    → HasPlan H (Hard i) f g w told C
named_plan H i h f g w told C e m = subst (λ (p : List ℕ). HasPlan (p ∷ []) (Hard 1) f g w told C) e m

-- the place of a number, from 0
pub place_of : (H : List (List ℕ)) (i : ℕ) → T (is_number H i) → (1 ≤ i) × (i - 1 < length H) × (get_or H (i - 1) [] ≡ hard_at H i)
place_of H zero k = absurd k
place_of H (suc i) k = let e : suc i - 1 ≡ i = omega arith in (omega arith, omega (arith, leb→le (suc i) (length H) k), ap (λ (j : ℕ). get_or H j []) e)

-- where f g or f (g + 1) has no term nothing changes
no_terms : (l : List ℕ) → length l ≡ 0 → l ≡ ZERO
no_terms [] e = refl
no_terms (t ∷ l) e = let z : ⊥ = omega arith in absurd z

pub rest_is_f : (f g : List ℕ) → IsOrdered f → length (product_of f g) ≡ 0 → product_of f (sum_of g ONE) ≡ f
rest_is_f f g s e = rest_whole f g s (no_terms (product_of f g) e)

pub made_none : (f g : List ℕ) (w : ℤ) → IsOrdered f → (length (product_of f g) ≡ 0) ⊎ (length (product_of f (sum_of g ONE)) ≡ 0) → add_all (changes [] Prod f g w) [] ≡ []
made_none f g w s h = none_changed [] f g w s (go h)
  where
    go : (length (product_of f g) ≡ 0) ⊎ (length (product_of f (sum_of g ONE)) ≡ 0) → (product_of f g ≡ ZERO) ⊎ (product_of f (sum_of g ONE) ≡ ZERO)
    go (inl e) = inl (no_terms (product_of f g) e)
    go (inr e) = inr (no_terms (product_of f (sum_of g ONE)) e)

-- ---- what a replacement by the table asks for, and leaves
few_changes : (H : List (List ℕ)) (r : Rule) (f g : List ℕ) (w : ℤ) → length (changes H r f g w) ≤ 4
unfolding negated
few_changes H Sum f g w = omega arith
few_changes H Prod f g w = omega arith
few_changes H (Hard i) f g w = omega arith

pub IsSmall-folded : (H : List (List ℕ)) (r : Rule) (f g : List ℕ) (w : ℤ) → T (in_range w) → IsSmall 45 (add_all (changes H r f g w) [])
IsSmall-folded H r f g w h = netted_small (changes H r f g w) (few_changes H r f g w) (IsSmall-changes H r f g w h)
