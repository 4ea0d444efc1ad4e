-- The degree of a derivation: the largest degree of a term met on the way, 0 where none is met. In one configuration, where lines and terms stand in order, the first term
-- of the first line has the largest.
use Rattle.std.specs.Prelude.{◌≡◌, ◌⊎◌, Bool, ℕ, ◌≤◌, ◌<◌, T, ℤ, length}
use Rattle.std.proofs.Math.Path.{refl, ap}
use Rattle.std.proofs.Common.{sym, subst}
use Rattle.std.proofs.Math.Logic.{inl, inr}
use Rattle.std.proofs.Math.Bool.{true, false}
use mathlib.Core.List.{List, [], ◌∷◌}
use native.Mathlib.Omega.{arith}
use Rattle.std.proofs.Math.Dec.{leb, leb→le, nleb→lt}
use Rattle.run.specs.BooleanLaws.{of_true}
use Rattle.run.specs.Run.{After}
use Rattle.term.specs.Term.{degree_of, before}
use Rattle.term.specs.OrderLaws.{Before, before_cases}
use Rattle.polynomial.specs.Polynomial.{order_of, IsOrdered, RunBelow}
use Rattle.polynomial.specs.OrderingLaws.{lead}
use Rattle.std.specs.declared.cmp.Ordering.TheVariants.{Less}
use Rattle.configuration.specs.Configuration.{Line, line, polynomial_of, IsBehind, IsInOrder, Every, is_polynomial, is_configuration}
use Rattle.configuration.specs.ConfigurationLaws.{fit_every}
use Rattle.configuration.specs.LineLaws.{polynomial_run, Every-map, configuration_parts}
use Rattle.walk.specs.Walk.{Progress, begun, gathered}
use Rattle.walk.specs.WalkLaws.{walk_ind}
use Rattle.derivation.specs.Derivation.{State, fresh, checking, largest, degree_in, left_after, on_the_way, derivation_degree, check_derivation}
use Rattle.derivation.proofs.DerivationLaws.{check_lines}

-- ---- the largest of a list
-- a member has a property
abbrev pub Some : {A : Type 0} → (A → Type 0) → List A → Type 0
Some P [] = ⊥
Some P (x ∷ l) = P x ⊎ Some P l

Some-map : {A : Type 0} (P Q : A → Type 0) → ((x : A) → P x → Q x) → (l : List A) → Some P l → Some Q l
Some-map P Q h [] m = absurd m
Some-map P Q h (x ∷ l) (inl p) = inl (h x p)
Some-map P Q h (x ∷ l) (inr m) = inr (Some-map P Q h l m)

module _ {A : Type 0} (h : A → ℕ) where
  -- it is at least d, above 0, exactly where a member's number is
  Some-largest : (d : ℕ) (l : List A) → Some (λ x. d ≤ h x) l → d ≤ largest h l
  unfolding largest
  Some-largest d [] m = absurd m
  Some-largest d (x ∷ l) (inl p) = omega (arith, p)
  Some-largest d (x ∷ l) (inr m) = omega (arith, Some-largest d l m)

  largest_some : (d : ℕ) (l : List A) → 0 < d → d ≤ largest h l → Some (λ x. d ≤ h x) l
  unfolding largest
  largest_some d [] p q = let z : ⊥ = omega arith in absurd z
  largest_some d (x ∷ l) p q = go (leb d (h x)) refl (λ k. largest_some d l p k)
    where
      go : (b : Bool) → leb d (h x) ≡ b → (d ≤ largest h l → Some (λ y. d ≤ h y) l) → Some (λ y. d ≤ h y) (x ∷ l)
      go true e rest = inl (leb→le d (h x) (of_true e))
      go false e rest = inr (rest (omega (arith, nleb→lt d (h x) (rw e tt))))

  -- one of at least one member has it
  largest_reached : (x : A) (l : List A) → Some (λ y. h y ≡ largest h (x ∷ l)) (x ∷ l)
  unfolding largest
  largest_reached x [] = inl (omega arith)
  largest_reached x (z ∷ l) = go (leb (largest h (z ∷ l)) (h x)) refl (largest_reached z l)
    where
      go : (b : Bool) → leb (largest h (z ∷ l)) (h x) ≡ b → Some (λ y. h y ≡ largest h (z ∷ l)) (z ∷ l) → Some (λ y. h y ≡ largest h (x ∷ z ∷ l)) (x ∷ z ∷ l)
      go true e m = inl (omega (arith, leb→le (largest h (z ∷ l)) (h x) (of_true e)))
      go false e m = inr (Some-map (λ y. h y ≡ largest h (z ∷ l)) (λ y. h y ≡ largest h (x ∷ z ∷ l))
          (λ y d. omega (arith, d, nleb→lt (largest h (z ∷ l)) (h x) (rw e tt))) (z ∷ l) m)

-- ---- on the way
-- the largest degree that is met after a progress, in some number of turns
abbrev pub degree_ahead : ℕ → List (List ℕ) → ℕ → List ℕ → Progress State → ℕ
degree_ahead n H k s p = largest degree_in (gathered (checking n H) left_after k s p)

-- some term in some of the configurations has a property
abbrev pub Met : (ℕ → Type 0) → List (List Line) → Type 0
Met P way = Some (λ L. Some (λ l. Some P (polynomial_of l)) L) way

module _ (s : List ℕ) (n : ℕ) (H : List (List ℕ)) (L : List Line) where
  -- the degree is at least d, above 0, exactly where a term of at least that degree is met
  pub Met-degree : (d : ℕ) → Met (λ t. d ≤ degree_of t) (on_the_way s n H L) → d ≤ derivation_degree s n H L
  unfolding derivation_degree degree_in
  Met-degree d m =
      Some-largest degree_in d (on_the_way s n H L) (Some-map _ (λ M. d ≤ degree_in M)
      (λ M k. Some-largest _ d M (Some-map _ (λ l. d ≤ largest degree_of (polynomial_of l)) (λ l i. Some-largest degree_of d (polynomial_of l) i) M k)) (on_the_way s n H L) m)

  pub degree_met : (d : ℕ) → 0 < d → d ≤ derivation_degree s n H L → Met (λ t. d ≤ degree_of t) (on_the_way s n H L)
  unfolding derivation_degree degree_in
  degree_met d p h =
      Some-map (λ M. d ≤ degree_in M) _
      (λ M k. Some-map (λ l. d ≤ largest degree_of (polynomial_of l)) _ (λ l i. largest_some degree_of d (polynomial_of l) p i) M (largest_some _ d M p k))
      (on_the_way s n H L) (largest_some degree_in d (on_the_way s n H L) p h)

  -- it is at least that of each configuration on the way: at the start, at the end
  pub degree_each : (M : List Line) → Some (λ N. N ≡ M) (on_the_way s n H L) → degree_in M ≤ derivation_degree s n H L
  unfolding derivation_degree
  degree_each M m = Some-largest degree_in (degree_in M) (on_the_way s n H L)
      (Some-map (λ N. N ≡ M) (λ N. degree_in M ≤ degree_in N) (λ N e. omega (arith, ap degree_in e)) (on_the_way s n H L) m)

  pub degree_start : degree_in L ≤ derivation_degree s n H L
  degree_start = degree_each L (inl refl)

  pub degree_end : degree_in (check_derivation s n H L).lines ≤ derivation_degree s n H L
  degree_end = degree_each (check_derivation s n H L).lines (subst (λ (M : List Line). Some (λ N. N ≡ M) (on_the_way s n H L)) (sym (check_lines s n H L))
      (walk_ind (checking n H) left_after (λ p F C. Some (λ N. N ≡ F.reached.state.lines) (p.state.lines ∷ C)) s
      (λ p. inl refl) (λ p k e. inl refl) (λ p q F C e rest. inr rest) (length s) (begun (fresh L))))

  -- one of them has it
  pub degree_reached : Some (λ M. degree_in M ≡ derivation_degree s n H L) (on_the_way s n H L)
  unfolding derivation_degree
  degree_reached = largest_reached degree_in L (gathered (checking n H) left_after (length s) s (begun (fresh L)))

-- ---- in one configuration the first term of the first line has the largest
before_degree : (t u : ℕ) → T (before t u) → degree_of u ≤ degree_of t
before_degree t u h = go (before_cases t u h)
  where
    go : Before t u → degree_of u ≤ degree_of t
    go (inl l) = omega arith
    go (inr e) = omega (arith, e.0)

After-degree : (t : ℕ) (f : List ℕ) → After before t f → largest degree_of f ≤ degree_of t
unfolding largest
After-degree t [] a = omega arith
After-degree t (u ∷ f) a = omega (arith, before_degree t u a.0, After-degree t f a.1)

head_degree : (t : ℕ) (f : List ℕ) → IsOrdered (t ∷ f) → largest degree_of (t ∷ f) ≡ degree_of t
unfolding largest
head_degree t f h = omega (arith, After-degree t f h.0)

earlier_degree : (t : ℕ) (f g : List ℕ) → IsOrdered g → order_of (t ∷ f) g ≡ Less → largest degree_of g ≤ degree_of t
unfolding largest
earlier_degree t f [] h e = omega arith
earlier_degree t f (u ∷ g) h e = omega (arith, head_degree u g h, go (lead t u f g e))
  where
    go : T (before t u) ⊎ ((t ≡ u) × (order_of f g ≡ Less)) → degree_of u ≤ degree_of t
    go (inl b) = before_degree t u b
    go (inr d) = omega (arith, ap degree_of d.0)

IsBehind-degree : (t : ℕ) (f : List ℕ) (L : List Line) → Every IsOrdered L → IsBehind (t ∷ f) L → degree_in L ≤ degree_of t
unfolding degree_in largest
IsBehind-degree t f [] e b = omega arith
IsBehind-degree t f (line g u ∷ L) e b = omega (arith, earlier_degree t f g e.0 b.0, IsBehind-degree t f L e.1 b.1)

pub degree_first : (t : ℕ) (f : List ℕ) (w : ℤ) (L : List Line) → IsInOrder (line (t ∷ f) w ∷ L) → Every IsOrdered (line (t ∷ f) w ∷ L)
    → degree_in (line (t ∷ f) w ∷ L) ≡ degree_of t
unfolding degree_in largest
degree_first t f w L h e = omega (arith, head_degree t f e.0, IsBehind-degree t f L e.1 h.1.1.0)

-- each line of a configuration has terms of 32 variables, in order
pub lines_run : (n : ℕ) (L : List Line) → T (is_configuration n L) → Every (RunBelow 32) L
lines_run n L c =
    let k : _ = configuration_parts n L c in
    Every-map (λ f. T (is_polynomial n f)) (RunBelow 32) (λ f. polynomial_run n 32 f k.variables) L (fit_every n L k.fit)
