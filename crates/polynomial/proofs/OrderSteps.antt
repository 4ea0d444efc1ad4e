-- The steps of a comparison of two runs of terms.
use mathlib.Core.Path.{◌≡◌, refl, sym, ap₂, ◌∙◌}
use mathlib.Core.Bool.{Bool, true, false, cond}
use mathlib.Core.List.{List, [], ◌∷◌}
use Prim.Native.Nat.{ℕ, zero, suc, ◌+◌, ◌<◌, min}
use Prim.Native.Nat.compare
use native.Mathlib.Numerals.{add-one, unary_clauses}
use native.Mathlib.Omega.{arith}
use lib.ListN.{length, get_or, drop}
use lib.Seq.{drop-cons}
use borrow.Author.Tests.{ne_eqb}
use Rattle.std.specs.List.{AllAdjacentBelow, IsAllAdjacentAnswer}
use Rattle.std.specs.Ordering.{nat_cmp}
use Rattle.std.specs.Cmp.{nat_cmp_is}
use Rattle.std.proofs.Math.Bool.{and-false}
use Rattle.run.specs.Run.{sorted}
use Rattle.term.specs.Term.{before}
use Rattle.polynomial.specs.OrderingLaws.{order_rest}
use Rattle.polynomial.specs.Polynomial.{order_of}
use Rattle.std.specs.declared.cmp.Ordering.TheVariants.{Less, Greater}

-- both runs have a term at i
module _ (f g : List ℕ) (i a b : ℕ) (inside : i < length f) (within : i < length g) (a_is : a ≡ get_or f i 0) (b_is : b ≡ get_or g i 0) where
  both : order_of (drop i f) (drop i g) ≡ order_of (a ∷ drop (i + 1) f) (b ∷ drop (i + 1) g)
  both = rw (a_is, b_is, add-one i) (ap₂ order_of (drop-cons f i 0 inside) (drop-cons g i 0 within))

  -- it is the same
  pub same_term : a ≡ b → order_of (drop (i + 1) f) (drop (i + 1) g) ≡ order_of (drop i f) (drop i g)
  same_term e = sym (both ∙ order_rest a b (drop (i + 1) f) (drop (i + 1) g) e)

  -- they differ
  pub other_term : (o : Bool) → (a ≡ b → ⊥) → before a b ≡ o → order_of (drop i f) (drop i g) ≡ cond o Less Greater
  unfolding order_of
  other_term o n e = both ∙ simp (ne_eqb a b n, e)

-- the shorter of two runs has ended, or both have
pub ended : (f g : List ℕ) → order_of (drop (min (length f) (length g)) f) (drop (min (length f) (length g)) g) ≡ nat_cmp (length f) (length g)
unfolding order_of
ended [] [] = refl
ended [] (u ∷ g) = simp unary_clauses (nat_cmp_is 0 (suc (length g)) Less (omega arith))
ended (t ∷ f) [] = simp unary_clauses (nat_cmp_is (suc (length f)) 0 Greater (omega arith))
ended (t ∷ f) (u ∷ g) = simp (unary_clauses, compare.suc-suc) (ended f g)

-- ---- a test of neighbours, pair by pair
module _ (first : ℕ → ℕ → Bool) where
  every_pair : (l : List ℕ) → AllAdjacentBelow (λ x y. true ≡ first x y) l (length l) → true ≡ sorted first l
  unfolding sorted
  every_pair [] h = refl
  every_pair (t ∷ []) h = refl
  every_pair (t ∷ u ∷ f) h = rw (sym (h 0 0 (omega arith))) (every_pair (u ∷ f) (λ k d m. simp unary_clauses (simp unary_clauses at (h (suc k) d (omega arith)))))

  broken_pair : (l : List ℕ) (k : ℕ) → k + 1 < length l → ((d : ℕ) → false ≡ first (get_or l k d) (get_or l (k + 1) d)) → false ≡ sorted first l
  unfolding sorted
  broken_pair [] k m h = absurd (omega arith)
  broken_pair (t ∷ []) k m h = absurd (omega arith)
  broken_pair (t ∷ u ∷ f) zero m h = rw (sym (h 0)) refl
  broken_pair (t ∷ u ∷ f) (suc k) m h = rw (sym (broken_pair (u ∷ f) k (omega arith) (λ d. simp unary_clauses (simp unary_clauses at (h d))))) (sym (and-false (first t u)))

  pub sorted_pairs : (l : List ℕ) (r : Bool) → IsAllAdjacentAnswer (λ x y b. b ≡ first x y) l r → r ≡ sorted first l
  sorted_pairs l true h = every_pair l h
  sorted_pairs l false h = broken_pair l h.0 h.1 h.2
