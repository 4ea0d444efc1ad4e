-- What a filing files: the items of its accepted records, in their order; and polynomials as functions of n variables.
use Rattle.std.specs.Prelude.{Bool, true, false, cond, not, ◌&&◌, List, [], ◌∷◌, ℕ, zero, suc, ◌+◌, ◌^◌, T, eqb, length, get_or}
use Rattle.std.specs.Bool.{beq}
use Rattle.polynomial.specs.Polynomial.{eval, clause_of}
use Rattle.record.specs.Letters.{letter_v, letter_m, letter_w, letter_c, letter_h}
use Rattle.record.specs.Record.{number_at, signed_at}
use Rattle.walk.specs.Walk.{Progress, begun, gathered}
use Rattle.problem.specs.Item.{Item, weighted, hard}
use Rattle.problem.specs.Problem.{State, empty, filing}

-- what the record at the progress files: at W the work polynomial and at C the clause's, each at its weight, and at H the work polynomial as a hard one
unfoldable pub entry_of : List ℕ → Progress State → List Item
entry_of s p =
    let kind = get_or s p.at 0 in
    cond (eqb kind letter_v) []
    (cond (eqb kind letter_m) []
    (cond (eqb kind letter_w) (weighted p.state.work (signed_at s (p.at + 1)) ∷ [])
    (cond (eqb kind letter_c) (weighted (clause_of (number_at 4 s (p.at + 1)) (number_at 4 s (p.at + 5))) (signed_at s (p.at + 9)) ∷ [])
    (cond (eqb kind letter_h) (hard p.state.work ∷ [])
    []))))

-- the entries of the accepted records from a progress on, in some number of turns, and those of a filing
abbrev pub entries_from : ℕ → List ℕ → Progress State → List Item
entries_from k s p = gathered filing (λ s p q. entry_of s p) k s p

abbrev pub entries : List ℕ → List Item
entries s = entries_from (length s) s (begun empty)

-- ---- two polynomials are one function of n variables
unfoldable pub agrees_below : ℕ → List ℕ → List ℕ → Bool
agrees_below zero f g = true
agrees_below (suc k) f g = beq (eval f k) (eval g k) && agrees_below k f g

unfoldable pub agrees : ℕ → List ℕ → List ℕ → Bool
agrees n f g = agrees_below (2 ^ n) f g

-- ---- entries in another order: two neighbours may change places unless both are hard, so that the hard ones keep their order
abbrev pub is_hard : Item → Bool
is_hard (weighted f w) = false
is_hard (hard f) = true

pub data Permuted : List Item → List Item → Type 0 where
  itself : (C : List Item) → Permuted C C
  skip : (i : Item) (C D : List Item) → Permuted C D → Permuted (i ∷ C) (i ∷ D)
  swap : (i j : Item) (C : List Item) → T (not (is_hard i && is_hard j)) → Permuted (i ∷ j ∷ C) (j ∷ i ∷ C)
  trans : (C D E : List Item) → Permuted C D → Permuted D E → Permuted C E
