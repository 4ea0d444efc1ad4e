-- Laws of items: what one that is taken in makes, and that many make the folded sum of the weighted ones and the list of the hard ones.
use Rattle.std.specs.Prelude.{◌≡◌, refl, Bool, true, false, ℕ, ◌≤◌, ◌<◌, T, leb, ltb, ℤ, length}
use Rattle.std.proofs.Common.{sym, ap, ◌∙◌, leb→le, ltb→lt}
use mathlib.Core.List.{List, [], ◌∷◌, ◌++◌, append-nil, append_assoc}
use Rattle.refusal.specs.Refusal.{Refusal, numbered}
use Rattle.refusal.specs.Outcome.{Outcome, accepted, refused, unless, mapped}
use Rattle.configuration.specs.Configuration.{Line, line, add, add_all, weights_fit}
use Rattle.configuration.specs.Limits.{within}
use Rattle.problem.specs.Item.{Item, weighted, hard, Holding, take_in, weighted_items, hard_items}

-- ---- what an item makes where no limit stops it, and what many make
abbrev pub joined : Item → Holding → Holding
joined (weighted f w) x = record { lines = add f w x.lines; hard = x.hard }
joined (hard f) x = record { lines = x.lines; hard = x.hard ++ (f ∷ []) }

unfoldable pub joined_all : List Item → Holding → Holding
joined_all [] x = x
joined_all (i ∷ C) x = joined_all C (joined i x)

-- ---- one item: what holds of every refusal, and of what it makes within the limits, holds of taking it in
module _ (P : Outcome Holding → Type 0) (f : List ℕ) (x : Holding) (nay : (r : Refusal) → P (refused r)) where
  pub weighted_ind : (w : ℤ) → (length (add f w x.lines) ≤ 128 → T (weights_fit (add f w x.lines)) → P (accepted (joined (weighted f w) x))) → P (take_in (weighted f w) x)
  unfolding within
  weighted_ind w yea = go (leb (length L) 128) (weights_fit L) (λ a b. yea (leb→le (length L) 128 a) b)
    where
      L : List Line
      L = add f w x.lines

      go : (a b : Bool) → (T a → T b → P (accepted (joined (weighted f w) x)))
          → P (mapped (λ (L : List Line). record { lines = L; hard = x.hard }) (unless a 10 (unless b 11 (accepted L))))
      go true true k = k tt tt
      go true false k = nay (numbered 11)
      go false b k = nay (numbered 10)

  pub hard_ind : (length x.hard < 16 → P (accepted (joined (hard f) x))) → P (take_in (hard f) x)
  hard_ind yea = go (ltb (length x.hard) 16) (λ b. yea (ltb→lt (length x.hard) 16 b))
    where
      go : (b : Bool) → (T b → P (accepted (joined (hard f) x))) → P (unless b 18 (accepted (joined (hard f) x)))
      go true k = k tt
      go false k = nay (numbered 18)

-- ---- many items
pub joined_append : (C D : List Item) (x : Holding) → joined_all (C ++ D) x ≡ joined_all D (joined_all C x)
unfolding joined_all
joined_append [] D x = refl
joined_append (i ∷ C) D x = joined_append C D (joined i x)

-- the lines are the folded sum of the weighted items, and the hard ones follow those that were there
pub joined_all_lem : (C : List Item) (x : Holding) → joined_all C x ≡ record { lines = add_all (weighted_items C) x.lines; hard = x.hard ++ hard_items C }
unfolding joined_all weighted_items hard_items add_all
joined_all_lem [] x = ap (λ (H : List (List ℕ)). record { lines = x.lines; hard = H }) (sym (append-nil x.hard))
joined_all_lem (weighted f w ∷ C) x = joined_all_lem C (joined (weighted f w) x)
joined_all_lem (hard f ∷ C) x =
    joined_all_lem C (joined (hard f) x)
    ∙ ap (λ (H : List (List ℕ)). record { lines = add_all (weighted_items C) x.lines; hard = H }) (append_assoc x.hard (f ∷ []) (hard_items C))

pub weighted_append : (C D : List Item) → weighted_items (C ++ D) ≡ weighted_items C ++ weighted_items D
unfolding weighted_items
weighted_append [] D = refl
weighted_append (weighted f w ∷ C) D = ap (λ (L : List Line). line f w ∷ L) (weighted_append C D)
weighted_append (hard f ∷ C) D = weighted_append C D
