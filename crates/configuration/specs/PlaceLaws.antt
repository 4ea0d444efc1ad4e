-- What code uses to fold a weighted polynomial f into an ordered configuration L: the place k = place_of f L, how a search by halving finds it, what
-- folding in does there, and how the number of lines and the range of the weights change. "Line i is of g" is said by `get_or L i d ≡ line g u`.
use Rattle.std.specs.Prelude.{◌≡◌, ◌⊎◌, Bool, not, cond, ◌&&◌, ℤ, pos, ◌+ℤ◌, get_or, take}
use Rattle.std.proofs.Math.Path.{refl}
use Rattle.std.proofs.Common.{ap, ◌∙◌, subst, inl, inr, T_not, drop-cons}
use Rattle.std.proofs.Math.Bool.{true, false}
use mathlib.Core.List.{List, [], ◌∷◌, ◌++◌}
use Prim.Native.Nat.{ℕ, zero, suc, ◌+◌, ◌≤◌, ◌<◌}
use Rattle.std.proofs.Math.Nat.{le_of_suc-le-suc}
use native.Mathlib.Omega.{arith}
use Rattle.std.proofs.Math.Dec.{T}
use Rattle.std.proofs.Math.IntN.{+ℤ_idl, +ℤ_idr}
use Rattle.std.proofs.Math.ListN.{length, drop}
use Rattle.std.proofs.Math.Seq.{drop-length}
use Rattle.run.specs.BooleanLaws.{bool_ext, is_false, of_true, both, left, right}
use Rattle.polynomial.specs.Polynomial.{order_of}
use Rattle.polynomial.specs.OrderingLaws.{order_self, order_same, order_trans}
use Rattle.std.specs.declared.cmp.Ordering.{Ordering}
use Rattle.std.specs.declared.cmp.Ordering.TheVariants.{Less, Equal, Greater}
use Rattle.configuration.specs.Weight.{in_range, is_zero, share}
use Rattle.configuration.specs.Configuration.{Line, line, some, by_order, same, total, weight, keep, fold, add, add_all, IsBehind, IsInOrder, place_of, weights_fit}
use Rattle.configuration.specs.ConfigurationLaws.{order_ind, order_later, order_earlier, same_is, weight-add, weight_all, IsBehind-trans, add_ordered, all_ordered, weight_behind, weight_head}

-- ---- the place
pub place_le : (f : List ℕ) (L : List Line) → place_of f L ≤ length L
unfolding place_of
place_le f [] = omega arith
place_le f (line g u ∷ L) = order_ind (order_of f g) (λ (k : ℕ). k ≤ suc (length L)) (λ h. omega arith) (λ h. omega arith) (λ h. omega (arith, place_le f L))

pub add-fold : (f : List ℕ) (w : ℤ) (L : List Line) → T (some f) → add f w L ≡ fold f w L
unfolding add
add-fold [] w L n = absurd n
add-fold (t ∷ f) w L n = refl

-- the lines before the place stay, and have no part in the weight
fold_at : (f : List ℕ) (w : ℤ) (L : List Line) → fold f w L ≡ take (place_of f L) L ++ fold f w (drop (place_of f L) L)
unfolding place_of fold
fold_at f w [] = refl
fold_at f w (line g u ∷ L) = go (order_of f g) refl (fold_at f w L)
  where
    go : (c : Ordering) → order_of f g ≡ c → fold f w L ≡ take (place_of f L) L ++ fold f w (drop (place_of f L) L)
        → fold f w (line g u ∷ L) ≡ take (place_of f (line g u ∷ L)) (line g u ∷ L) ++ fold f w (drop (place_of f (line g u ∷ L)) (line g u ∷ L))
    go Less e r = rw (e, e)
    go Equal e r = rw (e, e)
    go Greater e r = rw e (ap (λ (M : List Line). line g u ∷ M) r)

weight_at : (f : List ℕ) (L : List Line) → weight L f ≡ weight (drop (place_of f L) L) f
unfolding place_of total
weight_at f [] = refl
weight_at f (line g u ∷ L) = order_ind (order_of f g) (λ (k : ℕ). weight (line g u ∷ L) f ≡ weight (drop k (line g u ∷ L)) f)
    (λ e. refl)
    (λ e. refl)
    (λ e. rw e (+ℤ_idl (weight L f) ∙ weight_at f L))

ordered_drop : (k : ℕ) (L : List Line) → IsInOrder L → IsInOrder (drop k L)
ordered_drop zero L r = r
ordered_drop (suc k) [] r = tt
ordered_drop (suc k) (line g u ∷ L) r = ordered_drop k L r.1.1.1

-- the place is not the end: its line is the first of the rest
drop_place : (f : List ℕ) (L : List Line) (x d : Line) → place_of f L < length L → get_or L (place_of f L) d ≡ x
    → drop (place_of f L) L ≡ x ∷ drop (suc (place_of f L)) L
drop_place f L x d l e = drop-cons L (place_of f L) d l ∙ ap (λ (y : Line). y ∷ drop (suc (place_of f L)) L) e

drop_ordered : (f : List ℕ) (L : List Line) (x d : Line) → IsInOrder L → place_of f L < length L → get_or L (place_of f L) d ≡ x
    → IsInOrder (x ∷ drop (suc (place_of f L)) L)
drop_ordered f L x d r l e = subst IsInOrder (drop_place f L x d l e) (ordered_drop (place_of f L) L r)

-- ---- line k is of f
pub fold_held : (f : List ℕ) (w : ℤ) (L : List Line) (u : ℤ) (d : Line) → T (some f) → place_of f L < length L → get_or L (place_of f L) d ≡ line f u
    → add f w L ≡ take (place_of f L) L ++ keep f (u +ℤ w) (drop (suc (place_of f L)) L)
unfolding fold
fold_held f w L u d n l e =
    add-fold f w L n ∙ fold_at f w L ∙ ap (λ (M : List Line). take (place_of f L) L ++ fold f w M) (drop_place f L (line f u) d l e) ∙ rw (order_self f)

pub weight_held : (f : List ℕ) (L : List Line) (u : ℤ) (d : Line) → IsInOrder L → place_of f L < length L → get_or L (place_of f L) d ≡ line f u → weight L f ≡ u
weight_held f L u d r l e = weight_at f L ∙ ap (λ (M : List Line). weight M f) (drop_place f L (line f u) d l e)
    ∙ weight_head f u (drop (suc (place_of f L)) L) (drop_ordered f L (line f u) d r l e).1.1.0

-- ---- no line is of f: k is the end, or line k is of a polynomial g that f stands before
abbrev pub IsFresh : List ℕ → List Line → List ℕ → ℤ → Line → Type 0
IsFresh f L g u d = (place_of f L ≡ length L) ⊎ ((place_of f L < length L) × ((get_or L (place_of f L) d ≡ line g u) × (order_of f g ≡ Less)))

module _ (f : List ℕ) (L : List Line) (g : List ℕ) (u : ℤ) (d : Line) where
  fold_fresh : (w : ℤ) → IsFresh f L g u d → fold f w (drop (place_of f L) L) ≡ keep f w (drop (place_of f L) L)
  unfolding fold
  fold_fresh w (inl q) = rw (q, drop-length L)
  fold_fresh w (inr q) = rw (drop_place f L (line g u) d q.0 q.1.0, q.1.1)

  weight_fresh : IsInOrder L → IsFresh f L g u d → weight (drop (place_of f L) L) f ≡ pos 0
  unfolding total
  weight_fresh r (inl q) = rw (q, drop-length L)
  weight_fresh r (inr q) = rw (drop_place f L (line g u) d q.0 q.1.0) (weight_behind f (line g u ∷ drop (suc (place_of f L)) L)
      (q.1.1, IsBehind-trans f g (drop (suc (place_of f L)) L) q.1.1 (drop_ordered f L (line g u) d r q.0 q.1.0).1.1.0))

pub fold_new : (f : List ℕ) (w : ℤ) (L : List Line) (g : List ℕ) (u : ℤ) (d : Line) → T (some f) → IsFresh f L g u d
    → add f w L ≡ take (place_of f L) L ++ keep f w (drop (place_of f L) L)
fold_new f w L g u d n q = add-fold f w L n ∙ fold_at f w L ∙ ap (λ (M : List Line). take (place_of f L) L ++ M) (fold_fresh f L g u d w q)

pub weight_new : (f : List ℕ) (L : List Line) (g : List ℕ) (u : ℤ) (d : Line) → IsInOrder L → IsFresh f L g u d → weight L f ≡ pos 0
weight_new f L g u d r q = weight_at f L ∙ weight_fresh f L g u d r q

-- ---- a search by halving: line i is of g
IsBehind-at : (f g : List ℕ) (u : ℤ) (d : Line) (i : ℕ) (L : List Line) → IsBehind f L → i < length L → get_or L i d ≡ line g u → order_of f g ≡ Less
IsBehind-at f g u d i [] b l e = let z : ⊥ = omega arith in absurd z
IsBehind-at f g u d zero (line p w ∷ L) b l e = cc b.0
IsBehind-at f g u d (suc i) (line p w ∷ L) b l e = IsBehind-at f g u d i L b.1 (le_of_suc-le-suc l) e

module _ (f g : List ℕ) (u : ℤ) (d : Line) where
  pub earlier_right : (i : ℕ) (L : List Line) → IsInOrder L → i < length L → get_or L i d ≡ line g u → order_of f g ≡ Greater → i < place_of f L
  unfolding place_of
  earlier_right i [] r l e h = let z : ⊥ = omega arith in absurd z
  earlier_right zero (line p w ∷ L) r l e h = let k : order_of f p ≡ Greater = cc in rw k (omega arith)
  earlier_right (suc i) (line p w ∷ L) r l e h =
      let m : i < length L = le_of_suc-le-suc l in
      let k : order_of f p ≡ Greater = order_earlier p f (order_trans p g f (IsBehind-at p g u d i L r.1.1.0 m e) (order_later f g h)) in
      rw k (omega (arith, earlier_right i L r.1.1.1 m e h))

  pub earlier_left : (i : ℕ) (L : List Line) → i < length L → get_or L i d ≡ line g u → order_of f g ≡ Less → place_of f L ≤ i
  unfolding place_of
  earlier_left i [] l e h = let z : ⊥ = omega arith in absurd z
  earlier_left zero (line p w ∷ L) l e h = let k : order_of f p ≡ Less = cc in rw k (omega arith)
  earlier_left (suc i) (line p w ∷ L) l e h = order_ind (order_of f p) (λ (k : ℕ). k ≤ suc i)
      (λ k. omega arith) (λ k. omega arith) (λ k. omega (arith, earlier_left i L (le_of_suc-le-suc l) e h))

  pub same_here : (i : ℕ) (L : List Line) → IsInOrder L → i < length L → get_or L i d ≡ line g u → order_of f g ≡ Equal → place_of f L ≡ i
  unfolding place_of
  same_here i [] r l e h = let z : ⊥ = omega arith in absurd z
  same_here zero (line p w ∷ L) r l e h = let k : order_of f p ≡ Equal = cc in rw k
  same_here (suc i) (line p w ∷ L) r l e h =
      let m : i < length L = le_of_suc-le-suc l in
      let k : order_of f p ≡ Greater = order_earlier p f (rw (order_same f g h) (IsBehind-at p g u d i L r.1.1.0 m e)) in
      rw k (ap suc (same_here i L r.1.1.1 m e h))

-- ---- the number of lines
abbrev pub to_nat : Bool → ℕ
to_nat true = 1
to_nat false = 0

length-keep : (f : List ℕ) (w : ℤ) (L : List Line) → length (keep f w L) ≡ length L + to_nat (not (is_zero w))
length-keep f w L = go (is_zero w)
  where
    go : (b : Bool) → length (cond b L (line f w ∷ L)) ≡ length L + to_nat (not b)
    go true = omega arith
    go false = omega arith

-- a polynomial that is not that of the first line has its weight in the others
weight_skip : (p f : List ℕ) (w : ℤ) (L : List Line) → same p f ≡ false → weight (line f w ∷ L) p ≡ weight L p
unfolding total
weight_skip p f w L e = ap (λ (b : Bool). share b w +ℤ weight L p) e ∙ +ℤ_idl (weight L p)

fold_grown : (f : List ℕ) (w : ℤ) (L : List Line) → IsInOrder L
    → length (fold f w L) + to_nat (not (is_zero (weight L f))) ≡ length L + to_nat (not (is_zero (weight L f +ℤ w)))
unfolding fold
fold_grown f w [] r = rw (weight_behind f [] tt, +ℤ_idl w) (omega (arith, length-keep f w []))
fold_grown f w (line g u ∷ L) r = go (order_of f g) refl (fold_grown f w L r.1.1.1)
  where
    go : (c : Ordering) → order_of f g ≡ c
        → length (fold f w L) + to_nat (not (is_zero (weight L f))) ≡ length L + to_nat (not (is_zero (weight L f +ℤ w)))
        → length (fold f w (line g u ∷ L)) + to_nat (not (is_zero (weight (line g u ∷ L) f)))
        ≡ length (line g u ∷ L) + to_nat (not (is_zero (weight (line g u ∷ L) f +ℤ w)))
    go Less e k = rw (weight_behind f (line g u ∷ L) (e, IsBehind-trans f g L e r.1.1.0), e, +ℤ_idl w) (omega (arith, length-keep f w (line g u ∷ L)))
    go Equal e k = rw (order_same f g e, weight_head g u L r.1.1.0, order_self g, is_false (is_zero u) (T_not (is_zero u) r.1.0)) (omega (arith, length-keep g (u +ℤ w) L))
    go Greater e k = rw (weight_skip f g u L (ap (λ (c : Ordering). by_order c false true false) e), e) (omega arith)

pub grown : (f : List ℕ) (w : ℤ) (L : List Line) → T (some f) → IsInOrder L
    → length (add f w L) + to_nat (not (is_zero (weight L f))) ≡ length L + to_nat (not (is_zero (weight L f +ℤ w)))
grown f w L n r = rw (add-fold f w L n) (fold_grown f w L r)

-- adding one polynomial leaves the weight of another
pub weight_other : (p f : List ℕ) (w : ℤ) (L : List Line) → T (some p) → same p f ≡ false → weight (add f w L) p ≡ weight L p
weight_other p f w L n e = weight-add p n f w L ∙ ap (λ (b : Bool). weight L p +ℤ share b w) e ∙ +ℤ_idr (weight L p)

pub not_same : (f g : List ℕ) → order_of f g ≡ Less → same g f ≡ false
not_same f g e = rw (order_earlier f g e)

-- how many polynomials of N are held by L, and how many would be held if each were folded in alone
unfoldable pub lost : List Line → List Line → ℕ
lost [] L = 0
lost (line f w ∷ N) L = to_nat (not (is_zero (weight L f))) + lost N L

unfoldable pub gained : List Line → List Line → ℕ
gained [] L = 0
gained (line f w ∷ N) L = to_nat (not (is_zero (weight L f +ℤ w))) + gained N L

lost-add : (f : List ℕ) (w : ℤ) (N L : List Line) → IsBehind f N → IsInOrder N → lost N (add f w L) ≡ lost N L
unfolding lost
lost-add f w [] L b s = refl
lost-add f w (line g u ∷ N) L b s = rw (weight_other g f w L s.0 (not_same f g b.0), lost-add f w N L b.1 s.1.1.1)

gained-add : (f : List ℕ) (w : ℤ) (N L : List Line) → IsBehind f N → IsInOrder N → gained N (add f w L) ≡ gained N L
unfolding gained
gained-add f w [] L b s = refl
gained-add f w (line g u ∷ N) L b s = rw (weight_other g f w L s.0 (not_same f g b.0), gained-add f w N L b.1 s.1.1.1)

pub length_all : (N L : List Line) → IsInOrder N → IsInOrder L → length (add_all N L) + lost N L ≡ length L + gained N L
unfolding add_all lost gained
length_all [] L s r = refl
length_all (line f w ∷ N) L s r = omega (
  arith,
  grown f w L s.0 r,
  length_all N (add f w L) s.1.1.1 (add_ordered f w L r),
  lost-add f w N L s.1.1.0 s.1.1.1,
  gained-add f w N L s.1.1.0 s.1.1.1,
)

-- ---- the range of the weights
-- a test that the weight 0 passes holds of every line where it holds of every polynomial with its weight
unfoldable every_line : (List ℕ → ℤ → Bool) → List Line → Bool
every_line R [] = true
every_line R (line f w ∷ L) = R f w && every_line R L

module _ (R : List ℕ → ℤ → Bool) (none : (p : List ℕ) → T (R p (pos 0))) where
  lines_weights : (L : List Line) → IsInOrder L → T (every_line R L) → (p : List ℕ) → T (R p (weight L p))
  unfolding every_line
  lines_weights [] r h p = rw (weight_behind p [] tt) (none p)
  lines_weights (line f w ∷ L) r h p = go (order_of p f) refl (lines_weights L r.1.1.1 (right (R f w) (every_line R L) h) p)
    where
      go : (c : Ordering) → order_of p f ≡ c → T (R p (weight L p)) → T (R p (weight (line f w ∷ L) p))
      go Less e k = rw (weight_behind p (line f w ∷ L) (e, IsBehind-trans p f L e r.1.1.0)) (none p)
      go Equal e k = rw (order_same p f e, weight_head f w L r.1.1.0) (left (R f w) (every_line R L) h)
      go Greater e k = rw (weight_skip p f w L (not_same f p (order_later p f e))) k

  weights_lines : (L : List Line) → IsInOrder L → ((p : List ℕ) → T (some p) → T (R p (weight L p))) → T (every_line R L)
  unfolding every_line
  weights_lines [] r h = tt
  weights_lines (line f w ∷ L) r h = both (R f w) (every_line R L) (rw (weight_head f w L r.1.1.0) at (h f r.0))
      (weights_lines L r.1.1.1 (λ p n. go p n (same p f) refl))
    where
      go : (p : List ℕ) → T (some p) → (b : Bool) → same p f ≡ b → T (R p (weight L p))
      go p n true e = rw (same_is p f (of_true e), weight_behind f L r.1.1.0) (none f)
      go p n false e = rw (weight_skip p f w L e) at (h p n)

fit_lines : (L : List Line) → weights_fit L ≡ every_line (λ f w. in_range w) L
unfolding weights_fit every_line
fit_lines [] = refl
fit_lines (line f w ∷ L) = ap (λ (b : Bool). in_range w && b) (fit_lines L)

-- the weights are in range where the weight of every polynomial is
pub fit_weight : (L : List Line) → IsInOrder L → T (weights_fit L) → (p : List ℕ) → T (in_range (weight L p))
fit_weight L r h p = lines_weights (λ f w. in_range w) (λ q. tt) L r (rw (fit_lines L) at h) p

pub weight_fit : (L : List Line) → IsInOrder L → ((p : List ℕ) → T (some p) → T (in_range (weight L p))) → T (weights_fit L)
weight_fit L r h = rw (fit_lines L) (weights_lines (λ f w. in_range w) (λ q. tt) L r h)

-- the outcome of every polynomial of N, folded into L, is in range
unfoldable pub outcomes_fit : List Line → List Line → Bool
outcomes_fit [] L = true
outcomes_fit (line f w ∷ N) L = in_range (weight L f +ℤ w) && outcomes_fit N L

outcome_lines : (N L : List Line) → outcomes_fit N L ≡ every_line (λ f w. in_range (weight L f +ℤ w)) N
unfolding outcomes_fit every_line
outcome_lines [] L = refl
outcome_lines (line f w ∷ N) L = ap (λ (b : Bool). in_range (weight L f +ℤ w) && b) (outcome_lines N L)

pub weights_all : (N L : List Line) → IsInOrder N → IsInOrder L → T (weights_fit L) → weights_fit (add_all N L) ≡ outcomes_fit N L
weights_all N L s r h = bool_ext (weights_fit (add_all N L)) (outcomes_fit N L)
    (λ k. rw (outcome_lines N L) (weights_lines (λ f w. in_range (weight L f +ℤ w)) none N s
    (λ p n. rw (weight_all p n N L) at (fit_weight (add_all N L) (all_ordered N L r) k p))))
    (λ k. weight_fit (add_all N L) (all_ordered N L r)
    (λ p n. rw (weight_all p n N L) (lines_weights (λ f w. in_range (weight L f +ℤ w)) none N s (rw (outcome_lines N L) at k) p)))
  where
    none : (p : List ℕ) → T (in_range (weight L p +ℤ pos 0))
    none p = rw (+ℤ_idr (weight L p)) (fit_weight L r h p)
