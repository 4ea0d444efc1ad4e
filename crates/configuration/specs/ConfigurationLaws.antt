-- Laws of configurations: sums over their lines, their order, that they are determined by the weights, what every line has, and the bound.
use Rattle.std.specs.Prelude.{◌≡◌, Bool, ◌&&◌, ℕ, suc, ◌+◌, ◌-◌, T, ltb, ℤ, pos, negsuc, ◌+ℤ◌, neg_ℤ, ◌≤ℤ◌}
use Rattle.std.proofs.Math.Path.{refl, sym, ap, ap₂}
use Rattle.std.proofs.Common.{◌∙◌, true≢false, arith, le→leb}
use Rattle.std.proofs.Math.Bool.{true, false, not}
use mathlib.Core.List.{List, [], ◌∷◌, ◌++◌}
use Rattle.std.proofs.Math.IntN.{+ℤ_assoc, +ℤ_comm, +ℤ_idl, +ℤ_idr, neg_ℤ-+ℤ}
use Rattle.std.specs.Int.Signed.{le_z, le_z_yes}
use Rattle.run.specs.BooleanLaws.{of_true, both, left, right, cond_ind}
use Rattle.polynomial.specs.Polynomial.{ONE, eval, order_of}
use Rattle.polynomial.specs.PolynomialLaws.{eval_one}
use Rattle.polynomial.specs.OrderingLaws.{flip, order_flip, order_self, order_same, order_trans}
use Rattle.std.specs.declared.cmp.Ordering.{Ordering}
use Rattle.std.specs.declared.cmp.Ordering.TheVariants.{Less, Equal, Greater}
use Rattle.configuration.specs.Weight.{is_zero, share}
use Rattle.configuration.specs.Configuration.{Line, line, some, by_order, same, total, cost, weight, keep, fold, add, add_all, negated, IsBehind, IsInOrder, Every, is_polynomial, line_fits, lines_fit, any_negative}
use Rattle.configuration.specs.SumLaws.{zero_is, zero_not, share_zero, share_add, share_neg, +ℤ_inj, solve, o, v, ◌⊞◌}

-- ---- cases by the order of two polynomials
pub order_ind : {A : Type 0} (c : Ordering) {x y z : A} (P : A → Type 0) → (c ≡ Less → P x) → (c ≡ Equal → P y) → (c ≡ Greater → P z) → P (by_order c x y z)
order_ind Less P a b d = a refl
order_ind Equal P a b d = b refl
order_ind Greater P a b d = d refl

pub order_later : (f g : List ℕ) → order_of f g ≡ Greater → order_of g f ≡ Less
order_later f g h = order_flip f g ∙ ap flip h

pub order_earlier : (f g : List ℕ) → order_of f g ≡ Less → order_of g f ≡ Greater
order_earlier f g h = order_flip f g ∙ ap flip h

earlier_is : (c : Ordering) → T (by_order c true false false) → c ≡ Less
earlier_is Less h = refl
earlier_is Equal h = absurd h
earlier_is Greater h = absurd h

same_only : (c : Ordering) → T (by_order c false true false) → c ≡ Equal
same_only Less h = absurd h
same_only Equal h = refl
same_only Greater h = absurd h

pub same_is : (f g : List ℕ) → T (same f g) → f ≡ g
same_is f g h = order_same f g (same_only (order_of f g) h)

pub same_self : (f : List ℕ) → same f f ≡ true
same_self f = rw (order_self f)

-- a polynomial that is not 0 is not the same as 0
pub same_none : (p : List ℕ) → T (some p) → same p [] ≡ false
unfolding order_of
same_none [] n = absurd n
same_none (t ∷ p) n = refl

-- ---- sums over the lines
module _ (test : List ℕ → Bool) where
  total-keep : (f : List ℕ) (w : ℤ) (L : List Line) → total test (keep f w L) ≡ share (test f) w +ℤ total test L
  unfolding total
  total-keep f w L = cond_ind (is_zero w) (λ (z : List Line). total test z ≡ share (test f) w +ℤ total test L)
      (λ h. rw (zero_is w h, share_zero (test f)) (sym (+ℤ_idl (total test L))))
      (λ h. refl)

  total-fold : (f : List ℕ) (w : ℤ) (L : List Line) → total test (fold f w L) ≡ total test L +ℤ share (test f) w
  unfolding fold total
  total-fold f w [] = total-keep f w [] ∙ +ℤ_comm (share (test f) w) (pos 0)
  total-fold f w (line g u ∷ L) = order_ind (order_of f g) (λ (z : List Line). total test z ≡ share (test g) u +ℤ total test L +ℤ share (test f) w)
      (λ h. total-keep f w (line g u ∷ L) ∙ +ℤ_comm (share (test f) w) (share (test g) u +ℤ total test L))
      (λ h. total-keep g (u +ℤ w) L ∙ rw (share_add (test g) u w, order_same f g h)
      (solve (share (test g) u ∷ share (test g) w ∷ total test L ∷ []) (v 0 ⊞ v 1 ⊞ v 2) (v 0 ⊞ v 2 ⊞ v 1) tt))
      (λ h. ap (λ (z : ℤ). share (test g) u +ℤ z) (total-fold f w L) ∙ sym (+ℤ_assoc (share (test g) u) (total test L) (share (test f) w)))

  pub total-add : test [] ≡ false → (f : List ℕ) (w : ℤ) (L : List Line) → total test (add f w L) ≡ total test L +ℤ share (test f) w
  unfolding add
  total-add e [] w L = rw e (sym (+ℤ_idr (total test L)))
  total-add e (t ∷ f) w L = total-fold (t ∷ f) w L

  pub total_all : test [] ≡ false → (C L : List Line) → total test (add_all C L) ≡ total test L +ℤ total test C
  unfolding add_all total
  total_all e [] L = sym (+ℤ_idr (total test L))
  total_all e (line f w ∷ C) L =
      total_all e C (add f w L) ∙ ap (λ (z : ℤ). z +ℤ total test C) (total-add e f w L) ∙ +ℤ_assoc (total test L) (share (test f) w) (total test C)

  pub total-negated : (C : List Line) → total test (negated C) ≡ neg_ℤ (total test C)
  unfolding negated total
  total-negated [] = refl
  total-negated (line f w ∷ C) = ap₂ (λ (y z : ℤ). y +ℤ z) (share_neg (test f) w) (total-negated C) ∙ sym (neg_ℤ-+ℤ (share (test f) w) (total test C))

  pub total-append : (C L : List Line) → total test (C ++ L) ≡ total test C +ℤ total test L
  unfolding total
  total-append [] L = sym (+ℤ_idl (total test L))
  total-append (line f w ∷ C) L = ap (λ (z : ℤ). share (test f) w +ℤ z) (total-append C L) ∙ sym (+ℤ_assoc (share (test f) w) (total test C) (total test L))

-- ---- costs and weights
pub cost-add : (f : List ℕ) (w : ℤ) (L : List Line) (α : ℕ) → cost (add f w L) α ≡ cost L α +ℤ share (eval f α) w
unfolding eval
cost-add f w L α = total-add (λ g. eval g α) refl f w L

pub cost_all : (C L : List Line) (α : ℕ) → cost (add_all C L) α ≡ cost L α +ℤ cost C α
unfolding eval
cost_all C L α = total_all (λ g. eval g α) refl C L

pub weight-add : (p : List ℕ) → T (some p) → (f : List ℕ) (w : ℤ) (L : List Line) → weight (add f w L) p ≡ weight L p +ℤ share (same p f) w
weight-add p n f w L = total-add (same p) (same_none p n) f w L

pub weight_all : (p : List ℕ) → T (some p) → (C L : List Line) → weight (add_all C L) p ≡ weight L p +ℤ weight C p
weight_all p n C L = total_all (same p) (same_none p n) C L

-- ---- every line
module _ (P : List ℕ → Type 0) where
  keep_every : (f : List ℕ) (w : ℤ) (L : List Line) → P f → Every P L → Every P (keep f w L)
  keep_every f w L h e = cond_ind (is_zero w) (Every P) (λ z. e) (λ z. (h, e))

  fold_every : (f : List ℕ) (w : ℤ) (L : List Line) → P f → Every P L → Every P (fold f w L)
  unfolding fold
  fold_every f w [] h e = keep_every f w [] h tt
  fold_every f w (line g u ∷ L) h e = order_ind (order_of f g) (Every P)
      (λ k. keep_every f w (line g u ∷ L) h e)
      (λ k. keep_every g (u +ℤ w) L e.0 e.1)
      (λ k. (e.0, fold_every f w L h e.1))

  pub add_every : (f : List ℕ) (w : ℤ) (L : List Line) → P f → Every P L → Every P (add f w L)
  unfolding add
  add_every [] w L h e = e
  add_every (t ∷ f) w L h e = fold_every (t ∷ f) w L h e

  pub all_every : (C L : List Line) → Every P C → Every P L → Every P (add_all C L)
  unfolding add_all
  all_every [] L c e = e
  all_every (line f w ∷ C) L c e = all_every C (add f w L) c.1 (add_every f w L c.0 e)

-- standing before every line, as a fact of each
pub IsBehind-every : (f : List ℕ) (L : List Line) → IsBehind f L → Every (λ g. order_of f g ≡ Less) L
IsBehind-every f [] b = tt
IsBehind-every f (line g u ∷ L) b = (b.0, IsBehind-every f L b.1)

pub Every-behind : (f : List ℕ) (L : List Line) → Every (λ g. order_of f g ≡ Less) L → IsBehind f L
Every-behind f [] e = tt
Every-behind f (line g u ∷ L) e = (e.0, Every-behind f L e.1)

-- ---- order
pub IsBehind-trans : (f g : List ℕ) (L : List Line) → order_of f g ≡ Less → IsBehind g L → IsBehind f L
IsBehind-trans f g [] h b = tt
IsBehind-trans f g (line p u ∷ L) h b = (order_trans f g p h b.0, IsBehind-trans f g L h b.1)

keep_ordered : (f : List ℕ) (w : ℤ) (L : List Line) → T (some f) → IsBehind f L → IsInOrder L → IsInOrder (keep f w L)
keep_ordered f w L n b r = cond_ind (is_zero w) IsInOrder (λ z. r) (λ z. (n, (z, (b, r))))

fold_ordered : (f : List ℕ) (w : ℤ) (L : List Line) → T (some f) → IsInOrder L → IsInOrder (fold f w L)
unfolding fold
fold_ordered f w [] n r = keep_ordered f w [] n tt tt
fold_ordered f w (line g u ∷ L) n r = order_ind (order_of f g) IsInOrder
    (λ k. keep_ordered f w (line g u ∷ L) n (k, IsBehind-trans f g L k r.1.1.0) r)
    (λ k. keep_ordered g (u +ℤ w) L r.0 r.1.1.0 r.1.1.1)
    (λ k. (
      r.0,
      (
        r.1.0,
        (
          Every-behind g (fold f w L) (fold_every (λ p. order_of g p ≡ Less) f w L (order_later f g k) (IsBehind-every g L r.1.1.0)),
          fold_ordered f w L n r.1.1.1,
        ),
      ),
    ))

pub add_ordered : (f : List ℕ) (w : ℤ) (L : List Line) → IsInOrder L → IsInOrder (add f w L)
unfolding add
add_ordered [] w L r = r
add_ordered (t ∷ f) w L r = fold_ordered (t ∷ f) w L tt r

pub all_ordered : (C L : List Line) → IsInOrder L → IsInOrder (add_all C L)
unfolding add_all
all_ordered [] L r = r
all_ordered (line f w ∷ C) L r = all_ordered C (add f w L) (add_ordered f w L r)

-- ---- the weights determine a configuration
pub weight_behind : (p : List ℕ) (L : List Line) → IsBehind p L → weight L p ≡ pos 0
unfolding total
weight_behind p [] b = refl
weight_behind p (line g u ∷ L) b = rw (b.0, weight_behind p L b.1)

pub weight_head : (f : List ℕ) (w : ℤ) (L : List Line) → IsBehind f L → weight (line f w ∷ L) f ≡ w
unfolding total
weight_head f w L b = rw (order_self f, weight_behind f L b) (+ℤ_idr w)

pub unique : (L M : List Line) → IsInOrder L → IsInOrder M → ((p : List ℕ) → T (some p) → weight L p ≡ weight M p) → L ≡ M
unfolding total
unique [] [] r s h = refl
unique [] (line g u ∷ M) r s h = absurd (zero_not u s.1.0 (sym (weight_head g u M s.1.1.0) ∙ sym (h g s.0)))
unique (line f w ∷ L) [] r s h = absurd (zero_not w r.1.0 (sym (weight_head f w L r.1.1.0) ∙ h f r.0))
unique (line f w ∷ L) (line g u ∷ M) r s h = go (order_of f g) refl (λ k. unique L M r.1.1.1 s.1.1.1 k)
  where
    go : (c : Ordering) → order_of f g ≡ c → (((p : List ℕ) → T (some p) → weight L p ≡ weight M p) → L ≡ M) → line f w ∷ L ≡ line g u ∷ M
    go Less k rest = absurd (zero_not w r.1.0 (sym (weight_head f w L r.1.1.0) ∙ h f r.0
        ∙ weight_behind f (line g u ∷ M) (k, IsBehind-trans f g M k s.1.1.0)))
    go Greater k rest = absurd (zero_not u s.1.0 (sym (weight_head g u M s.1.1.0) ∙ sym (h g s.0)
        ∙ weight_behind g (line f w ∷ L) (order_later f g k, IsBehind-trans g f L (order_later f g k) r.1.1.0)))
    go Equal k rest =
        let e : f ≡ g = order_same f g k in
        let d : w ≡ u = sym (weight_head f w L r.1.1.0) ∙ h f r.0 ∙ ap (weight (line g u ∷ M)) e ∙ weight_head g u M s.1.1.0 in
        ap₂ (λ (x : Line) (y : List Line). x ∷ y) (ap₂ line e d)
        (rest (λ p n. +ℤ_inj (share (same p f) w) (weight L p) (weight M p) (h p n ∙ rw (e, d))))

-- the order of two additions does not matter
pub add_comm : (f g : List ℕ) (u w : ℤ) (L : List Line) → IsInOrder L → add f u (add g w L) ≡ add g w (add f u L)
add_comm f g u w L r = unique (add f u (add g w L)) (add g w (add f u L))
    (add_ordered f u (add g w L) (add_ordered g w L r)) (add_ordered g w (add f u L) (add_ordered f u L r))
    (λ p n. weight-add p n f u (add g w L) ∙ ap (λ (z : ℤ). z +ℤ share (same p f) u) (weight-add p n g w L)
    ∙ solve (weight L p ∷ share (same p f) u ∷ share (same p g) w ∷ []) (v 0 ⊞ v 2 ⊞ v 1) (v 0 ⊞ v 1 ⊞ v 2) tt
    ∙ sym (weight-add p n g w (add f u L) ∙ ap (λ (z : ℤ). z +ℤ share (same p g) w) (weight-add p n f u L)))

-- two lists of changes that give each polynomial the same weight make the same lines
pub same_changes : (C D L : List Line) → IsInOrder L → ((p : List ℕ) → T (some p) → weight C p ≡ weight D p) → add_all C L ≡ add_all D L
same_changes C D L r h = unique (add_all C L) (add_all D L) (all_ordered C L r) (all_ordered D L r)
    (λ p n. weight_all p n C L ∙ ap (λ (z : ℤ). weight L p +ℤ z) (h p n) ∙ sym (weight_all p n D L))

-- folding the changes among themselves first changes nothing
pub netted : (C L : List Line) → IsInOrder L → add_all (add_all C []) L ≡ add_all C L
unfolding total
netted C L r = same_changes (add_all C []) C L r (λ p n. weight_all p n C [] ∙ +ℤ_idl (weight C p))

-- changes one list after the other
pub changes_append : (C D L : List Line) → add_all (C ++ D) L ≡ add_all D (add_all C L)
unfolding add_all
changes_append [] D L = refl
changes_append (line f w ∷ C) D L = changes_append C D (add f w L)

-- ---- the test of the lines
module _ (n : ℕ) where
  fits_some : (f : List ℕ) (w : ℤ) → T (line_fits n (line f w)) → T (some f)
  unfolding line_fits
  fits_some f w h = left (some f) (is_polynomial n f && not (is_zero w)) h

  fits_polynomial : (f : List ℕ) (w : ℤ) → T (line_fits n (line f w)) → T (is_polynomial n f)
  unfolding line_fits
  fits_polynomial f w h = left (is_polynomial n f) (not (is_zero w)) (right (some f) (is_polynomial n f && not (is_zero w)) h)

  fits_weight : (f : List ℕ) (w : ℤ) → T (line_fits n (line f w)) → T (not (is_zero w))
  unfolding line_fits
  fits_weight f w h = right (is_polynomial n f) (not (is_zero w)) (right (some f) (is_polynomial n f && not (is_zero w)) h)

  line_fits_lem : (f : List ℕ) (w : ℤ) → T (some f) → T (is_polynomial n f) → T (not (is_zero w)) → T (line_fits n (line f w))
  unfolding line_fits
  line_fits_lem f w s p z = both (some f) (is_polynomial n f && not (is_zero w)) s (both (is_polynomial n f) (not (is_zero w)) p z)

  pub fit_head : (l : Line) (L : List Line) → T (lines_fit n (l ∷ L)) → T (line_fits n l)
  unfolding lines_fit
  fit_head l [] h = h
  fit_head (line f w) (line g u ∷ L) h = left (line_fits n (line f w)) (by_order (order_of f g) true false false && lines_fit n (line g u ∷ L)) h

  pub fit_tail : (l : Line) (L : List Line) → T (lines_fit n (l ∷ L)) → T (lines_fit n L)
  unfolding lines_fit
  fit_tail l [] h = tt
  fit_tail (line f w) (line g u ∷ L) h = right (by_order (order_of f g) true false false) (lines_fit n (line g u ∷ L))
      (right (line_fits n (line f w)) (by_order (order_of f g) true false false && lines_fit n (line g u ∷ L)) h)

  fit_next : (f g : List ℕ) (w u : ℤ) (L : List Line) → T (lines_fit n (line f w ∷ line g u ∷ L)) → order_of f g ≡ Less
  unfolding lines_fit
  fit_next f g w u L h = earlier_is (order_of f g) (left (by_order (order_of f g) true false false) (lines_fit n (line g u ∷ L))
      (right (line_fits n (line f w)) (by_order (order_of f g) true false false && lines_fit n (line g u ∷ L)) h))

  pub fit_ordered : (L : List Line) → T (lines_fit n L) → IsInOrder L
  fit_ordered [] h = tt
  fit_ordered (line f w ∷ L) h =
      let q : T (line_fits n (line f w)) = fit_head (line f w) L h in
      (fits_some f w q, (fits_weight f w q, (next L h (fit_ordered L (fit_tail (line f w) L h)), fit_ordered L (fit_tail (line f w) L h))))
    where
      next : (L : List Line) → T (lines_fit n (line f w ∷ L)) → IsInOrder L → IsBehind f L
      next [] h r = tt
      next (line g u ∷ L) h r = (fit_next f g w u L h, IsBehind-trans f g L (fit_next f g w u L h) r.1.1.0)

  pub fit_every : (L : List Line) → T (lines_fit n L) → Every (λ f. T (is_polynomial n f)) L
  fit_every [] h = tt
  fit_every (line f w ∷ L) h = (fits_polynomial f w (fit_head (line f w) L h), fit_every L (fit_tail (line f w) L h))

  pub fits : (L : List Line) → IsInOrder L → Every (λ f. T (is_polynomial n f)) L → T (lines_fit n L)
  unfolding lines_fit
  fits [] r e = tt
  fits (line f w ∷ []) r e = line_fits_lem f w r.0 e.0 r.1.0
  fits (line f w ∷ line g u ∷ L) r e = both (line_fits n (line f w)) (by_order (order_of f g) true false false && lines_fit n (line g u ∷ L))
      (line_fits_lem f w r.0 e.0 r.1.0)
      (rw r.1.1.0.0 (fits (line g u ∷ L) r.1.1.1 e.1))

  pub all_fit : (C L : List Line) → Every (λ f. T (is_polynomial n f)) C → T (lines_fit n L) → T (lines_fit n (add_all C L))
  all_fit C L c h = fits (add_all C L) (all_ordered C L (fit_ordered L h)) (all_every (λ f. T (is_polynomial n f)) C L c (fit_every L h))

-- ---- the bound: without negative weights no cost is below the weight of the polynomial 1
one_value : (f : List ℕ) (α : ℕ) → T (same ONE f) → eval f α ≡ true
one_value f α h = ap (λ (g : List ℕ). eval g α) (sym (same_is ONE f h)) ∙ eval_one α

surplus : (L : List Line) (α : ℕ) → any_negative L ≡ false → (n : ℕ) × (cost L α ≡ weight L ONE +ℤ pos n)
unfolding total any_negative
surplus [] α h = (0, refl)
surplus (line f (negsuc k) ∷ L) α h = absurd (true≢false h)
surplus (line f (pos k) ∷ L) α h = go (surplus L α h) (same ONE f) refl (eval f α) refl
  where
    go : (n : ℕ) × (cost L α ≡ weight L ONE +ℤ pos n) → (b : Bool) → same ONE f ≡ b → (x : Bool) → eval f α ≡ x
        → (n : ℕ) × (share x (pos k) +ℤ cost L α ≡ share b (pos k) +ℤ weight L ONE +ℤ pos n)
    go r true e false d = absurd (true≢false (sym (one_value f α (of_true e)) ∙ d))
    go r true e true d = (r.0, rw r.1 (sym (+ℤ_assoc (pos k) (weight L ONE) (pos r.0))))
    go r false e true d = (k + r.0, rw r.1 (solve (weight L ONE ∷ pos k ∷ pos r.0 ∷ []) (v 1 ⊞ (v 0 ⊞ v 2)) (o ⊞ v 0 ⊞ (v 1 ⊞ v 2)) tt))
    go r false e false d = (r.0, rw r.1 (sym (+ℤ_assoc (pos 0) (weight L ONE) (pos r.0))))

pub le_add : (a : ℤ) (n : ℕ) → a ≤ℤ (a +ℤ pos n)
le_add (pos a) n = le_z_yes (le→leb a (a + n) (omega arith))
le_add (negsuc a) n = le_z_yes (cond_ind (ltb n (suc a)) (λ (z : ℤ). T (le_z (negsuc a) z)) (λ h. le→leb (suc a - suc n) a (omega arith)) (λ h. tt))

pub bound : (L : List Line) (α : ℕ) → any_negative L ≡ false → weight L ONE ≤ℤ cost L α
bound L α h = rw (surplus L α h).1 (le_add (weight L ONE) (surplus L α h).0)
