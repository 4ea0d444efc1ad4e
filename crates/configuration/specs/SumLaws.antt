-- Sums of weights: what the whole numbers lack, and equations of sums by reflection: `solve (a ∷ b ∷ []) (v 0 ⊞ v 1) (v 1 ⊞ v 0) tt` proves
-- a +ℤ b ≡ b +ℤ a.
use Rattle.std.specs.Prelude.{◌≡◌, refl, Bool, true, false, not, ◌&&◌, List, [], ◌∷◌, ℕ, zero, suc, T, get_or, ℤ, pos, negsuc, ◌+ℤ◌, ◌-ℤ◌, ◌*ℤ◌, neg_ℤ}
use Rattle.std.proofs.Common.{sym, ap, ap₂, ◌∙◌, subst, T_not}
use Rattle.std.proofs.Math.IntN.{+ℤ_assoc, +ℤ_comm, +ℤ_idl, +ℤ_idr, +ℤ_invr, +ℤ_invl, neg_ℤ-+ℤ, neg_ℤ-neg_ℤ, +ℤ-suc_ℤ, +ℤ-pred_ℤ, suc_ℤ-*ℤ, pred_ℤ-*ℤ, zero-*ℤ, -ℤ-+ℤ_cancel}
use Rattle.run.specs.BooleanLaws.{left, right}
use Rattle.configuration.specs.Weight.{is_zero, share}

-- ---- zero
pub zero_is : (w : ℤ) → T (is_zero w) → w ≡ pos 0
zero_is (pos zero) h = refl
zero_is (pos (suc n)) h = absurd h
zero_is (negsuc n) h = absurd h

pub zero_not : (w : ℤ) → T (not (is_zero w)) → w ≡ pos 0 → ⊥
zero_not w h e = T_not (is_zero w) h (subst (λ (z : ℤ). T (is_zero z)) (sym e) tt)

-- ---- shares
pub share_zero : (b : Bool) → share b (pos 0) ≡ pos 0
share_zero true = refl
share_zero false = refl

pub share_add : (b : Bool) (u w : ℤ) → share b (u +ℤ w) ≡ share b u +ℤ share b w
share_add true u w = refl
share_add false u w = refl

pub share_neg : (b : Bool) (w : ℤ) → share b (neg_ℤ w) ≡ neg_ℤ (share b w)
share_neg true w = refl
share_neg false w = refl

-- ---- equal sums
-- equal where the difference is 0
same_of : (a b : ℤ) → a +ℤ neg_ℤ b ≡ pos 0 → a ≡ b
same_of a b e = sym (-ℤ-+ℤ_cancel a b) ∙ ap (λ (z : ℤ). z +ℤ b) e ∙ +ℤ_idl b

neg_of : (a b : ℤ) → a +ℤ b ≡ pos 0 → b ≡ neg_ℤ a
neg_of a b e = same_of b (neg_ℤ a) (ap (λ (z : ℤ). b +ℤ z) (neg_ℤ-neg_ℤ a) ∙ +ℤ_comm b a ∙ e)

+ℤ_undo : (a b : ℤ) → neg_ℤ a +ℤ (a +ℤ b) ≡ b
+ℤ_undo a b = sym (+ℤ_assoc (neg_ℤ a) a b) ∙ ap (λ (z : ℤ). z +ℤ b) (+ℤ_invl a) ∙ +ℤ_idl b

pub +ℤ_inj : (a b c : ℤ) → a +ℤ b ≡ a +ℤ c → b ≡ c
+ℤ_inj a b c e = sym (+ℤ_undo a b) ∙ ap (λ (z : ℤ). neg_ℤ a +ℤ z) e ∙ +ℤ_undo a c

+ℤ_left : (a b c : ℤ) → a +ℤ (b +ℤ c) ≡ b +ℤ (a +ℤ c)
+ℤ_left a b c = sym (+ℤ_assoc a b c) ∙ ap (λ (z : ℤ). z +ℤ c) (+ℤ_comm a b) ∙ +ℤ_assoc b a c

+ℤ_cross : (a b c d : ℤ) → a +ℤ b +ℤ (c +ℤ d) ≡ a +ℤ c +ℤ (b +ℤ d)
+ℤ_cross a b c d = +ℤ_assoc a b (c +ℤ d) ∙ ap (λ (z : ℤ). a +ℤ z) (+ℤ_left b c d) ∙ sym (+ℤ_assoc a c (b +ℤ d))

-- ---- products of a sum and of a negation
*ℤ_add : (c d x : ℤ) → (c +ℤ d) *ℤ x ≡ c *ℤ x +ℤ d *ℤ x
*ℤ_add c (pos zero) x = rw (+ℤ_idr c, zero-*ℤ x) (sym (+ℤ_idr (c *ℤ x)))
*ℤ_add c (pos (suc n)) x =
    ap (λ (z : ℤ). z *ℤ x) (+ℤ-suc_ℤ c (pos n)) ∙ suc_ℤ-*ℤ (c +ℤ pos n) x ∙ ap (λ (z : ℤ). z +ℤ x) (*ℤ_add c (pos n) x)
    ∙ +ℤ_assoc (c *ℤ x) (pos n *ℤ x) x ∙ ap (λ (z : ℤ). c *ℤ x +ℤ z) (sym (suc_ℤ-*ℤ (pos n) x))
*ℤ_add c (negsuc zero) x =
    ap (λ (z : ℤ). z *ℤ x) (+ℤ-pred_ℤ c (pos zero)) ∙ pred_ℤ-*ℤ (c +ℤ pos zero) x ∙ ap (λ (z : ℤ). z *ℤ x -ℤ x) (+ℤ_idr c)
    ∙ ap (λ (z : ℤ). c *ℤ x +ℤ z) (sym (pred_ℤ-*ℤ (pos zero) x ∙ rw (zero-*ℤ x) (+ℤ_idl (neg_ℤ x))))
*ℤ_add c (negsuc (suc n)) x =
    ap (λ (z : ℤ). z *ℤ x) (+ℤ-pred_ℤ c (negsuc n)) ∙ pred_ℤ-*ℤ (c +ℤ negsuc n) x ∙ ap (λ (z : ℤ). z -ℤ x) (*ℤ_add c (negsuc n) x)
    ∙ +ℤ_assoc (c *ℤ x) (negsuc n *ℤ x) (neg_ℤ x) ∙ ap (λ (z : ℤ). c *ℤ x +ℤ z) (sym (pred_ℤ-*ℤ (negsuc n) x))

*ℤ_neg : (c x : ℤ) → neg_ℤ c *ℤ x ≡ neg_ℤ (c *ℤ x)
*ℤ_neg c x = neg_of (c *ℤ x) (neg_ℤ c *ℤ x) (sym (*ℤ_add c (neg_ℤ c) x) ∙ ap (λ (z : ℤ). z *ℤ x) (+ℤ_invr c) ∙ zero-*ℤ x)

*ℤ_unit : (x : ℤ) → pos 1 *ℤ x ≡ x
*ℤ_unit x = suc_ℤ-*ℤ (pos 0) x ∙ ap (λ (z : ℤ). z +ℤ x) (zero-*ℤ x) ∙ +ℤ_idl x

-- ---- expressions: 0, a number of the list, a sum, a negation
infixl 60 ◌⊞◌
pub data Sum : Type 0 where
  o : Sum
  v : ℕ → Sum
  ◌⊞◌ : Sum → Sum → Sum
  ⊟ : Sum → Sum

abbrev pub denote : List ℤ → Sum → ℤ
denote xs o = pos 0
denote xs (v i) = get_or xs i (pos 0)
denote xs (a ⊞ b) = denote xs a +ℤ denote xs b
denote xs (⊟ a) = neg_ℤ (denote xs a)

-- how often each number of the list comes in an expression
abbrev plus : List ℤ → List ℤ → List ℤ
plus [] ds = ds
plus (c ∷ cs) [] = c ∷ cs
plus (c ∷ cs) (d ∷ ds) = (c +ℤ d) ∷ plus cs ds

abbrev minus : List ℤ → List ℤ
minus [] = []
minus (c ∷ cs) = neg_ℤ c ∷ minus cs

abbrev once : ℕ → List ℤ
once zero = pos 1 ∷ []
once (suc i) = pos 0 ∷ once i

abbrev pub coefficients_of : Sum → List ℤ
coefficients_of o = []
coefficients_of (v i) = once i
coefficients_of (a ⊞ b) = plus (coefficients_of a) (coefficients_of b)
coefficients_of (⊟ a) = minus (coefficients_of a)

abbrev pub nought : List ℤ → Bool
nought [] = true
nought (c ∷ cs) = is_zero c && nought cs

-- the coefficients determine the value
abbrev dot : List ℤ → List ℤ → ℤ
dot [] xs = pos 0
dot (c ∷ cs) [] = pos 0
dot (c ∷ cs) (x ∷ xs) = c *ℤ x +ℤ dot cs xs

dot-plus : (cs ds xs : List ℤ) → dot (plus cs ds) xs ≡ dot cs xs +ℤ dot ds xs
dot-plus [] ds xs = sym (+ℤ_idl (dot ds xs))
dot-plus (c ∷ cs) [] xs = sym (+ℤ_idr (dot (c ∷ cs) xs))
dot-plus (c ∷ cs) (d ∷ ds) [] = refl
dot-plus (c ∷ cs) (d ∷ ds) (x ∷ xs) = ap₂ (λ (y z : ℤ). y +ℤ z) (*ℤ_add c d x) (dot-plus cs ds xs) ∙ +ℤ_cross (c *ℤ x) (d *ℤ x) (dot cs xs) (dot ds xs)

dot-minus : (cs xs : List ℤ) → dot (minus cs) xs ≡ neg_ℤ (dot cs xs)
dot-minus [] xs = refl
dot-minus (c ∷ cs) [] = refl
dot-minus (c ∷ cs) (x ∷ xs) = ap₂ (λ (y z : ℤ). y +ℤ z) (*ℤ_neg c x) (dot-minus cs xs) ∙ sym (neg_ℤ-+ℤ (c *ℤ x) (dot cs xs))

dot-once : (i : ℕ) (xs : List ℤ) → dot (once i) xs ≡ get_or xs i (pos 0)
dot-once zero [] = refl
dot-once zero (x ∷ xs) = +ℤ_idr (pos 1 *ℤ x) ∙ *ℤ_unit x
dot-once (suc i) [] = refl
dot-once (suc i) (x ∷ xs) = ap (λ (z : ℤ). z +ℤ dot (once i) xs) (zero-*ℤ x) ∙ +ℤ_idl (dot (once i) xs) ∙ dot-once i xs

dot_coefficients : (e : Sum) (xs : List ℤ) → dot (coefficients_of e) xs ≡ denote xs e
dot_coefficients o xs = refl
dot_coefficients (v i) xs = dot-once i xs
dot_coefficients (a ⊞ b) xs = dot-plus (coefficients_of a) (coefficients_of b) xs ∙ ap₂ (λ (y z : ℤ). y +ℤ z) (dot_coefficients a xs) (dot_coefficients b xs)
dot_coefficients (⊟ a) xs = dot-minus (coefficients_of a) xs ∙ ap neg_ℤ (dot_coefficients a xs)

dot-nought : (cs xs : List ℤ) → T (nought cs) → dot cs xs ≡ pos 0
dot-nought [] xs h = refl
dot-nought (c ∷ cs) [] h = refl
dot-nought (c ∷ cs) (x ∷ xs) h =
    ap₂ (λ (y z : ℤ). y *ℤ x +ℤ z) (zero_is c (left (is_zero c) (nought cs) h)) (dot-nought cs xs (right (is_zero c) (nought cs) h))
    ∙ ap (λ (z : ℤ). z +ℤ pos 0) (zero-*ℤ x)

pub solve : (xs : List ℤ) (a b : Sum) → T (nought (coefficients_of (a ⊞ ⊟ b))) → denote xs a ≡ denote xs b
solve xs a b h = same_of (denote xs a) (denote xs b) (sym (dot_coefficients (a ⊞ ⊟ b) xs) ∙ dot-nought (coefficients_of (a ⊞ ⊟ b)) xs h)
