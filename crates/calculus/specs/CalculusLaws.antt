-- Laws of the calculus: every rule keeps every cost, the hard step those of the assignments at which its hard polynomial is 0, and so does a step, taken or
-- refused; where PROD changes nothing; what a step that is taken passed and left; that a configuration stays one; and the same of one taken directly.
use Rattle.std.specs.Prelude.{◌≡◌, refl, ◌⊎◌, Bool, true, false, not, ◌&&◌, ◌||◌, cond, List, [], ◌∷◌, ℕ, zero, suc, ◌≤◌, T, leb, ltb, ℤ, pos, negsuc, ◌+ℤ◌, ◌-ℤ◌, neg_ℤ, length}
use Rattle.std.proofs.Common.{sym, ap, ap₂, ◌∙◌, inl, inr, true≢false, append-nil, arith, leb→le, le→leb, ltb→lt, pow_pos}
use Rattle.std.proofs.Math.IntN.{sub_ℕ, +ℤ_assoc, +ℤ_idl, +ℤ_idr, +ℤ_invl}
use Rattle.std.specs.Int.Signed.{le_z}
use Rattle.std.proofs.lemmas.Bool.{not-true}
use Rattle.refusal.specs.Outcome.{Outcome, accepted, refused, after}
use Rattle.refusal.specs.Tests.{AllPassed}
use Rattle.refusal.specs.TestsLaws.{passing_taken}
use Rattle.run.specs.BooleanLaws.{is_true, of_true, both, cond_ind}
use Rattle.run.specs.F2.{◌⊕◌}
use Rattle.run.specs.Run.{sorted}
use Rattle.run.specs.RunLaws.{normal_id}
use Rattle.term.specs.Term.{before}
use Rattle.polynomial.specs.Polynomial.{ZERO, ONE, eval, normal, sum_of, product_of, IsOrdered, IsBelow, RunBelow}
use Rattle.polynomial.specs.PolynomialLaws.{written, eval_sum, eval_product, eval_one, sum_ordered, product_ordered, sum_below, product_below, unique_everywhere, product_plus_one}
use Rattle.configuration.specs.Weight.{is_negative, share}
use Rattle.configuration.specs.Configuration.{Line, line, some, same, total, cost, weight, add_all, negated, IsInOrder, Every, below, is_polynomial, lines_fit, weights_fit, is_configuration, any_negative}
use Rattle.configuration.specs.SumLaws.{share_neg, solve, o, v, ◌⊞◌, ⊟}
use Rattle.configuration.specs.ConfigurationLaws.{same_is, same_none, total-negated, total-append, same_changes, cost_all, weight_all, all_every, all_ordered, weight_behind, weight_head, all_fit}
use Rattle.configuration.specs.Limits.{within}
use Rattle.configuration.specs.LineLaws.{polynomial_below, polynomial_is, sum_sign, Every-append, within-accepted, configuration_parts, parts_configuration}
use Rattle.hard.specs.Hard.{is_hard_list, hard_at, IsAdmissible}
use Rattle.hard.specs.HardLaws.{hard_polynomial, consistent_zero}
use Rattle.calculus.specs.Calculus.{premises, conclusions, changes, is_plain, amount_fits, covers, there, rule_named, mode_tests, length_tests, changed, step, operand_tests, direct_step}
use Rattle.calculus.specs.declared.Rule.{Rule}
use Rattle.calculus.specs.declared.Rule.TheVariants.{Sum, Prod, Hard}
use Rattle.calculus.specs.declared.Mode.{Mode}
use Rattle.calculus.specs.declared.Mode.TheVariants.{Plain}
use Rattle.run.specs.BooleanLaws as B

-- ---- every rule is strongly sound: its conclusions cost what its premises cost, at every assignment that has what the rule asks
-- what a rule asks of an assignment: E that its hard polynomial is 0 there, SUM and PROD nothing
abbrev pub Asks : List (List ℕ) → Rule → ℕ → Type 0
Asks H Sum α = Unit {0}
Asks H Prod α = Unit {0}
Asks H (Hard i) α = eval (hard_at H i) α ≡ false

pub IsAdmissible-asks : (H : List (List ℕ)) (r : Rule) (α : ℕ) → IsAdmissible H α → Asks H r α
IsAdmissible-asks H Sum α a = tt
IsAdmissible-asks H Prod α a = tt
IsAdmissible-asks H (Hard i) α a = consistent_zero H i α a.meets

sum_sound : (a b : Bool) (w : ℤ) → share a w +ℤ (share b w +ℤ pos 0) ≡ share (a && b) (w +ℤ w) +ℤ (share (a ⊕ b) w +ℤ pos 0)
sum_sound true true w = solve (w ∷ []) (v 0 ⊞ (v 0 ⊞ o)) (v 0 ⊞ v 0 ⊞ (o ⊞ o)) tt
sum_sound true false w = solve (w ∷ []) (v 0 ⊞ (o ⊞ o)) (o ⊞ (v 0 ⊞ o)) tt
sum_sound false b w = refl

prod_sound : (a b : Bool) (w : ℤ) → share a w +ℤ pos 0 ≡ share (a && b) w +ℤ (share (a && (b ⊕ true)) w +ℤ pos 0)
prod_sound true true w = refl
prod_sound true false w = solve (w ∷ []) (v 0 ⊞ o) (o ⊞ (v 0 ⊞ o)) tt
prod_sound false b w = refl

hard_sound : (a b : Bool) (w : ℤ) → share a w +ℤ pos 0 ≡ share (a ⊕ (b && false)) w +ℤ pos 0
hard_sound true true w = refl
hard_sound true false w = refl
hard_sound false true w = refl
hard_sound false false w = refl

pub sound : (H : List (List ℕ)) (r : Rule) (f g : List ℕ) (w : ℤ) (α : ℕ) → Asks H r α → cost (premises r f g w) α ≡ cost (conclusions H r f g w) α
unfolding total
sound H Sum f g w α a = rw (eval_sum f g α, eval_product f g α) (sum_sound (eval f α) (eval g α) w)
sound H Prod f g w α a = rw (eval_product f g α, eval_product f (sum_of g ONE) α, eval_sum g ONE α, eval_one α) (prod_sound (eval f α) (eval g α) w)
sound H (Hard i) f g w α a = rw (eval_sum f (product_of g (hard_at H i)) α, eval_product g (hard_at H i) α, a) (hard_sound (eval f α) (eval g α) w)

-- ---- what the changes of a rule sum to, and what they do to a configuration
total-changes : (test : List ℕ → Bool) (H : List (List ℕ)) (r : Rule) (f g : List ℕ) (w : ℤ)
    → total test (changes H r f g w) ≡ neg_ℤ (total test (premises r f g w)) +ℤ total test (conclusions H r f g w)
total-changes test H r f g w = total-append test (negated (premises r f g w)) (conclusions H r f g w)
    ∙ ap (λ (z : ℤ). z +ℤ total test (conclusions H r f g w)) (total-negated test (premises r f g w))

pub changes-cost : (H : List (List ℕ)) (r : Rule) (f g : List ℕ) (w : ℤ) (α : ℕ) → Asks H r α → cost (changes H r f g w) α ≡ pos 0
changes-cost H r f g w α a = total-changes (λ p. eval p α) H r f g w ∙ rw (sound H r f g w α a) (+ℤ_invl (cost (conclusions H r f g w) α))

pub stepped_cost : (H : List (List ℕ)) (r : Rule) (f g : List ℕ) (w : ℤ) (L : List Line) (α : ℕ) → Asks H r α → cost (add_all (changes H r f g w) L) α ≡ cost L α
stepped_cost H r f g w L α a = cost_all (changes H r f g w) L α ∙ rw (changes-cost H r f g w α a) (+ℤ_idr (cost L α))

-- ---- where f g or f (g + 1) is 0 the other is f, and PROD changes nothing; f has any length
pub rest_whole : (f g : List ℕ) → IsOrdered f → product_of f g ≡ ZERO → product_of f (sum_of g ONE) ≡ f
rest_whole f g s e = product_plus_one f g ∙ ap (sum_of f) e ∙ ap normal (append-nil f) ∙ normal_id before written f s

product_whole : (f g : List ℕ) → IsOrdered f → product_of f (sum_of g ONE) ≡ ZERO → product_of f g ≡ f
unfolding eval
product_whole f g s e = unique_everywhere (product_of f g) f (product_ordered f g) s (λ α. eval_product f g α ∙ at (eval f α) (eval g α) (gone α))
  where
    gone : (α : ℕ) → (eval f α && (eval g α ⊕ true)) ≡ false
    gone α = sym (eval_product f (sum_of g ONE) α ∙ rw (eval_sum g ONE α, eval_one α)) ∙ ap (λ (p : List ℕ). eval p α) e

    at : (x y : Bool) → (x && (y ⊕ true)) ≡ false → (x && y) ≡ x
    at true true h = refl
    at true false h = absurd (true≢false h)
    at false y h = refl

pub none_changed : (H : List (List ℕ)) (f g : List ℕ) (w : ℤ) → IsOrdered f → (product_of f g ≡ ZERO) ⊎ (product_of f (sum_of g ONE) ≡ ZERO) → add_all (changes H Prod f g w) [] ≡ []
unfolding add_all total negated
none_changed H f g w s h = same_changes (changes H Prod f g w) [] [] tt (λ p k. go p k h)
  where
    go : (p : List ℕ) → T (some p) → (product_of f g ≡ ZERO) ⊎ (product_of f (sum_of g ONE) ≡ ZERO) → weight (changes H Prod f g w) p ≡ pos 0
    go p k (inl e) = rw (e, rest_whole f g s e, same_none p k, share_neg (same p f) w)
        (solve (share (same p f) w ∷ []) (⊟ (v 0) ⊞ (o ⊞ (v 0 ⊞ o))) o tt)
    go p k (inr e) = rw (e, product_whole f g s e, same_none p k, share_neg (same p f) w)
        (solve (share (same p f) w ∷ []) (⊟ (v 0) ⊞ (v 0 ⊞ (o ⊞ o))) o tt)

-- ---- what a step that is taken passed, and what it leaves
pub record TakenStep (H : List (List ℕ)) (r : Rule) (d : Mode) (f g : List ℕ) (w : ℤ) (L M : List Line) : Type 0 where
  pub plain : not (is_plain d && any_negative L) ≡ true
  pub named : rule_named H r ≡ true
  pub amount : amount_fits d w ≡ true
  pub covered : (not (is_plain d) || there L (premises r f g w)) ≡ true
  pub short : AllPassed (length_tests (conclusions H r f g w))
  pub result : M ≡ add_all (changes H r f g w) L
  pub lines : length M ≤ 128
  pub weights : T (weights_fit M)

pub step_passed : (H : List (List ℕ)) (r : Rule) (d : Mode) (f g : List ℕ) (w : ℤ) (L M : List Line) → step H r d f g w L ≡ accepted M → TakenStep H r d f g w L M
unfolding step
step_passed H r d f g w L M e =
    let a : _ = passing_taken (mode_tests H r d f g w L) (changed H r f g w L) e in
    let h : _ = passing_taken (length_tests (conclusions H r f g w)) (within (add_all (changes H r f g w) L)) a.1 in
    let x : _ = within-accepted (add_all (changes H r f g w) L) M h.1 in
    record {
      plain = a.0.0;
      named = a.0.1.0;
      amount = a.0.1.1.0;
      covered = a.0.1.1.1.0;
      short = h.0;
      result = x.0;
      lines = rw x.0 x.1.0;
      weights = rw x.0 x.1.1;
    }

pub step_taken : (H : List (List ℕ)) (r : Rule) (d : Mode) (f g : List ℕ) (w : ℤ) (L M : List Line) → step H r d f g w L ≡ accepted M → M ≡ add_all (changes H r f g w) L
step_taken H r d f g w L M e = (step_passed H r d f g w L M e).result

-- ---- a step keeps every cost that its rule keeps, taken or refused
pub step-cost : (H : List (List ℕ)) (r : Rule) (d : Mode) (f g : List ℕ) (w : ℤ) (L : List Line) (α : ℕ) → Asks H r α → cost (after L (step H r d f g w L)).reached α ≡ cost L α
step-cost H r d f g w L α a = go (step H r d f g w L) refl
  where
    go : (s : Outcome (List Line)) → step H r d f g w L ≡ s → cost (after L s).reached α ≡ cost L α
    go (accepted M) e = rw (step_taken H r d f g w L M e) (stepped_cost H r f g w L α a)
    go (refused x) e = refl

-- ---- a step that is taken is the rule, folded: premises away, conclusions in, and nothing else
pub step_weights : (H : List (List ℕ)) (r : Rule) (d : Mode) (f g : List ℕ) (w : ℤ) (L M : List Line) → step H r d f g w L ≡ accepted M → (p : List ℕ) → T (some p)
    → weight M p ≡ weight L p -ℤ weight (premises r f g w) p +ℤ weight (conclusions H r f g w) p
step_weights H r d f g w L M e p n =
    let P : ℤ = weight (premises r f g w) p in
    let C : ℤ = weight (conclusions H r f g w) p in
    rw (step_taken H r d f g w L M e, weight_all p n (changes H r f g w) L, total-changes (same p) H r f g w) (sym (+ℤ_assoc (weight L p) (neg_ℤ P) C))

-- ---- signs
share_sign : (b : Bool) (w : ℤ) → is_negative w ≡ false → is_negative (share b w) ≡ false
share_sign true w h = h
share_sign false w h = refl

sub_sign : (a b : ℕ) → b ≤ a → is_negative (sub_ℕ a b) ≡ false
sub_sign a b h = cond_ind (ltb a b) (λ (z : ℤ). is_negative z ≡ false) (λ k. let x : ⊥ = omega (arith, ltb→lt a b k) in absurd x) (λ k. refl)

difference_sign : (a b : ℤ) → T (le_z a b) → is_negative (b -ℤ a) ≡ false
difference_sign (pos zero) (pos b) h = refl
difference_sign (pos (suc a)) (pos b) h = sub_sign b (suc a) (leb→le (suc a) b h)
difference_sign (pos a) (negsuc b) h = absurd h
difference_sign (negsuc a) (pos b) h = refl
difference_sign (negsuc a) (negsuc b) h = sub_sign (suc a) (suc b) (omega (arith, leb→le b a h))

-- without negative weights no sum over the lines is negative
total_sign : (test : List ℕ → Bool) (L : List Line) → any_negative L ≡ false → is_negative (total test L) ≡ false
unfolding total any_negative
total_sign test [] h = refl
total_sign test (line f (negsuc k) ∷ L) h = absurd (true≢false h)
total_sign test (line f (pos k) ∷ L) h = sum_sign (share (test f) (pos k)) (total test L) (share_sign (test f) (pos k) refl) (total_sign test L h)

-- where no weight of a polynomial is negative, no line of an ordered configuration is
lines_sign : (L : List Line) → IsInOrder L → ((p : List ℕ) → T (some p) → is_negative (weight L p) ≡ false) → any_negative L ≡ false
unfolding total any_negative
lines_sign [] r h = refl
lines_sign (line f w ∷ L) r h = rw (sym (ap is_negative (weight_head f w L r.1.1.0)) ∙ h f r.0) (lines_sign L r.1.1.1 (λ p n. go p n (same p f) refl))
  where
    go : (p : List ℕ) → T (some p) → (b : Bool) → same p f ≡ b → is_negative (weight L p) ≡ false
    go p n true e = rw (same_is p f (of_true e), weight_behind f L r.1.1.0)
    go p n false e = sym (ap is_negative (ap (λ (b : Bool). share b w +ℤ weight L p) e ∙ +ℤ_idl (weight L p))) ∙ h p n

-- ---- in the plain mode no weight gets negative
zero_least : (z : ℤ) → is_negative z ≡ false → T (le_z (pos 0) z)
zero_least (pos n) h = le→leb 0 n (omega arith)
zero_least (negsuc n) h = absurd (true≢false h)

covers-weight : (L P Q : List Line) (p : List ℕ) → T (some p) → T (covers L P Q) → (weight Q p ≡ pos 0) ⊎ T (le_z (weight P p) (weight L p))
unfolding covers total
covers-weight L P [] p n h = inl refl
covers-weight L P (line f w ∷ Q) p n h = go (same p f) refl (covers-weight L P Q p n (B.right (cond (some f) (le_z (weight P f) (weight L f)) true) (covers L P Q) h))
  where
    go : (b : Bool) → same p f ≡ b → (weight Q p ≡ pos 0) ⊎ T (le_z (weight P p) (weight L p))
        → (share (same p f) w +ℤ weight Q p ≡ pos 0) ⊎ T (le_z (weight P p) (weight L p))
    go true e k =
        let q : p ≡ f = same_is p f (of_true e) in
        let m : some f ≡ true = is_true (some f) (rw q at n) in
        inr (rw q (rw m at (B.left (cond (some f) (le_z (weight P f) (weight L f)) true) (covers L P Q) h)))
    go false e (inl k) = inl (ap₂ (λ (b : Bool) (z : ℤ). share b w +ℤ z) e k)
    go false e (inr k) = inr k

there-weight : (L P : List Line) (p : List ℕ) → T (some p) → T (there L P) → is_negative (weight L p) ≡ false → T (le_z (weight P p) (weight L p))
there-weight L P p n h s = go (covers-weight L P P p n h)
  where
    go : (weight P p ≡ pos 0) ⊎ T (le_z (weight P p) (weight L p)) → T (le_z (weight P p) (weight L p))
    go (inl e) = rw e (zero_least (weight L p) s)
    go (inr k) = k

amount_sign : (w : ℤ) → amount_fits Plain w ≡ true → is_negative w ≡ false
amount_sign (pos n) h = refl
amount_sign (negsuc n) h = sym h

conclusions_sign : (H : List (List ℕ)) (r : Rule) (f g : List ℕ) (w : ℤ) → is_negative w ≡ false → any_negative (conclusions H r f g w) ≡ false
unfolding any_negative
conclusions_sign H Sum f g w h = rw (sum_sign w w h h, h)
conclusions_sign H Prod f g w h = rw h
conclusions_sign H (Hard i) f g w h = rw h

pub plain_stays : (H : List (List ℕ)) (r : Rule) (f g : List ℕ) (w : ℤ) (L M : List Line) → IsInOrder L → step H r Plain f g w L ≡ accepted M → any_negative M ≡ false
plain_stays H r f g w L M k e =
    let q : TakenStep H r Plain f g w L M = step_passed H r Plain f g w L M e in
    let s : is_negative w ≡ false = amount_sign w q.amount in
    lines_sign M (rw q.result (all_ordered (changes H r f g w) L k)) (λ p n. rw (step_weights H r Plain f g w L M e p n)
    (sum_sign (weight L p -ℤ weight (premises r f g w) p) (weight (conclusions H r f g w) p)
    (difference_sign (weight (premises r f g w) p) (weight L p)
    (there-weight L (premises r f g w) p n (of_true q.covered) (total_sign (same p) L (not-true (any_negative L) q.plain))))
    (total_sign (same p) (conclusions H r f g w) (conclusions_sign H r f g w s))))

-- ---- a step keeps what is asked of every line
-- lines of at most 64 terms are of polynomials where their terms are ordered and of n variables
short_fit : (n : ℕ) (C : List Line) → AllPassed (length_tests C) → Every (RunBelow n) C → Every (λ p. T (is_polynomial n p)) C
short_fit n [] h c = tt
short_fit n (line f w ∷ C) h c = (polynomial_is n f (of_true h.0) c.0.0 c.0.1, short_fit n C h.1 c.1)

Every-negated : (P : List ℕ → Type 0) (L : List Line) → Every P L → Every P (negated L)
unfolding negated
Every-negated P [] a = tt
Every-negated P (line f w ∷ L) a = (a.0, Every-negated P L a.1)

-- what holds of f, of g and of each conclusion holds of each change
changes_every : (P : List ℕ → Type 0) (H : List (List ℕ)) (r : Rule) (f g : List ℕ) (w : ℤ) → P f → P g → Every P (conclusions H r f g w) → Every P (changes H r f g w)
changes_every P H r f g w hf hg h = Every-append P (negated (premises r f g w)) (conclusions H r f g w) (Every-negated P (premises r f g w) (go r)) h
  where
    go : (r : Rule) → Every P (premises r f g w)
    go Sum = (hf, (hg, tt))
    go Prod = (hf, tt)
    go (Hard i) = (hf, tt)

-- the hard polynomials of n variables have no others
pub hard_below : (n : ℕ) (H : List (List ℕ)) → T (is_hard_list n H) → (i : ℕ) → IsBelow n (hard_at H i)
hard_below n H h i = polynomial_below n (hard_at H i) (hard_polynomial n i H h)

-- the conclusions are in order, and of no other variables
conclusions_run : (H : List (List ℕ)) (r : Rule) (f g : List ℕ) (w : ℤ) (n : ℕ) → ((i : ℕ) → IsBelow n (hard_at H i)) → IsBelow n f → IsBelow n g
    → Every (RunBelow n) (conclusions H r f g w)
conclusions_run H r f g w n k a b = go r
  where
    g₁ : List ℕ
    g₁ = sum_of g ONE

    one : IsBelow n ONE
    one = (pow_pos n, tt)

    go : (r : Rule) → Every (RunBelow n) (conclusions H r f g w)
    go Sum = ((product_below n f g a b, product_ordered f g), ((sum_below n f g a b, sum_ordered f g), tt))
    go Prod = ((product_below n f g a b, product_ordered f g), ((product_below n f g₁ a (sum_below n g ONE b one), product_ordered f g₁), tt))
    go (Hard i) = let q : List ℕ = product_of g (hard_at H i) in ((sum_below n f q a (product_below n g (hard_at H i) b (k i)), sum_ordered f q), tt)

-- so are the lines that a step leaves, where those before it are and the hard polynomials have no other variables
pub step_run : (H : List (List ℕ)) (r : Rule) (d : Mode) (f g : List ℕ) (w : ℤ) (n : ℕ) (L M : List Line) → ((i : ℕ) → IsBelow n (hard_at H i)) → RunBelow n f → RunBelow n g
    → Every (RunBelow n) L → step H r d f g w L ≡ accepted M → Every (RunBelow n) M
step_run H r d f g w n L M k hf hg h e =
    rw (step_taken H r d f g w L M e)
    (all_every (RunBelow n) (changes H r f g w) L (changes_every (RunBelow n) H r f g w hf hg (conclusions_run H r f g w n k hf.0 hg.0)) h)

module _ (H : List (List ℕ)) (r : Rule) (f g : List ℕ) (w : ℤ) (n : ℕ) (k : T (is_hard_list n H)) (hf : T (is_polynomial n f)) (hg : T (is_polynomial n g)) where
  conclusions_fit : AllPassed (length_tests (conclusions H r f g w)) → Every (λ p. T (is_polynomial n p)) (conclusions H r f g w)
  conclusions_fit h = short_fit n (conclusions H r f g w) h (conclusions_run H r f g w n (hard_below n H k) (polynomial_below n f hf) (polynomial_below n g hg))

  changes_fit : AllPassed (length_tests (conclusions H r f g w)) → Every (λ p. T (is_polynomial n p)) (changes H r f g w)
  changes_fit h = changes_every (λ p. T (is_polynomial n p)) H r f g w hf hg (conclusions_fit h)

pub step_fits : (H : List (List ℕ)) (r : Rule) (d : Mode) (f g : List ℕ) (w : ℤ) (n : ℕ) (L M : List Line) → T (is_hard_list n H) → T (is_polynomial n f) → T (is_polynomial n g) → T (lines_fit n L)
    → step H r d f g w L ≡ accepted M → T (lines_fit n M) × (length M ≤ 128) × T (weights_fit M)
step_fits H r d f g w n L M k p q h e =
    let s : TakenStep H r d f g w L M = step_passed H r d f g w L M e in
    (rw s.result (all_fit n (changes H r f g w) L (changes_fit H r f g w n k p q s.short) h), s.lines, s.weights)

pub step_keeps : (H : List (List ℕ)) (r : Rule) (d : Mode) (f g : List ℕ) (w : ℤ) (n : ℕ) (L M : List Line) → T (is_hard_list n H) → T (is_configuration n L) → T (is_polynomial n f)
    → T (is_polynomial n g) → step H r d f g w L ≡ accepted M → T (is_configuration n M)
step_keeps H r d f g w n L M k c p q e =
    let s : _ = configuration_parts n L c in
    let h : _ = step_fits H r d f g w n L M k p q s.fit e in
    parts_configuration n M (record { variables = s.variables; room = h.1; fit = h.0; weights = h.2 })

-- ---- a step that is taken directly: its operands passed their tests, and it is the step
-- a test of each and two tests of both, as three tests of each
regroup : (a b c d x y : Bool) → T a → T b → T (c && d) → T (x && y) → T (a && (c && x)) × T (b && (d && y))
regroup a b c d x y h i k l =
    (both a (c && x) h (both c x (B.left c d k) (B.left x y l)), both b (d && y) i (both d y (B.right c d k) (B.right x y l)))

pub operands_passed : (n : ℕ) (f g : List ℕ) → AllPassed (operand_tests n f g) → T (is_polynomial n f) × T (is_polynomial n g)
operands_passed n f g a =
    regroup (leb (length f) 64) (leb (length g) 64) (below n f) (below n g) (sorted before f) (sorted before g)
    (of_true a.0) (of_true a.1.0) (of_true a.1.1.0) (of_true a.1.1.1.0)

module _ (H : List (List ℕ)) (r : Rule) (d : Mode) (f g : List ℕ) (w : ℤ) (n : ℕ) (L M : List Line) (e : direct_step H r d f g w n L ≡ accepted M) where
  pub direct_passed : T (is_polynomial n f) × T (is_polynomial n g) × (step H r d f g w L ≡ accepted M)
  unfolding direct_step
  direct_passed =
      let a : _ = passing_taken (operand_tests n f g) (step H r d f g w L) e in
      let o : _ = operands_passed n f g a.0 in
      (o.0, o.1, a.1)

  pub direct_keeps : T (is_hard_list n H) → T (is_configuration n L) → T (is_configuration n M)
  direct_keeps k c = let q : _ = direct_passed in step_keeps H r d f g w n L M k c q.0 q.1 q.2

  pub direct_cost : (α : ℕ) → Asks H r α → cost M α ≡ cost L α
  direct_cost α a = rw (step_taken H r d f g w L M direct_passed.2) (stepped_cost H r f g w L α a)
