-- Laws of filing: the lines are the folded sum of the weighted entries, and a configuration with positive weights; the hard list is the hard entries in their
-- order; two filings of one problem, as functions and in any order in which the hard entries keep theirs, make the same.
use Rattle.std.specs.Prelude.{◌≡◌, refl, Bool, true, false, cond, not, ◌&&◌, List, [], ◌∷◌, T, leb, ltb, eqb, ℤ, pos, negsuc, ◌+ℤ◌, length}
use Rattle.std.proofs.Common.{sym, ap, ap₂, subst, ◌∙◌, true≢false, arith, le→leb, leb→le, ltb→lt, nltb→le, eqb→eq}
use Rattle.std.specs.Bool.{beq}
use Prim.Native.Nat.{ℕ, zero, suc, ◌+◌, ◌^◌, ◌≤◌, ◌<◌}
use Rattle.std.specs.Int.Signed.{le_z}
use Rattle.std.proofs.Math.IntN.{+ℤ_idl}
use Rattle.std.proofs.Math.ListN.{get_or}
use Rattle.refusal.specs.Refusal.{Refusal, numbered}
use Rattle.refusal.specs.Outcome.{Outcome, accepted, refused, mapped, Told}
use Rattle.run.specs.BooleanLaws.{bool_ext, is_true, of_true, not_both, both, cond_ind}
use Rattle.polynomial.specs.Polynomial.{ZERO, eval, order_of, sum_of, clause_of}
use Rattle.polynomial.specs.ClauseLaws.{clause_ordered, clause_below}
use Rattle.configuration.specs.Weight.{is_zero, is_negative, share}
use Rattle.configuration.specs.Configuration.{line_fits, Line, line, some, same, total, weight, keep, fold, add, add_all, Every, is_polynomial, lines_fit, weights_fit, any_negative, is_configuration}
use Rattle.configuration.specs.SumLaws.{solve, v, ◌⊞◌}
use Rattle.configuration.specs.ConfigurationLaws.{fit_head, fit_tail, order_ind, same_is, same_self, same_none, same_changes, all_fit}
use Rattle.configuration.specs.LineLaws.{polynomial_below, polynomial_sorted, polynomial_is, none_polynomial, sum_sign, Every-append, Every-map, configuration_parts, parts_configuration}
use Rattle.hard.specs.Hard.{all_polynomials, is_hard_list}
use Rattle.hard.specs.HardLaws.{list_more}
use Rattle.record.specs.Letters.{letter_v, letter_m, letter_w, letter_c, letter_h}
use Rattle.record.specs.Record.{whole, number_at, signed_at}
use Rattle.record.specs.RecordLaws.{within_bytes}
use Rattle.walk.specs.Walk.{Progress, begun, past, walk, read_all}
use Rattle.walk.specs.WalkLaws.{unless_ind, IfAccepted, walk_ind, walk_keeps}
use Rattle.walk.specs.WorkLaws.{term_ind, term_sum}
use Rattle.problem.specs.Item.{Item, weighted, hard, Holding, nothing_held, weighted_items, hard_items}
use Rattle.problem.specs.ItemLaws.{joined, joined_all, weighted_ind, hard_ind, joined_append, joined_all_lem, weighted_append}
use Rattle.problem.specs.Problem.{State, empty, having, weight_fits, with_item, on_variables, on_term, on_weight, on_clause, on_hard, on_record, filing, FilingMade, filed, file_problem}
use Rattle.problem.specs.Entries.{entry_of, entries_from, entries, agrees_below, agrees, Permuted, itself, skip, swap, trans}
use Rattle.run.specs.BooleanLaws as B
use Rattle.polynomial.specs.PolynomialLaws as P

-- ---- one record: what an accepted one passed, and what it files
-- an item is taken in, within the limits
module _ (R : Outcome (Progress State) → Type 0) (p : Progress State) (size : ℕ) (work f : List ℕ) (nay : (x : Refusal) → R (refused x)) where
  abbrev Then : Outcome Holding → Type 0
  Then o = R (mapped (λ x. past p size (having work x p.state)) o)

  with_weighted : (w : ℤ) → (let L = add f w p.state.holding.lines in length L ≤ 128 → T (weights_fit L)
      → R (accepted (past p size (having work (joined (weighted f w) p.state.holding) p.state)))) → R (with_item p size work (weighted f w))
  with_weighted w yea = weighted_ind Then f p.state.holding nay w yea

  with_hard : (length p.state.holding.hard < 16 → R (accepted (past p size (having work (joined (hard f) p.state.holding) p.state))))
      → R (with_item p size work (hard f))
  with_hard yea = hard_ind Then f p.state.holding nay yea

module _ (s : List ℕ) (p : Progress State) (R : List Item → Outcome (Progress State) → Type 0) where
  pub record_ind : ((C : List Item) (x : Refusal) → R C (refused x))
      → (T (not p.state.started) → T (whole 1 s (p.at + 1)) → number_at 1 s (p.at + 1) ≤ 32
      → R [] (accepted (past p 2 (record { started = true; variables = number_at 1 s (p.at + 1); work = p.state.work; holding = p.state.holding }))))
      → ((t : ℕ) → T p.state.started → T (whole 4 s (p.at + 1)) → t < 2 ^ p.state.variables → T (leb (length (sum_of (t ∷ []) p.state.work)) 64)
      → R [] (accepted (past p 5 (having (sum_of (t ∷ []) p.state.work) p.state.holding p.state))))
      → ((w : ℤ) → T p.state.started → T (whole 8 s (p.at + 1)) → T (weight_fits w)
      → length (add p.state.work w p.state.holding.lines) ≤ 128 → T (weights_fit (add p.state.work w p.state.holding.lines))
      → R (weighted p.state.work w ∷ []) (accepted (past p 9 (having ZERO (joined (weighted p.state.work w) p.state.holding) p.state))))
      → ((a b : ℕ) (w : ℤ) → T p.state.started → T (whole 16 s (p.at + 1)) → a < 2 ^ p.state.variables → b < 2 ^ p.state.variables → T (weight_fits w)
      → T (leb (length (clause_of a b)) 64) → length (add (clause_of a b) w p.state.holding.lines) ≤ 128 → T (weights_fit (add (clause_of a b) w p.state.holding.lines))
      → R (weighted (clause_of a b) w ∷ []) (accepted (past p 17 (having p.state.work (joined (weighted (clause_of a b) w) p.state.holding) p.state))))
      → (p.at < length s → T p.state.started → length p.state.holding.hard < 16
      → R (hard p.state.work ∷ []) (accepted (past p 1 (having ZERO (joined (hard p.state.work) p.state.holding) p.state))))
      → R (entry_of s p) (on_record s p)
  unfolding entry_of on_record
  record_ind nay on_v on_m on_w on_c on_h =
      go (eqb kind letter_v) (eqb kind letter_m) (eqb kind letter_w) (eqb kind letter_c) (eqb kind letter_h) (λ h. within_bytes s p.at letter_h (omega arith) (eqb→eq kind letter_h h))
    where
      kind : ℕ
      kind = get_or s p.at 0

      n : ℕ
      n = p.state.variables

      f : List ℕ
      f = p.state.work

      x : ℕ
      x = number_at 4 s (p.at + 1)

      y : ℕ
      y = number_at 4 s (p.at + 5)

      u : ℤ
      u = signed_at s (p.at + 1)

      w : ℤ
      w = signed_at s (p.at + 9)

      go : (a b d e g : Bool) → (T g → p.at < length s)
          → R (cond a [] (cond b [] (cond d (weighted f u ∷ []) (cond e (weighted (clause_of x y) w ∷ []) (cond g (hard f ∷ []) [])))))
          (cond a (on_variables s p) (cond b (on_term s p) (cond d (on_weight s p) (cond e (on_clause s p) (cond g (on_hard p) (refused (numbered 4)))))))
      go true b d e g at =
          unless_ind (R []) (not p.state.started) _ (nay []) (λ h. unless_ind (R []) (whole 1 s (p.at + 1)) _ (nay []) (λ i.
          unless_ind (R []) (leb (number_at 1 s (p.at + 1)) 32) _ (nay []) (λ j. on_v h i (leb→le (number_at 1 s (p.at + 1)) 32 j))))
      go false true d e g at =
          unless_ind (R []) p.state.started _ (nay []) (λ h.
          term_ind n s (p.at + 1) f (λ r. R [] (mapped (λ g. past p 5 (having g p.state.holding p.state)) r)) (nay []) (λ i j k. on_m x h i j k))
      go false false true e g at =
          let C : List Item = weighted f u ∷ [] in
          unless_ind (R C) p.state.started _ (nay C) (λ h. unless_ind (R C) (whole 8 s (p.at + 1)) _ (nay C) (λ i. unless_ind (R C) (weight_fits u) _ (nay C) (λ j.
          with_weighted (R C) p 9 ZERO f (nay C) u (λ k l. on_w u h i j k l))))
      go false false false true g at =
          let C : List Item = weighted (clause_of x y) w ∷ [] in
          unless_ind (R C) p.state.started _ (nay C) (λ h. unless_ind (R C) (whole 16 s (p.at + 1)) _ (nay C) (λ i.
          unless_ind (R C) (ltb x (2 ^ n) && ltb y (2 ^ n)) _ (nay C) (λ j. unless_ind (R C) (weight_fits w) _ (nay C) (λ k.
          unless_ind (R C) (leb (length (clause_of x y)) 64) _ (nay C) (λ l. with_weighted (R C) p 17 f (clause_of x y) (nay C) w
          (λ m o. on_c x y w h i (ltb→lt x (2 ^ n) (B.left (ltb x (2 ^ n)) (ltb y (2 ^ n)) j)) (ltb→lt y (2 ^ n) (B.right (ltb x (2 ^ n)) (ltb y (2 ^ n)) j)) k l m o))))))
      go false false false false true at =
          let C : List Item = hard f ∷ [] in
          unless_ind (R C) p.state.started _ (nay C) (λ h. with_hard (R C) p 1 ZERO f (nay C) (λ k. on_h (at tt) h k))
      go false false false false false at = nay [] (numbered 4)

-- ---- what is held is what the entries make
-- an accepted record takes in what it files, and V has come
pub record_joined : (s : List ℕ) (p q : Progress State) → on_record s p ≡ accepted q
    → (q.state.holding ≡ joined_all (entry_of s p) p.state.holding) × T q.state.started
unfolding joined_all
record_joined s p q e =
    rw e at (record_ind s p (λ C r. IfAccepted (λ q. (q.state.holding ≡ joined_all C p.state.holding) × T q.state.started) r)
    (λ C n. tt) (λ h i j. (refl, tt)) (λ t h i j k. (refl, tt)) (λ w h i j k l. (refl, tt)) (λ a b w h i j k l m n o. (refl, tt)) (λ h i j. (refl, tt)))

pub filing_joined : (k : ℕ) (s : List ℕ) (p : Progress State) → (walk filing k s p).reached.state.holding ≡ joined_all (entries_from k s p) p.state.holding
unfolding joined_all
filing_joined k s = walk_ind filing (λ s p q. entry_of s p) (λ p F C. F.reached.state.holding ≡ joined_all C p.state.holding) s (λ p. refl) (λ p n e. refl)
    (λ p q F C e rest. rest ∙ ap (joined_all C) (record_joined s p q e).0 ∙ sym (joined_append (entry_of s p) C p.state.holding)) k

-- ---- signs: a positive amount makes no line negative
filing_sign : (w : ℤ) → T (weight_fits w) → is_negative w ≡ false
filing_sign (pos n) h = refl
filing_sign (negsuc n) h = absurd h

cons_sign : (f : List ℕ) (w : ℤ) (L : List Line) → is_negative w ≡ false → any_negative L ≡ false → any_negative (line f w ∷ L) ≡ false
unfolding any_negative
cons_sign f w L h k = rw h k

uncons_sign : (f : List ℕ) (w : ℤ) (L : List Line) → any_negative (line f w ∷ L) ≡ false → (is_negative w ≡ false) × (any_negative L ≡ false)
unfolding any_negative
uncons_sign f (pos n) L h = (refl, h)
uncons_sign f (negsuc n) L h = absurd (true≢false h)

keep_sign : (f : List ℕ) (w : ℤ) (L : List Line) → is_negative w ≡ false → any_negative L ≡ false → any_negative (keep f w L) ≡ false
keep_sign f w L h k = cond_ind (is_zero w) (λ (z : List Line). any_negative z ≡ false) (λ z. k) (λ z. cons_sign f w L h k)

fold_sign : (f : List ℕ) (w : ℤ) (L : List Line) → is_negative w ≡ false → any_negative L ≡ false → any_negative (fold f w L) ≡ false
unfolding fold
fold_sign f w [] h k = keep_sign f w [] h k
fold_sign f w (line g u ∷ L) h k =
    let d : _ = uncons_sign g u L k in
    order_ind (order_of f g) (λ (z : List Line). any_negative z ≡ false)
    (λ c. keep_sign f w (line g u ∷ L) h k)
    (λ c. keep_sign g (u +ℤ w) L (sum_sign u w d.0 h) d.1)
    (λ c. cons_sign g u (fold f w L) d.0 (fold_sign f w L h d.1))

add_sign : (f : List ℕ) (w : ℤ) (L : List Line) → is_negative w ≡ false → any_negative L ≡ false → any_negative (add f w L) ≡ false
unfolding add
add_sign [] w L h k = k
add_sign (t ∷ f) w L h k = fold_sign (t ∷ f) w L h k

-- ---- what holds of every state; before V nothing is held
pub record IsSound (x : State) : Type 0 where
  pub configuration : T (is_configuration x.variables x.holding.lines)
  pub signs : any_negative x.holding.lines ≡ false
  pub listed : T (is_hard_list x.variables x.holding.hard)
  pub polynomial : T (is_polynomial x.variables x.work)
  pub fresh : T (not x.started) → (x.variables ≡ 0) × (x.work ≡ ZERO) × (x.holding ≡ nothing_held)

pub IsSound-empty : IsSound empty
unfolding lines_fit weights_fit any_negative all_polynomials
IsSound-empty = record { configuration = tt; signs = refl; listed = tt; polynomial = none_polynomial 0; fresh = λ h. (refl, refl, refl) }

-- nothing is held, of n variables
IsSound-none : (n : ℕ) → n ≤ 32 → IsSound (record { started = true; variables = n; work = ZERO; holding = nothing_held })
unfolding lines_fit weights_fit any_negative all_polynomials
IsSound-none n l = record {
  configuration = parts_configuration n [] (record { variables = l; room = omega arith; fit = tt; weights = tt });
  signs = refl;
  listed = tt;
  polynomial = none_polynomial n;
  fresh = λ h. absurd h;
}

-- a weighted polynomial is taken in, within the limits
IsSound-weighted : (x : State) (work f : List ℕ) (w : ℤ) → IsSound x → T (is_polynomial x.variables work) → T (is_polynomial x.variables f) → T (weight_fits w)
    → (let L = add f w x.holding.lines in length L ≤ 128 → T (weights_fit L) → IsSound (having work (joined (weighted f w) x.holding) x))
unfolding add_all
IsSound-weighted x work f w o g h i j k =
    let L : List Line = x.holding.lines in
    let c = configuration_parts x.variables L o.configuration in record {
      configuration = parts_configuration x.variables (add f w L)
          (record { variables = c.variables; room = j; fit = all_fit x.variables (line f w ∷ []) L (h, tt) c.fit; weights = k });
      signs = add_sign f w L (filing_sign w i) o.signs;
      listed = o.listed;
      polynomial = g;
      fresh = λ n. absurd n;
    }

pub clause_polynomial : (n a b : ℕ) → a < 2 ^ n → b < 2 ^ n → T (leb (length (clause_of a b)) 64) → T (is_polynomial n (clause_of a b))
clause_polynomial n a b h k l = polynomial_is n (clause_of a b) l (clause_below n a b h k) (clause_ordered a b)

pub IsSound-record : (s : List ℕ) (p q : Progress State) → on_record s p ≡ accepted q → IsSound p.state → IsSound q.state
IsSound-record s p q e o = rw e at (record_ind s p (λ C r. IfAccepted (λ q. IsSound q.state) r)
    (λ C n. tt)
    (λ h i j. rw ((o.fresh h).1, (o.fresh h).2) (IsSound-none (number_at 1 s (p.at + 1)) j))
    (λ t h i j k. record {
      configuration = o.configuration;
      signs = o.signs;
      listed = o.listed;
      polynomial = term_sum p.state.variables t p.state.work j k o.polynomial;
      fresh = λ n. absurd n;
    })
    (λ w h i j k l. IsSound-weighted p.state ZERO p.state.work w o (none_polynomial p.state.variables) o.polynomial j k l)
    (λ a b w h i j k l m n r. IsSound-weighted p.state p.state.work (clause_of a b) w o o.polynomial (clause_polynomial p.state.variables a b j k m) l n r)
    (λ h i j. record {
      configuration = o.configuration;
      signs = o.signs;
      listed = list_more p.state.variables p.state.holding.hard p.state.work j o.listed o.polynomial;
      polynomial = none_polynomial p.state.variables;
      fresh = λ n. absurd n;
    }))

pub IsSound-filing : (k : ℕ) (s : List ℕ) (p : Progress State) → IsSound p.state → IsSound (walk filing k s p).reached.state
IsSound-filing k s p o = walk_keeps filing (λ q. IsSound q.state) s (λ p q e h. IsSound-record s p q e h) k p o

-- ---- what is filed
filed_sound : (s : List ℕ) → IsSound (read_all filing s empty).reached.state
filed_sound s = IsSound-filing (length s) s (begun empty) IsSound-empty

pub filed_configuration : (s : List ℕ) → T (is_configuration (file_problem s).variables (file_problem s).lines)
unfolding file_problem
filed_configuration s = (filed_sound s).configuration

pub filed_hard : (s : List ℕ) → T (is_hard_list (file_problem s).variables (file_problem s).hard)
unfolding file_problem
filed_hard s = (filed_sound s).listed

-- the lines are the folded sum of the weighted entries, and the hard list is the hard ones
pub filed_entries : (s : List ℕ) → ((file_problem s).lines ≡ add_all (weighted_items (entries s)) []) × ((file_problem s).hard ≡ hard_items (entries s))
unfolding file_problem
filed_entries s =
    let e = filing_joined (length s) s (begun empty) ∙ joined_all_lem (entries s) nothing_held in
    (ap (λ (x : Holding). x.lines) e, ap (λ (x : Holding). x.hard) e)

-- every weight is at least 1
abbrev pub IsPositive : List Line → Type 0
IsPositive [] = Unit {0}
IsPositive (line f w ∷ L) = T (le_z (pos 1) w) × IsPositive L

above_zero : (w : ℤ) → is_negative w ≡ false → T (not (is_zero w)) → T (le_z (pos 1) w)
above_zero (pos zero) h k = absurd k
above_zero (pos (suc n)) h k = le→leb 1 (suc n) (omega arith)
above_zero (negsuc n) h k = absurd (true≢false h)

all_positive : (n : ℕ) (L : List Line) → T (lines_fit n L) → any_negative L ≡ false → IsPositive L
unfolding line_fits
all_positive n [] h k = tt
all_positive n (line f w ∷ L) h k =
    let d = uncons_sign f w L k in
    let e : T (is_polynomial n f && not (is_zero w)) = B.right (some f) (is_polynomial n f && not (is_zero w)) (fit_head n (line f w) L h) in
    (above_zero w d.0 (B.right (is_polynomial n f) (not (is_zero w)) e), all_positive n L (fit_tail n (line f w) L h) d.1)

pub filed_positive : (s : List ℕ) → IsPositive (file_problem s).lines
unfolding file_problem
filed_positive s =
    let x : State = (read_all filing s empty).reached.state in
    all_positive x.variables x.holding.lines (configuration_parts x.variables x.holding.lines (filed_sound s).configuration).fit (filed_sound s).signs

-- ---- polynomials of n variables are one function just where they are the same
beq_is : (a b : Bool) → T (beq a b) → a ≡ b
beq_is true true h = refl
beq_is true false h = absurd h
beq_is false true h = absurd h
beq_is false false h = refl

beq_self : (a : Bool) → T (beq a a)
beq_self true = tt
beq_self false = tt

agrees_at : (k : ℕ) (f g : List ℕ) → T (agrees_below k f g) → (α : ℕ) → α < k → eval f α ≡ eval g α
unfolding agrees_below
agrees_at zero f g h α l = let x : ⊥ = omega arith in absurd x
agrees_at (suc k) f g h α l =
    go (ltb α k) refl (λ m. agrees_at k f g (B.right (beq (eval f k) (eval g k)) (agrees_below k f g) h) α m)
    (beq_is (eval f k) (eval g k) (B.left (beq (eval f k) (eval g k)) (agrees_below k f g) h))
  where
    go : (b : Bool) → ltb α k ≡ b → (α < k → eval f α ≡ eval g α) → eval f k ≡ eval g k → eval f α ≡ eval g α
    go true e rest here = rest (ltb→lt α k (of_true e))
    go false e rest here =
        let d : α ≡ k = omega (arith, nltb→le α k (rw e tt)) in
        rw d here

agrees_self : (k : ℕ) (f : List ℕ) → T (agrees_below k f f)
unfolding agrees_below
agrees_self zero f = tt
agrees_self (suc k) f = both (beq (eval f k) (eval f k)) (agrees_below k f f) (beq_self (eval f k)) (agrees_self k f)

pub agrees-same : (n : ℕ) (f g : List ℕ) → T (is_polynomial n f) → T (is_polynomial n g) → agrees n f g ≡ same f g
unfolding agrees
agrees-same n f g hf hg = bool_ext (agrees_below (2 ^ n) f g) (same f g)
    (λ h. of_true (ap (same f) (sym (one h)) ∙ same_self f))
    (λ h. rw (same_is f g h) (agrees_self (2 ^ n) g))
  where
    one : T (agrees_below (2 ^ n) f g) → f ≡ g
    one h = P.unique n f g (polynomial_sorted n f hf) (polynomial_sorted n g hg) (polynomial_below n f hf) (polynomial_below n g hg) (agrees_at (2 ^ n) f g h)

-- ---- sums over polynomials as functions are sums over polynomials as lists
total_tests : (t u : List ℕ → Bool) (C : List Line) → Every (λ f. t f ≡ u f) C → total t C ≡ total u C
unfolding total
total_tests t u [] e = refl
total_tests t u (line f w ∷ C) e = ap₂ (λ (b : Bool) (z : ℤ). share b w +ℤ z) e.0 (total_tests t u C e.1)

weight-agrees : (n : ℕ) (p : List ℕ) (C : List Line) → T (is_polynomial n p) → Every (λ f. T (is_polynomial n f)) C → total (agrees n p) C ≡ weight C p
weight-agrees n p C h c =
    total_tests (agrees n p) (same p) C (Every-map (λ f. T (is_polynomial n f)) (λ f. agrees n p f ≡ same p f) (λ f q. agrees-same n p f h q) C c)

-- what is no polynomial of n variables has no weight among those
weight_foreign : (n : ℕ) (p : List ℕ) (C : List Line) → is_polynomial n p ≡ false → Every (λ f. T (is_polynomial n f)) C → weight C p ≡ pos 0
unfolding total
weight_foreign n p [] h e = refl
weight_foreign n p (line f w ∷ C) h e = go (same p f) refl (weight_foreign n p C h e.1)
  where
    go : (b : Bool) → same p f ≡ b → weight C p ≡ pos 0 → share b w +ℤ weight C p ≡ pos 0
    go true d rest = absurd (true≢false (sym (ap (is_polynomial n) (same_is p f (of_true d)) ∙ is_true (is_polynomial n f) e.0) ∙ h))
    go false d rest = +ℤ_idl (weight C p) ∙ rest

-- entries that sum to the same as functions make one configuration
module _ (n : ℕ) (C D : List Line) (c : Every (λ f. T (is_polynomial n f)) C) (d : Every (λ f. T (is_polynomial n f)) D)
    (h : (f : List ℕ) → agrees n f ZERO ≡ false → total (agrees n f) C ≡ total (agrees n f) D) where
  same_weight : (p : List ℕ) → T (some p) → weight C p ≡ weight D p
  same_weight p s = go (is_polynomial n p) refl
    where
      go : (b : Bool) → is_polynomial n p ≡ b → weight C p ≡ weight D p
      go true e = sym (weight-agrees n p C (of_true e) c) ∙ h p (agrees-same n p ZERO (of_true e) (none_polynomial n) ∙ same_none p s) ∙ weight-agrees n p D (of_true e) d
      go false e = weight_foreign n p C e c ∙ sym (weight_foreign n p D e d)

  pub same_sum : add_all C [] ≡ add_all D []
  same_sum = same_changes C D [] tt same_weight

-- ---- the weighted entries are polynomials of the variables that are filed
abbrev pub IsFitting : ℕ → List Item → Type 0
IsFitting n C = Every (λ f. T (is_polynomial n f)) (weighted_items C)

entry_fit : (s : List ℕ) (p q : Progress State) → IsSound p.state → on_record s p ≡ accepted q → IsFitting q.state.variables (entry_of s p)
unfolding weighted_items
entry_fit s p q o e = rw e at (record_ind s p (λ C r. IfAccepted (λ q. IsFitting q.state.variables C) r)
    (λ C n. tt) (λ h i j. tt) (λ t h i j k. tt) (λ w h i j k l. (o.polynomial, tt))
    (λ a b w h i j k l m n r. (clause_polynomial p.state.variables a b j k m, tt)) (λ h i j. tt))

-- V comes once
record_variables : (s : List ℕ) (p q : Progress State) → T p.state.started → on_record s p ≡ accepted q
    → (q.state.variables ≡ p.state.variables) × T q.state.started
record_variables s p q b e = rw e at (record_ind s p (λ C r. IfAccepted (λ q. (q.state.variables ≡ p.state.variables) × T q.state.started) r)
    (λ C n. tt) (λ h i j. absurd (not_both p.state.started b h)) (λ t h i j k. (refl, tt)) (λ w h i j k l. (refl, tt)) (λ a b w h i j k l m n o. (refl, tt)) (λ h i j. (refl, tt)))

-- the variables stay from V on
IsFitting-walk : (s : List ℕ) (k : ℕ) (p : Progress State)
    → (T p.state.started → (walk filing k s p).reached.state.variables ≡ p.state.variables)
    × (IsSound p.state → IsFitting (walk filing k s p).reached.state.variables (entries_from k s p))
unfolding weighted_items
IsFitting-walk s = walk_ind filing (λ s p q. entry_of s p)
    (λ p F C. (T p.state.started → F.reached.state.variables ≡ p.state.variables) × (IsSound p.state → IsFitting F.reached.state.variables C)) s
    (λ p. (λ h. refl, λ o. tt)) (λ p n e. (λ h. refl, λ o. tt)) (λ p q F C e rest. (
      λ h. rest.0 (record_variables s p q h e).1 ∙ (record_variables s p q h e).0,
      λ o. rw (weighted_append (entry_of s p) C) (Every-append (λ f. T (is_polynomial F.reached.state.variables f)) (weighted_items (entry_of s p)) (weighted_items C)
          (subst (λ (n : ℕ). IsFitting n (entry_of s p)) (sym (rest.0 (record_joined s p q e).1)) (entry_fit s p q o e))
          (rest.1 (IsSound-record s p q e o))),
    ))

pub entries_fit : (k : ℕ) (s : List ℕ) (p : Progress State) → IsSound p.state
    → IsFitting (walk filing k s p).reached.state.variables (entries_from k s p)
entries_fit k s p o = (IsFitting-walk s k p).1 o

pub filed_fitting : (s : List ℕ) → IsFitting (file_problem s).variables (entries s)
unfolding file_problem
filed_fitting s = entries_fit (length s) s (begun empty) IsSound-empty

-- ---- one problem: if every polynomial function other than 0 has the same total weight among the weighted entries of two accepted filings, and the hard ones
-- are the same in the same order, they make the same
pub same_problem : (s t : List ℕ) → (file_problem s).told ≡ filed → (file_problem t).told ≡ filed → (file_problem s).variables ≡ (file_problem t).variables
    → ((f : List ℕ) → agrees (file_problem s).variables f ZERO ≡ false
    → total (agrees (file_problem s).variables f) (weighted_items (entries s)) ≡ total (agrees (file_problem s).variables f) (weighted_items (entries t)))
    → hard_items (entries s) ≡ hard_items (entries t)
    → file_problem s ≡ file_problem t
same_problem s t es et e h k =
    let n : ℕ = (file_problem s).variables in
    let d : IsFitting n (entries t) = subst (λ (n : ℕ). IsFitting n (entries t)) (sym e) (filed_fitting t) in
    let lines : (file_problem s).lines ≡ (file_problem t).lines =
    (filed_entries s).0 ∙ same_sum n (weighted_items (entries s)) (weighted_items (entries t)) (filed_fitting s) d h ∙ sym (filed_entries t).0 in
    filing_same (file_problem s) (file_problem t) e ((filed_entries s).1 ∙ k ∙ sym (filed_entries t).1) lines (es ∙ sym et)
  where
    filing_same : (a b : FilingMade) → a.variables ≡ b.variables → a.hard ≡ b.hard → a.lines ≡ b.lines → a.told ≡ b.told → a ≡ b
    filing_same a b h i j k =
        ap₂ (λ (n : ℕ) (H : List (List ℕ)). record { variables = n; hard = H; lines = a.lines; told = a.told }) h i
        ∙ ap₂ (λ (L : List Line) (x : Told (Unit {0})). record { variables = b.variables; hard = b.hard; lines = L; told = x }) j k

-- ---- in any order of entry in which the hard ones keep theirs
total_permuted : (test : List ℕ → Bool) {C D : List Item} → Permuted C D → total test (weighted_items C) ≡ total test (weighted_items D)
unfolding total weighted_items
total_permuted test (itself C) = refl
total_permuted test (skip (weighted f w) C D h) = ap (λ (z : ℤ). share (test f) w +ℤ z) (total_permuted test h)
total_permuted test (skip (hard f) C D h) = total_permuted test h
total_permuted test (swap (weighted f u) (weighted g w) C n) =
    solve (share (test f) u ∷ share (test g) w ∷ total test (weighted_items C) ∷ []) (v 0 ⊞ (v 1 ⊞ v 2)) (v 1 ⊞ (v 0 ⊞ v 2)) tt
total_permuted test (swap (weighted f u) (hard g) C n) = refl
total_permuted test (swap (hard f) (weighted g w) C n) = refl
total_permuted test (swap (hard f) (hard g) C n) = refl
total_permuted test (trans C D E h k) = total_permuted test h ∙ total_permuted test k

hard_permuted : {C D : List Item} → Permuted C D → hard_items C ≡ hard_items D
unfolding hard_items
hard_permuted (itself C) = refl
hard_permuted (skip (weighted f w) C D h) = hard_permuted h
hard_permuted (skip (hard f) C D h) = ap (λ (H : List (List ℕ)). f ∷ H) (hard_permuted h)
hard_permuted (swap (weighted f u) (weighted g w) C n) = refl
hard_permuted (swap (weighted f u) (hard g) C n) = refl
hard_permuted (swap (hard f) (weighted g w) C n) = refl
hard_permuted (swap (hard f) (hard g) C n) = absurd n
hard_permuted (trans C D E h k) = hard_permuted h ∙ hard_permuted k

-- permuted entries satisfy what same_problem asks
pub permuted : (s t : List ℕ) (n : ℕ) → Permuted (entries s) (entries t)
    → ((f : List ℕ) → agrees n f ZERO ≡ false → total (agrees n f) (weighted_items (entries s)) ≡ total (agrees n f) (weighted_items (entries t)))
    × (hard_items (entries s) ≡ hard_items (entries t))
permuted s t n h = (λ f e. total_permuted (agrees n f) h, hard_permuted h)
