-- Laws of checking: what an accepted record passed and makes; what holds at every progress of a check; where every hard polynomial is 0, no cost changes, and
-- a confirmed claim is at most every cost.
use Rattle.std.specs.Prelude.{◌≡◌, Bool, true, false, cond, not, ◌&&◌, List, T, eqb, ℤ, pos, negsuc, ◌≤ℤ◌, length}
use Rattle.std.proofs.Math.Path.{refl}
use Rattle.std.proofs.Common.{sym, ap, ◌∙◌, arith, leb→le, le→leb, eqb→eq}
use Prim.Native.Nat.{ℕ, ◌+◌, ◌≤◌, ◌<◌}
use Rattle.std.specs.Int.Signed.{le_z, le_z_yes}
use Rattle.std.proofs.Math.ListN.{get_or}
use Rattle.std.proofs.lemmas.Bool.{not-true}
use Rattle.refusal.specs.Refusal.{Refusal, numbered}
use Rattle.refusal.specs.Outcome.{Outcome, accepted, refused, Stop, nothing, refused_for, Reached}
use Rattle.run.specs.BooleanLaws.{is_true}
use Rattle.polynomial.specs.Polynomial.{ZERO, ONE}
use Rattle.configuration.specs.Configuration.{Line, some, cost, weight, is_polynomial, is_configuration, any_negative}
use Rattle.configuration.specs.ConfigurationLaws.{bound}
use Rattle.configuration.specs.LineLaws.{none_polynomial}
use Rattle.configuration.specs.Made.{Made}
use Rattle.hard.specs.Hard.{is_hard_list, IsAdmissible}
use Rattle.calculus.specs.Calculus.{step}
use Rattle.calculus.specs.CalculusLaws.{IsAdmissible-asks, step_taken, stepped_cost, step_keeps}
use Rattle.calculus.specs.declared.Rule.{Rule}
use Rattle.calculus.specs.declared.Rule.TheVariants.{Sum, Prod, Hard}
use Rattle.calculus.specs.declared.Mode.{Mode}
use Rattle.calculus.specs.declared.Mode.TheVariants.{Plain, Signed}
use Rattle.record.specs.Letters.{letter_n, letter_z, letter_m, letter_k, letter_s, letter_p, letter_e, letter_b}
use Rattle.record.specs.Record.{whole, number_at, signed_at}
use Rattle.record.specs.RecordLaws.{within_bytes}
use Rattle.walk.specs.Walk.{Progress, begun, past, read_all, verdict}
use Rattle.walk.specs.Work.{term_added}
use Rattle.walk.specs.WalkLaws.{unless_ind, mapped_ind, IfAccepted, walk_keeps, walk_complete}
use Rattle.walk.specs.WorkLaws.{term_polynomial}
use Rattle.derivation.specs.Derivation.{State, fresh, going, having, begins, closes, on_mode, on_term, on_choice, after_step, on_step, on_hard, claim_fits, on_claim, on_record, checking, derivation_degree, Confirmation, confirmed, check_derivation}
use Rattle.run.specs.BooleanLaws as B

-- ---- one record: what an accepted one passed, and what it makes
module _ (n : ℕ) (H : List (List ℕ)) (s : List ℕ) (p : Progress State) (P : Outcome (Progress State) → Type 0) where
  pub record_ind : ((x : Refusal) → P (refused x))
      → ((d : Mode) → p.at < length s → T (not p.state.started) → P (accepted (past p 1 (begins d p.state))))
      → ((g : List ℕ) → T (going p.state) → term_added n s (p.at + 1) p.state.work ≡ accepted g
      → P (accepted (past p 5 (having p.state.chosen p.state.first g p.state.lines p.state))))
      → (p.at < length s → T (going p.state && not p.state.chosen) → P (accepted (past p 1 (having true p.state.work ZERO p.state.lines p.state))))
      → ((r : Rule) (w : ℤ) (size : ℕ) (L : List Line) → T (going p.state && p.state.chosen) → 0 < size → p.at + size ≤ length s
      → step H r p.state.mode p.state.first p.state.work w p.state.lines ≡ accepted L
      → P (accepted (past p size (having false ZERO ZERO L p.state))))
      → ((w : ℤ) → T (going p.state && (not p.state.chosen && not (some p.state.work))) → T (whole 8 s (p.at + 1)) → T (claim_fits w)
      → T (not (any_negative p.state.lines)) → T (le_z w (weight p.state.lines ONE)) → P (accepted (past p 9 (closes w p.state))))
      → P (on_record n H s p)
  unfolding on_record
  record_ind nay yea_mode yea_term yea_choice yea_step yea_claim =
      go (eqb kind letter_n) (eqb kind letter_z) (eqb kind letter_m) (eqb kind letter_k) (eqb kind letter_s) (eqb kind letter_p) (eqb kind letter_e) (eqb kind letter_b)
      (λ h. within_bytes s p.at letter_n (omega arith) (eqb→eq kind letter_n h)) (λ h. within_bytes s p.at letter_z (omega arith) (eqb→eq kind letter_z h))
      (λ h. within_bytes s p.at letter_k (omega arith) (eqb→eq kind letter_k h))
    where
      kind : ℕ
      kind = get_or s p.at 0

      x : State
      x = p.state

      w : ℤ
      w = signed_at s (p.at + 1)

      modes : (d : Mode) → p.at < length s → P (on_mode d p)
      modes d l = unless_ind P (not x.started) _ nay (λ h. yea_mode d l h)

      terms : P (on_term n s p)
      terms = unless_ind P (going x) _ nay (λ h.
          mapped_ind P (λ g. past p 5 (having x.chosen x.first g x.lines x)) (term_added n s (p.at + 1) x.work) nay (λ g e. yea_term g h e))

      choices : p.at < length s → P (on_choice p)
      choices l = unless_ind P (going x && not x.chosen) _ nay (λ h. yea_choice l h)

      -- a step as a rule and an amount ask, in a record of so many bytes
      takes : (r : Rule) (v : ℤ) (size : ℕ) → T (going x && x.chosen) → 0 < size → p.at + size ≤ length s
          → P (after_step p size (step H r x.mode x.first x.work v x.lines))
      takes r v size h z i =
          mapped_ind P (λ L. past p size (having false ZERO ZERO L x)) (step H r x.mode x.first x.work v x.lines) nay (λ L e. yea_step r v size L h z i e)

      steps : (r : Rule) → P (on_step H r s p)
      steps r = unless_ind P (going x && x.chosen) _ nay (λ h. unless_ind P (whole 8 s (p.at + 1)) _ nay (λ i.
          takes r w 9 h (omega arith) (omega (arith, leb→le (p.at + 1 + 8) (length s) i))))

      hards : P (on_hard H s p)
      hards = unless_ind P (going x && x.chosen) _ nay (λ h. unless_ind P (whole 9 s (p.at + 1)) _ nay (λ i.
          takes (Hard (number_at 1 s (p.at + 1))) (signed_at s (p.at + 2)) 10 h (omega arith) (omega (arith, leb→le (p.at + 1 + 9) (length s) i))))

      claims : P (on_claim s p)
      claims = unless_ind P (going x && (not x.chosen && not (some x.work))) _ nay (λ h. unless_ind P (whole 8 s (p.at + 1)) _ nay (λ i.
          unless_ind P (claim_fits w) _ nay (λ j. unless_ind P (not (any_negative x.lines)) _ nay (λ k.
          unless_ind P (le_z w (weight x.lines ONE)) _ nay (λ l. yea_claim w h i j k l)))))

      go : (a b c d e f g i : Bool) → (T a → p.at < length s) → (T b → p.at < length s) → (T d → p.at < length s)
          → P (cond a (on_mode Plain p) (cond b (on_mode Signed p) (cond c (on_term n s p) (cond d (on_choice p)
          (cond e (on_step H Sum s p) (cond f (on_step H Prod s p) (cond g (on_hard H s p) (cond i (on_claim s p) (refused (numbered 4))))))))))
      go true b c d e f g i hn hz hk = modes Plain (hn tt)
      go false true c d e f g i hn hz hk = modes Signed (hz tt)
      go false false true d e f g i hn hz hk = terms
      go false false false true e f g i hn hz hk = choices (hk tt)
      go false false false false true f g i hn hz hk = steps Sum
      go false false false false false true g i hn hz hk = steps Prod
      go false false false false false false true i hn hz hk = hards
      go false false false false false false false true hn hz hk = claims
      go false false false false false false false false hn hz hk = nay (numbered 4)

-- ---- what holds at every progress of a check over n variables
pub record IsSound (n : ℕ) (x : State) : Type 0 where
  pub operand : T (is_polynomial n x.first)
  pub polynomial : T (is_polynomial n x.work)
  pub configuration : T (is_configuration n x.lines)
  pub claimed : T x.closed → T (claim_fits x.claim) × (any_negative x.lines ≡ false) × (x.claim ≤ℤ weight x.lines ONE)

pub IsSound-record : (n : ℕ) (H : List (List ℕ)) → T (is_hard_list n H) → (s : List ℕ) (p q : Progress State) → on_record n H s p ≡ accepted q → IsSound n p.state → IsSound n q.state
IsSound-record n H a s p q e o =
    let x : State = p.state in
    rw e at (record_ind n H s p (IfAccepted (λ q. IsSound n q.state))
    (λ k. tt)
    (λ d l h. record { operand = o.operand; polynomial = o.polynomial; configuration = o.configuration; claimed = o.claimed })
    (λ g h e. record {
      operand = o.operand;
      polynomial = term_polynomial n s (p.at + 1) x.work g o.polynomial e;
      configuration = o.configuration;
      claimed = o.claimed;
    })
    (λ l h. record { operand = o.polynomial; polynomial = none_polynomial n; configuration = o.configuration; claimed = o.claimed })
    (λ r w size L h z i e. record {
      operand = none_polynomial n;
      polynomial = none_polynomial n;
      configuration = step_keeps H r x.mode x.first x.work w n x.lines L a o.configuration o.operand o.polynomial e;
      claimed = λ c. absurd (rw (not-true x.closed (is_true (not x.closed) (B.right x.started (not x.closed) (B.left (going x) x.chosen h)))) at c);
    })
    (λ w h i j k l. record {
      operand = o.operand;
      polynomial = o.polynomial;
      configuration = o.configuration;
      claimed = λ c. (j, not-true (any_negative x.lines) (is_true (not (any_negative x.lines)) k), le_z_yes l);
    }))

pub IsSound-fresh : (n : ℕ) (L : List Line) → T (is_configuration n L) → IsSound n (fresh L)
IsSound-fresh n L h = record { operand = none_polynomial n; polynomial = none_polynomial n; configuration = h; claimed = λ c. absurd c }

-- the walk through the records of a check, and the state that it reaches
abbrev pub walked : List ℕ → ℕ → List (List ℕ) → List Line → Reached (Progress State)
walked s n H L = read_all (checking n H) s (fresh L)

abbrev pub reached : List ℕ → ℕ → List (List ℕ) → List Line → State
reached s n H L = (walked s n H L).reached.state

-- what is made where a walk ends and the degree is D
abbrev pub made_by : ℕ → ℕ → Reached (Progress State) → Made Confirmation
made_by n D r =
    let x = r.reached.state in
    record {
      variables = n;
      lines = x.lines;
      told = verdict r.reached.records (record { claim = x.claim; degree = D }) r.stop;
    }

module _ (s : List ℕ) (n : ℕ) (H : List (List ℕ)) (L : List Line) where
  pub check_is : check_derivation s n H L ≡ made_by n (derivation_degree s n H L) (walked s n H L)
  unfolding check_derivation
  check_is = refl

  pub check_variables : (check_derivation s n H L).variables ≡ n
  check_variables = ap (λ (m : Made Confirmation). m.variables) check_is

  pub check_lines : (check_derivation s n H L).lines ≡ (reached s n H L).lines
  check_lines = ap (λ (m : Made Confirmation). m.lines) check_is

  -- ---- what is left is a configuration again
  pub IsSound-check : T (is_hard_list n H) → T (is_configuration n L) → IsSound n (reached s n H L)
  IsSound-check a h = walk_keeps (checking n H) (λ p. IsSound n p.state) s (IsSound-record n H a s) (length s) (begun (fresh L)) (IsSound-fresh n L h)

  pub check_configuration : T (is_hard_list n H) → T (is_configuration n L) → T (is_configuration n (check_derivation s n H L).lines)
  check_configuration a h = rw check_lines (IsSound-check a h).configuration

-- ---- no cost changes, at an assignment where every hard polynomial is 0
pub record_cost : (n : ℕ) (H : List (List ℕ)) (s : List ℕ) (p q : Progress State) → on_record n H s p ≡ accepted q → (α : ℕ) → IsAdmissible H α
    → cost q.state.lines α ≡ cost p.state.lines α
record_cost n H s p q e α a =
    let x : State = p.state in
    rw e at (record_ind n H s p (IfAccepted (λ q. cost q.state.lines α ≡ cost p.state.lines α))
    (λ k. tt) (λ d l h. refl) (λ g h e. refl) (λ l h. refl)
    (λ r w size L h z i e.
    rw (step_taken H r x.mode x.first x.work w x.lines L e) (stepped_cost H r x.first x.work w x.lines α (IsAdmissible-asks H r α a)))
    (λ w h i j k l. refl))

-- whatever the bytes are, and so for the bytes up to any place: "The standing after it is the one that checking only the bytes up to its end leaves"
pub check_cost : (s : List ℕ) (n : ℕ) (H : List (List ℕ)) (L : List Line) (α : ℕ) → IsAdmissible H α → cost (check_derivation s n H L).lines α ≡ cost L α
check_cost s n H L α a = ap (λ (M : List Line). cost M α) (check_lines s n H L)
    ∙ walk_keeps (checking n H) (λ p. cost p.state.lines α ≡ cost L α) s (λ p q e h. record_cost n H s p q e α a ∙ h) (length s) (begun (fresh L)) refl

-- ---- what a confirmation says
confirmed_stop : (k : ℕ) (c : Confirmation) (t : Stop) (w : ℤ) (D : ℕ) → verdict k c t ≡ confirmed w D → (t ≡ nothing) × (w ≡ c.claim) × (D ≡ c.degree)
confirmed_stop k c nothing w D e = (refl, cc, cc)
confirmed_stop k c (refused_for x) w D e = let z : ◌≡◌ {A = ℕ} 0 1 = cc in let i : ⊥ = omega arith in absurd i

≤ℤ_trans : (a b c : ℤ) → a ≤ℤ b → b ≤ℤ c → a ≤ℤ c
≤ℤ_trans a b c h k = le_z_yes (go a b c h.le k.le)
  where
    go : (a b c : ℤ) → T (le_z a b) → T (le_z b c) → T (le_z a c)
    go (pos a) (pos b) (pos c) h k = le→leb a c (omega (arith, leb→le a b h, leb→le b c k))
    go (pos a) (pos b) (negsuc c) h k = absurd k
    go (pos a) (negsuc b) c h k = absurd h
    go (negsuc a) b (pos c) h k = tt
    go (negsuc a) (pos b) (negsuc c) h k = absurd k
    go (negsuc a) (negsuc b) (negsuc c) h k = le→leb c a (omega (arith, leb→le b a h, leb→le c b k))

module _ (s : List ℕ) (n : ℕ) (H : List (List ℕ)) (L : List Line) (w : ℤ) (D : ℕ) (e : (check_derivation s n H L).told ≡ confirmed w D) where
  says : ((walked s n H L).stop ≡ nothing) × (w ≡ (reached s n H L).claim) × (D ≡ derivation_degree s n H L)
  says = confirmed_stop (walked s n H L).reached.records _ (walked s n H L).stop w D (sym (ap (λ (m : Made Confirmation). m.told) (check_is s n H L)) ∙ e)

  -- the degree is the derivation's
  pub confirmed_degree : D ≡ derivation_degree s n H L
  confirmed_degree = says.2

  -- a claim is accepted
  pub confirmed_closed : T (reached s n H L).closed
  confirmed_closed = walk_complete (checking n H) (length s) s (begun (fresh L)) says.0

  module _ (a : T (is_hard_list n H)) (h : T (is_configuration n L)) where
    claimed : let x = reached s n H L in T (claim_fits x.claim) × (any_negative x.lines ≡ false) × (x.claim ≤ℤ weight x.lines ONE)
    claimed = (IsSound-check s n H L a h).claimed confirmed_closed

    -- the claim is from 0 to 10^12
    pub confirmed_range : T (claim_fits w)
    confirmed_range = rw says.1 claimed.0

    -- the claim is at most the cost of every assignment where every hard polynomial is 0
    pub confirmed_bound : (α : ℕ) → IsAdmissible H α → w ≤ℤ cost L α
    confirmed_bound α b =
        let x : State = reached s n H L in
        rw (says.1, ← check_cost s n H L α b, check_lines s n H L) (≤ℤ_trans x.claim (weight x.lines ONE) (cost x.lines α) claimed.2 (bound x.lines α claimed.1))

-- ---- one check after another: the costs are those at the start, and so is the bound
pub two_checks : (n : ℕ) (H : List (List ℕ)) (L : List Line) → T (is_hard_list n H) → T (is_configuration n L) → (s t : List ℕ) → (let M = (check_derivation s n H L).lines in
    ((α : ℕ) → IsAdmissible H α → cost (check_derivation t n H M).lines α ≡ cost L α)
    × ((w : ℤ) (D : ℕ) → (check_derivation t n H M).told ≡ confirmed w D → (α : ℕ) → IsAdmissible H α → w ≤ℤ cost L α))
two_checks n H L a h s t = let M : List Line = (check_derivation s n H L).lines in (
  λ α b. check_cost t n H M α b ∙ check_cost s n H L α b,
  λ w D e α b. rw (← check_cost s n H L α b) (confirmed_bound t n H M w D e a (check_configuration s n H L a h) α b),
)
