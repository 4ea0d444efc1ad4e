-- What each record does, by the tests that it fails or passes in their order, as code has found them.
use mathlib.Core.Path.{◌≡◌, refl, sym, ap, ◌∙◌}
use mathlib.Core.Bool.{Bool, true, false, not, ◌&&◌}
use mathlib.Core.List.{List, [], ◌∷◌}
use Prim.Native.Nat.{ℕ, zero, suc, ◌+◌, ◌≤◌}
use native.Mathlib.Omega.{arith}
use lib.Dec.{leb, leb→le, le→leb}
use lib.IntN.{ℤ}
use lib.Signed.{le_z}
use lib.ListN.{length, take}
use Rattle.std.specs.declared.option.Option.{Option}
use Rattle.std.specs.declared.option.Option.TheVariants.{Some, None}
use Rattle.std.specs.Prelude.{◌==◌, max, option_map, is_some, unwrap_or, IfOk, IfErr}
use Rattle.refusal.specs.Refusal.{refusal_of}
use Rattle.refusal.specs.Outcome.{Reached, after, stop_of}
use Rattle.refusal.specs.OutcomeLaws.{after-accepted, after-refused}
use Rattle.refusal.specs.declared.Reason.{Reason}
use Rattle.run.specs.BooleanLaws.{of_true}
use Rattle.polynomial.specs.Polynomial.{ZERO, ONE, IsBelow, RunBelow}
use Rattle.hard.specs.Hard.{hard_at}
use Rattle.configuration.specs.Configuration.{Line, Every, some, weight, any_negative}
use Rattle.calculus.specs.Calculus.{step}
use Rattle.calculus.specs.CalculusLaws.{step_run}
use Rattle.calculus.specs.declared.Mode.{Mode}
use Rattle.std.specs.declared.result.Result.{Result}
use Rattle.std.specs.declared.result.Result.TheVariants.{Ok, Err}
use borrow.Author.Tests.{ne_eqb}
use Rattle.walk.specs.Held.{progress_at, Does}
use Rattle.calculus.specs.declared.Rule.{Rule}
use Rattle.record.specs.Record.{whole, signed_at, byte_in, amount_in}
use Rattle.record.proofs.Bodies.{byte_cut, byte_whole, amount_cut, amount_whole}
use Rattle.walk.specs.Walk.{Progress}
use Rattle.walk.specs.Work.{term_added}
use Rattle.refusal.specs.declared.Reason.TheVariants.{CutShort, Misplaced, OutOfRange, NegativeLine, ClaimTooHigh}
use Rattle.derivation.specs.Derivation.{State, going, claim_fits, on_term, on_step, on_hard, on_claim, degree_in}
use Rattle.derivation.specs.Held.{Begun, state_in, is_going, is_free, is_idle, hard_ask, step_asked, IsUsable}

-- ---- S, P, E: what their bodies ask for
-- where j bytes do not stand, as many or more do not either
fewer_bytes : (j k : ℕ) (s : List ℕ) (at : ℕ) → j ≤ k → whole j s at ≡ false → whole k s at ≡ false
fewer_bytes j k s at h e = go (whole k s at) refl
  where
    go : (b : Bool) → whole k s at ≡ b → b ≡ false
    go true f = absurd (rw e at (le→leb (at + j) (length s) (omega (arith, leb→le (at + k) (length s) (of_true f)))))
    go false f = refl

module _ (H : List (List ℕ)) (s : List ℕ) (p : Progress State) where
  pub step_asks : (r : Rule) → on_step H r s p ≡ step_asked H (option_map (λ w. (r, w)) (amount_in s (p.at + 1))) 9 p
  step_asks r = go (amount_in s (p.at + 1)) refl
    where
      go : (a : Option ℤ) → amount_in s (p.at + 1) ≡ a → on_step H r s p ≡ step_asked H (option_map (λ w. (r, w)) a) 9 p
      go None e = rw (amount_cut s (p.at + 1) e)
      go (Some w) e = rw ((amount_whole s (p.at + 1) w e).0, (amount_whole s (p.at + 1) w e).1)

  -- E's body is a byte and an amount
  body : whole 9 s (p.at + 1) ≡ whole 8 s (p.at + 2)
  body = let same : p.at + 1 + 9 ≡ p.at + 2 + 8 = omega arith in ap (λ (k : ℕ). leb k (length s)) same

  pub hard_asks : on_hard H s p ≡ step_asked H (hard_ask s p.at) 10 p
  hard_asks = go (byte_in s (p.at + 1)) (amount_in s (p.at + 2)) refl refl
    where
      go : (b : Option ℕ) (a : Option ℤ) → byte_in s (p.at + 1) ≡ b → amount_in s (p.at + 2) ≡ a → on_hard H s p ≡ step_asked H (hard_ask s p.at) 10 p
      go None a e f = rw (e, fewer_bytes 1 9 s (p.at + 1) (omega arith) (byte_cut s (p.at + 1) e))
      go (Some i) None e f = rw (e, f, body ∙ amount_cut s (p.at + 2) f)
      go (Some i) (Some w) e f =
          rw (e, f, body ∙ (amount_whole s (p.at + 2) w f).0, (byte_whole s (p.at + 1) i e).1, (amount_whole s (p.at + 2) w f).1)

-- the same of what code leaves
module _ (H : List (List ℕ)) (s : List ℕ) (at : ℕ) (x y : State) (o : Result ℕ Reason) where
  pub as_step : (r : Rule) (a : Option (Rule × ℤ)) → a ≡ option_map (λ w. (r, w)) (amount_in s (at + 1)) → Does (step_asked H a 9) at x o y → Does (on_step H r s) at x o y
  as_step r a e d i =
      d i ∙ ap (λ (b : Option (Rule × ℤ)). after (progress_at at i x) (step_asked H b 9 (progress_at at i x))) e
      ∙ ap (after (progress_at at i x)) (sym (step_asks H s (progress_at at i x) r))

  pub as_hard : (a : Option (Rule × ℤ)) → a ≡ hard_ask s at → Does (step_asked H a 10) at x o y → Does (on_hard H s) at x o y
  as_hard a e d i =
      d i ∙ ap (λ (b : Option (Rule × ℤ)). after (progress_at at i x) (step_asked H b 10 (progress_at at i x))) e
      ∙ ap (after (progress_at at i x)) (sym (hard_asks H s (progress_at at i x)))

-- ---- the largest degree after a record that asks for a step: a refused one leaves the lines as they were
pub degree_left : (H : List (List ℕ)) (ask : Option (Rule × ℤ)) (size : ℕ) (b c : Begun) (L M : List Line) (o : Result ℕ Reason)
    → ((at : ℕ) → Does (step_asked H ask size) at (state_in b L) o (state_in c M)) → degree_in L ≤ b.degree
    → IfOk o (λ _. c.degree ≡ max b.degree (degree_in M)) → IfErr o (λ _. c.degree ≡ b.degree) → c.degree ≡ max b.degree (degree_in M)
degree_left H ask size b c L M (Ok n) d m e k = e
degree_left H ask size b c L M (Err reason) d m e k =
    let p : Progress State = progress_at 0 0 (state_in b L) in
    let q : Progress State = progress_at 0 0 (state_in c M) in
    let same : q ≡ p = (after-refused p q (refusal_of reason) (step_asked H ask size p) (d 0 0)).1 in
    omega (arith, k, m, ap (λ (x : Progress State). degree_in x.state.lines) same)

-- ---- the lines of a step that is taken
pub step_lines : (H : List (List ℕ)) (r : Rule) (d : Mode) (f g : List ℕ) (w : ℤ) (L M : List Line) (o : Result (Unit {0}) Reason) (u : Unit {0})
    → ◌≡◌ {A = Reached (List Line)} (record { reached = M; stop = stop_of o }) (after L (step H r d f g w L)) → o ≡ Ok u
    → RunBelow 32 f → RunBelow 32 g → Every (RunBelow 32) L → ((i : ℕ) → IsBelow 32 (hard_at H i)) → Every (RunBelow 32) M
step_lines H r d f g w L M o u e k a b l h = step_run H r d f g w 32 L M h a b l (after-accepted L M (step H r d f g w L) (rw k at e))

-- ---- what is held, v, is what the fields say, b
module _ (v b : Begun) (same : v ≡ b) where
  -- what a step asks of f and of the work polynomial
  pub first_below : (H : List (List ℕ)) (L : List Line) (f : List ℕ) → v.first ≡ Some f → IsUsable H (state_in b L) → IsBelow 32 f
  first_below H L f e a =
      let is : unwrap_or b.first ZERO ≡ f = rw same at (ap (λ (o : Option (List ℕ)). unwrap_or o ZERO) e) in
      rw is at a.1

  pub work_below : (H : List (List ℕ)) (L : List Line) → IsUsable H (state_in b L) → IsBelow 32 v.work
  work_below H L a = rw same a.2

  -- a term that is added
  module _ (n : ℕ) (s : List ℕ) (at : ℕ) (g : List ℕ) (o : Result (Unit {0}) Reason)
      (e : ◌≡◌ {A = Reached (List ℕ)} (record { reached = g; stop = stop_of o }) (after v.work (term_added n s (at + 1) v.work))) where
    abbrev with_sum : Begun
    with_sum = record { mode = v.mode; first = v.first; work = g; claim = v.claim; degree = v.degree }

    module _ (h : is_going b ≡ true) (L : List Line) where
      pub term_refused : (reason : Reason) → o ≡ Err reason → Does (on_term n s) at (state_in b L) (Err reason) (state_in with_sum L)
      term_refused reason k i =
          let d : _ = after-refused v.work g (refusal_of reason) (term_added n s (at + 1) v.work) (rw k at e) in
          rw (d.1, ← same) (rw (going_is, d.0))
        where
          going_is : is_going v ≡ true
          going_is = rw same h

      pub term_accepted : (u : Unit {0}) → o ≡ Ok u → Does (on_term n s) at (state_in b L) (Ok 5) (state_in with_sum L)
      term_accepted u k i =
          let d : _ = after-accepted v.work g (term_added n s (at + 1) v.work) (rw k at e) in
          rw (← same) (rw (going_is, d))
        where
          going_is : is_going v ≡ true
          going_is = rw same h

  -- no term, as code tells it
  pub idle_is : is_free b ≡ true → (t : Bool) → t ≡ not (some v.work) → t ≡ is_idle b
  idle_is h t e = e ∙ rw (same, h)

pub no_term : (f : List ℕ) (n : ℕ) → n ≤ length f → (n == 0) ≡ not (some (take n f))
no_term f zero h = refl
no_term [] (suc n) h = absurd (omega arith)
no_term (t ∷ f) (suc n) h = ne_eqb (suc n) 0 (λ e. omega arith)

-- ---- B
module _ (s : List ℕ) (at : ℕ) (b : Begun) (L : List Line) where
  -- the record is refused with a reason, whatever the number of those before it
  abbrev Refuses : Reason → Type 0
  Refuses reason = Does (on_claim s) at (state_in b L) (Err reason) (state_in b L)

  misplaced : (a c d e : Bool) → (a && not c && not d && not e) ≡ false → (a && not c && (not d && not e)) ≡ false
  misplaced false c d e h = refl
  misplaced true true d e h = refl
  misplaced true false true e h = refl
  misplaced true false false e h = h

  idle_so : (a c d e : Bool) → (a && not c && not d && not e) ≡ true → (a && not c && (not d && not e)) ≡ true
  idle_so false c d e h = h
  idle_so true true d e h = h
  idle_so true false true e h = h
  idle_so true false false e h = h

  pub claim_misplaced : is_idle b ≡ false → Refuses Misplaced
  claim_misplaced h i = rw (misplaced (is_some b.mode) (is_some b.claim) (is_some b.first) (some b.work) h)

  module _ (h : is_idle b ≡ true) where
    idle : (going (state_in b L) && (not (is_some b.first) && not (some b.work))) ≡ true
    idle = idle_so (is_some b.mode) (is_some b.claim) (is_some b.first) (some b.work) h

    pub claim_cut : amount_in s (at + 1) ≡ None → Refuses CutShort
    claim_cut k i = rw (idle, amount_cut s (at + 1) k)

    module _ (w : ℤ) (a : amount_in s (at + 1) ≡ Some w) where
      whole_amount : (whole 8 s (at + 1) ≡ true) × (signed_at s (at + 1) ≡ w)
      whole_amount = amount_whole s (at + 1) w a

      pub claim_range : claim_fits w ≡ false → Refuses OutOfRange
      claim_range k i = rw (idle, whole_amount.0, whole_amount.1, k)

      module _ (f : claim_fits w ≡ true) where
        pub claim_negative : any_negative L ≡ true → Refuses NegativeLine
        claim_negative k i = rw (idle, whole_amount.0, whole_amount.1, f, k)

        module _ (m : any_negative L ≡ false) where
          pub claim_high : le_z w (weight L ONE) ≡ false → Refuses ClaimTooHigh
          claim_high k i = rw (idle, whole_amount.0, whole_amount.1, f, m, k)

          pub claim_closed : le_z w (weight L ONE) ≡ true
              → Does (on_claim s) at (state_in b L) (Ok 9) (state_in (record { mode = b.mode; first = b.first; work = b.work; claim = Some w; degree = b.degree }) L)
          claim_closed k i = rw (idle, whole_amount.0, whole_amount.1, f, m, k)
