-- A refused check: it names the record after the accepted ones, and leaves what these make. The first accepted records, alone, are accepted again; so is a record with any
-- bytes behind it.
use Rattle.std.specs.Prelude.{◌≡◌, refl, Bool, true, false, cond, not, ◌&&◌, List, ◌++◌, ℕ, suc, ◌+◌, ◌≤◌, ◌<◌, eqb, ℤ, length, get_or, take}
use Rattle.std.proofs.Common.{sym, ap, ap₂, subst, ◌∙◌, arith, leb→le, length-append, get_or-take}
use Rattle.std.specs.Int.Signed.{le_z}
use Rattle.std.proofs.Math.Seq.{take-append_seam}
use Rattle.refusal.specs.Refusal.{Refusal, numbered}
use Rattle.refusal.specs.Outcome.{Outcome, accepted, refused, unless, mapped, refused_for, refused_at}
use Rattle.polynomial.specs.Polynomial.{ZERO, ONE}
use Rattle.configuration.specs.Configuration.{Line, some, weight, any_negative}
use Rattle.configuration.specs.Made.{Made}
use Rattle.calculus.specs.Calculus.{step}
use Rattle.calculus.specs.declared.Rule.{Rule}
use Rattle.calculus.specs.declared.Rule.TheVariants.{Sum, Prod, Hard}
use Rattle.calculus.specs.declared.Mode.TheVariants.{Plain, Signed}
use Rattle.record.specs.Letters.{letter_n, letter_z, letter_m, letter_k, letter_s, letter_p, letter_e, letter_b}
use Rattle.record.specs.Record.{whole, number_at, signed}
use Rattle.record.specs.RecordLaws.{number_take, whole-take}
use Rattle.walk.specs.Walk.{Progress, begun, past, over, walk, RefusedNext, accepted_bytes}
use Rattle.walk.specs.Work.{term_added}
use Rattle.walk.specs.WalkLaws.{told_refused, unless_ind, mapped_ind, IfAccepted, Ends, same_outcome, IsLocal, refused_record, turns_records, records_prefix}
use Rattle.walk.specs.WorkLaws.{term_inside, term_take}
use Rattle.derivation.specs.Derivation.{State, fresh, going, having, closes, on_mode, on_term, on_choice, after_step, on_step, on_hard, claim_fits, on_claim, on_record, checking, derivation_degree, Confirmation, check_derivation}
use Rattle.derivation.proofs.DerivationLaws.{record_ind, walked, made_by, check_is, check_lines}

-- ---- an accepted record takes bytes that are there, and counts as one
record_inside : (n : ℕ) (H : List (List ℕ)) (s : List ℕ) (p q : Progress State) → on_record n H s p ≡ accepted q → (p.at < q.at) × (q.at ≤ length s) × (q.records ≡ suc p.records)
record_inside n H s p q e = rw e at (record_ind n H s p (IfAccepted (λ q. (p.at < q.at) × (q.at ≤ length s) × (q.records ≡ suc p.records)))
    (λ k. tt)
    (λ d l h. (omega arith, omega arith, refl))
    (λ g h e. (omega arith, omega (arith, term_inside n s (p.at + 1) p.state.work g e), refl))
    (λ l h. (omega arith, omega arith, refl))
    (λ r w size L h z i e. (omega arith, omega arith, refl))
    (λ w h i j k l. (omega arith, omega (arith, leb→le (p.at + 1 + 8) (length s) i), refl)))

-- ---- the first K bytes give the same record, where it ends within them
module _ (n : ℕ) (H : List (List ℕ)) (s : List ℕ) (p : Progress State) (K : ℕ) (l : K ≤ length s) where
  terms_take : p.at + 5 ≤ K → on_term n (take K s) p ≡ on_term n s p
  terms_take h =
      let x : State = p.state in
      ap (λ (r : Outcome (List ℕ)). unless (going x) 4 (mapped (λ g. past p 5 (having x.chosen x.first g x.lines x)) r))
      (term_take n s (p.at + 1) x.work K l (omega arith))

  steps_take : (r : Rule) → p.at + 9 ≤ K → on_step H r (take K s) p ≡ on_step H r s p
  steps_take r h =
      let x : State = p.state in
      ap₂ (λ (b : Bool) (v : ℕ). unless (going x && x.chosen) 4 (unless b 3 (after_step p 9 (step H r x.mode x.first x.work (signed v) x.lines))))
      (whole-take 8 (p.at + 1) K s (omega arith) l) (number_take 8 (p.at + 1) K s (omega arith))

  hards_take : p.at + 10 ≤ K → on_hard H (take K s) p ≡ on_hard H s p
  hards_take h =
      let x : State = p.state in
      let on : Bool → ℕ → ℕ → Outcome (Progress State) = λ b i v.
      unless (going x && x.chosen) 4 (unless b 3 (after_step p 10 (step H (Hard i) x.mode x.first x.work (signed v) x.lines))) in
      ap (λ (b : Bool). on b (number_at 1 (take K s) (p.at + 1)) (number_at 8 (take K s) (p.at + 2))) (whole-take 9 (p.at + 1) K s (omega arith) l)
      ∙ ap₂ (on (whole 9 s (p.at + 1))) (number_take 1 (p.at + 1) K s (omega arith)) (number_take 8 (p.at + 2) K s (omega arith))

  claims_take : p.at + 9 ≤ K → on_claim (take K s) p ≡ on_claim s p
  claims_take h =
      let x : State = p.state in
      ap₂ (λ (b : Bool) (v : ℕ). unless (going x && (not x.chosen && not (some x.work))) 4 (unless b 3 (unless (claim_fits (signed v)) 8
      (unless (not (any_negative x.lines)) 12 (unless (le_z (signed v) (weight x.lines ONE)) 13 (accepted (past p 9 (closes (signed v) x))))))))
      (whole-take 8 (p.at + 1) K s (omega arith) l) (number_take 8 (p.at + 1) K s (omega arith))

-- where a record of each kind ends, if it is accepted
module _ (n : ℕ) (H : List (List ℕ)) (s : List ℕ) (p : Progress State) where
  Ends-term : Ends (p.at + 5) (on_term n s p)
  Ends-term =
      let x : State = p.state in
      let E : Outcome (Progress State) → Type 0 = Ends (p.at + 5) in
      unless_ind E (going x) _ (λ k. tt) (λ h.
      mapped_ind E (λ g. past p 5 (having x.chosen x.first g x.lines x)) (term_added n s (p.at + 1) x.work) (λ k. tt) (λ g e. refl))

  Ends-taken : (size : ℕ) (o : Outcome (List Line)) → Ends (p.at + size) (after_step p size o)
  Ends-taken size o = mapped_ind (Ends (p.at + size)) (λ L. past p size (having false ZERO ZERO L p.state)) o (λ k. tt) (λ L e. refl)

  Ends-step : (r : Rule) → Ends (p.at + 9) (on_step H r s p)
  Ends-step r =
      let x : State = p.state in
      let E : Outcome (Progress State) → Type 0 = Ends (p.at + 9) in
      unless_ind E (going x && x.chosen) _ (λ k. tt) (λ h. unless_ind E (whole 8 s (p.at + 1)) _ (λ k. tt) (λ i.
      Ends-taken 9 (step H r x.mode x.first x.work (signed (number_at 8 s (p.at + 1))) x.lines)))

  Ends-hard : Ends (p.at + 10) (on_hard H s p)
  Ends-hard =
      let x : State = p.state in
      let E : Outcome (Progress State) → Type 0 = Ends (p.at + 10) in
      unless_ind E (going x && x.chosen) _ (λ k. tt) (λ h. unless_ind E (whole 9 s (p.at + 1)) _ (λ k. tt) (λ i.
      Ends-taken 10 (step H (Hard (number_at 1 s (p.at + 1))) x.mode x.first x.work (signed (number_at 8 s (p.at + 2))) x.lines)))

  Ends-claim : Ends (p.at + 9) (on_claim s p)
  Ends-claim =
      let x : State = p.state in
      let w : ℤ = signed (number_at 8 s (p.at + 1)) in
      let E : Outcome (Progress State) → Type 0 = Ends (p.at + 9) in
      unless_ind E (going x && (not x.chosen && not (some x.work))) _ (λ k. tt) (λ a.
      unless_ind E (whole 8 s (p.at + 1)) _ (λ k. tt) (λ b. unless_ind E (claim_fits w) _ (λ k. tt) (λ c.
      unless_ind E (not (any_negative x.lines)) _ (λ k. tt) (λ d.
      unless_ind E (le_z w (weight x.lines ONE)) _ (λ k. tt) (λ e. refl)))))

-- in two lists of bytes each kind of record at a progress is the same, where it ends at K or before
record SameUpTo (n : ℕ) (H : List (List ℕ)) (p : Progress State) (K : ℕ) (s z : List ℕ) : Type 0 where
  kind : get_or z p.at 0 ≡ get_or s p.at 0
  terms : p.at + 5 ≤ K → on_term n z p ≡ on_term n s p
  steps : (r : Rule) → p.at + 9 ≤ K → on_step H r z p ≡ on_step H r s p
  hards : p.at + 10 ≤ K → on_hard H z p ≡ on_hard H s p
  claims : p.at + 9 ≤ K → on_claim z p ≡ on_claim s p

same_take : (n : ℕ) (H : List (List ℕ)) (p : Progress State) (K : ℕ) (s : List ℕ) → K ≤ length s → p.at < K → SameUpTo n H p K s (take K s)
same_take n H p K s l d = record {
  kind = get_or-take K s p.at 0 d;
  terms = terms_take n H s p K l;
  steps = steps_take n H s p K l;
  hards = hards_take n H s p K l;
  claims = claims_take n H s p K l;
}

same_sym : (n : ℕ) (H : List (List ℕ)) (p : Progress State) (K : ℕ) (s z : List ℕ) → SameUpTo n H p K s z → SameUpTo n H p K z s
same_sym n H p K s z a = record {
  kind = sym a.kind;
  terms = λ h. sym (a.terms h);
  steps = λ r h. sym (a.steps r h);
  hards = λ h. sym (a.hards h);
  claims = λ h. sym (a.claims h);
}

same_record : (n : ℕ) (H : List (List ℕ)) (p q : Progress State) (K : ℕ) (s z : List ℕ) → SameUpTo n H p K s z → q.at ≤ K
    → on_record n H s p ≡ accepted q → on_record n H z p ≡ accepted q
unfolding on_record
same_record n H p q K s z both h e =
    let kind : ℕ = get_or s p.at 0 in
    rw both.kind
    (go (eqb kind letter_n) (eqb kind letter_z) (eqb kind letter_m) (eqb kind letter_k) (eqb kind letter_s) (eqb kind letter_p) (eqb kind letter_e) (eqb kind letter_b) e)
  where
    go : (a b c d i j k l : Bool)
        → cond a (on_mode Plain p) (cond b (on_mode Signed p) (cond c (on_term n s p) (cond d (on_choice p)
        (cond i (on_step H Sum s p) (cond j (on_step H Prod s p) (cond k (on_hard H s p) (cond l (on_claim s p) (refused (numbered 4))))))))) ≡ accepted q
        → cond a (on_mode Plain p) (cond b (on_mode Signed p) (cond c (on_term n z p) (cond d (on_choice p)
        (cond i (on_step H Sum z p) (cond j (on_step H Prod z p) (cond k (on_hard H z p) (cond l (on_claim z p) (refused (numbered 4))))))))) ≡ accepted q
    go true b c d i j k l f = f
    go false true c d i j k l f = f
    go false false true d i j k l f = same_outcome (p.at + 5) K (on_term n s p) (on_term n z p) q (Ends-term n H s p) both.terms h f
    go false false false true i j k l f = f
    go false false false false true j k l f = same_outcome (p.at + 9) K (on_step H Sum s p) (on_step H Sum z p) q (Ends-step n H s p Sum) (both.steps Sum) h f
    go false false false false false true k l f = same_outcome (p.at + 9) K (on_step H Prod s p) (on_step H Prod z p) q (Ends-step n H s p Prod) (both.steps Prod) h f
    go false false false false false false true l f = same_outcome (p.at + 10) K (on_hard H s p) (on_hard H z p) q (Ends-hard n H s p) both.hards h f
    go false false false false false false false true f = same_outcome (p.at + 9) K (on_claim s p) (on_claim z p) q (Ends-claim n H s p) both.claims h f
    go false false false false false false false false f = f

record_prefix : (n : ℕ) (H : List (List ℕ)) (s : List ℕ) (p q : Progress State) (K : ℕ) → K ≤ length s → q.at ≤ K → on_record n H s p ≡ accepted q
    → on_record n H (take K s) p ≡ accepted q
record_prefix n H s p q K l h e = same_record n H p q K s (take K s) (same_take n H p K s l (omega (arith, (record_inside n H s p q e).0))) h e

-- and bytes behind it change nothing
pub record_more : (n : ℕ) (H : List (List ℕ)) (s t : List ℕ) (p q : Progress State) → on_record n H s p ≡ accepted q → on_record n H (s ++ t) p ≡ accepted q
record_more n H s t p q e =
    let K : ℕ = length s in
    let i : (p.at < q.at) × (q.at ≤ K) × (q.records ≡ suc p.records) = record_inside n H s p q e in
    let l : K ≤ length (s ++ t) = omega (arith, length-append s t) in
    let a : SameUpTo n H p K (s ++ t) s = subst (SameUpTo n H p K (s ++ t)) (take-append_seam s t) (same_take n H p K (s ++ t) l (omega (arith, i.0, i.1))) in
    same_record n H p q K s (s ++ t) (same_sym n H p K (s ++ t) s a) i.1 e

pub checking_local : (n : ℕ) (H : List (List ℕ)) → IsLocal (checking n H)
checking_local n H = record { inside = record_inside n H; prefix = record_prefix n H }

-- ---- the first accepted records, alone
-- how far a check comes in k records
abbrev pub reached_in : ℕ → List ℕ → ℕ → List (List ℕ) → List Line → Progress State
reached_in k s n H L = (walk (checking n H) k s (begun (fresh L))).reached

-- up to the number of accepted records, these are just k
pub check_prefix_records : (s : List ℕ) (n : ℕ) (H : List (List ℕ)) (L : List Line) (k : ℕ) → k ≤ (walked s n H L).reached.records → (reached_in k s n H L).records ≡ k
check_prefix_records s n H L k h = turns_records (checking n H) (checking_local n H) k (length s) s (begun (fresh L)) (omega arith) ∙ omega arith

-- a check of their bytes comes to their end: none of them is refused
pub check_prefix : (s : List ℕ) (n : ℕ) (H : List (List ℕ)) (L : List Line) (k : ℕ)
    → (let z = take (reached_in k s n H L).at s in check_derivation z n H L ≡ made_by n (derivation_degree z n H L) (over (checking n H) (reached_in k s n H L)))
check_prefix s n H L k =
    let z : List ℕ = take (reached_in k s n H L).at s in
    check_is z n H L ∙ ap (made_by n (derivation_degree z n H L)) (records_prefix (checking n H) (checking_local n H) k s (fresh L))

module _ (s : List ℕ) (n : ℕ) (H : List (List ℕ)) (L : List Line) (K : ℕ) (x : Refusal) (e : (check_derivation s n H L).told ≡ refused_at K x) where
  -- it names the record after the accepted ones
  pub check_refused_number : (K ≡ suc (walked s n H L).reached.records) × ((walked s n H L).stop ≡ refused_for x)
  check_refused_number =
      told_refused (walked s n H L).reached.records _ (walked s n H L).stop K x (sym (ap (λ (m : Made Confirmation). m.told) (check_is s n H L)) ∙ e)

  -- the reason is that of the first record that is not accepted, or that the bytes end without a claim
  pub check_refused_first : RefusedNext (checking n H) s (walked s n H L).reached x
  check_refused_first = refused_record (checking n H) (checking_local n H) (length s) s (begun (fresh L)) x (omega arith) check_refused_number.1

-- refused or not, the lines are those that checking the bytes of the accepted records leaves
pub check_refused_prefix : (s : List ℕ) (n : ℕ) (H : List (List ℕ)) (L : List Line)
    → (check_derivation s n H L).lines ≡ (check_derivation (accepted_bytes (checking n H) s (fresh L)) n H L).lines
check_refused_prefix s n H L = check_lines s n H L ∙ sym (ap (λ (m : Made Confirmation). m.lines) (check_prefix s n H L (length s)))
