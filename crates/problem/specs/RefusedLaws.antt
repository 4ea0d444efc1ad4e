-- A filing's records lie in the bytes and depend on no byte after them. A refused filing makes what the accepted records before it make, and names the record
-- after them.
use Rattle.std.specs.Prelude.{◌≡◌, refl, Bool, true, false, cond, not, ◌&&◌, List, [], ◌∷◌, ℕ, suc, ◌+◌, ◌^◌, ◌≤◌, ◌<◌, leb, ltb, eqb, length, get_or, take}
use Rattle.std.proofs.Common.{sym, ap₂, ◌∙◌, arith, leb→le, get_or-take}
use Rattle.std.proofs.Math.Path.{ap}
use Rattle.refusal.specs.Refusal.{Refusal, numbered}
use Rattle.refusal.specs.Outcome.{Outcome, accepted, refused, unless, passing, mapped, refused_for, Reached, refused_at}
use Rattle.polynomial.specs.Polynomial.{ZERO, clause_of}
use Rattle.configuration.specs.Limits.{short}
use Rattle.record.specs.Letters.{letter_v, letter_m, letter_w, letter_c, letter_h}
use Rattle.record.specs.Record.{whole, number_at, signed, signed_at}
use Rattle.record.specs.RecordLaws.{number_take, whole-take}
use Rattle.walk.specs.Walk.{Progress, begun, past, read_all, RefusedNext, accepted_bytes}
use Rattle.walk.specs.Work.{term_added}
use Rattle.walk.specs.WalkLaws.{told_refused, Ends, same_outcome, unless_ind, mapped_ind, IfAccepted, IsLocal, refused_record, accepted_bytes_lem}
use Rattle.problem.specs.Item.{Item, weighted, hard, take_in}
use Rattle.problem.specs.Problem.{State, empty, having, weight_fits, with_item, on_variables, on_term, on_weight, on_clause, on_hard, on_record, filing, file_problem}
use Rattle.problem.specs.ProblemLaws.{record_ind}
use Rattle.walk.specs.WorkLaws as W

-- ---- an accepted record lies in the bytes
record_inside : (s : List ℕ) (p q : Progress State) → on_record s p ≡ accepted q → (p.at < q.at) × (q.at ≤ length s) × (q.records ≡ suc p.records)
record_inside s p q e = rw e at (record_ind s p (λ C r. IfAccepted (λ q. (p.at < q.at) × (q.at ≤ length s) × (q.records ≡ suc p.records)) r)
    (λ C n. tt)
    (λ h i j. (omega arith, omega (arith, leb→le (p.at + 1 + 1) (length s) i), refl))
    (λ t h i j k. (omega arith, omega (arith, leb→le (p.at + 1 + 4) (length s) i), refl))
    (λ w h i j k l. (omega arith, omega (arith, leb→le (p.at + 1 + 8) (length s) i), refl))
    (λ a b w h i j k l m n o. (omega arith, omega (arith, leb→le (p.at + 1 + 16) (length s) i), refl))
    (λ h i j. (omega arith, omega arith, refl)))

-- ---- the first K bytes give the same record, where it ends within them
module _ (s : List ℕ) (p : Progress State) (K : ℕ) (l : K ≤ length s) where
  variables_take : p.at + 2 ≤ K → on_variables (take K s) p ≡ on_variables s p
  variables_take h = ap₂ (λ (b : Bool) (x : ℕ). unless (not p.state.started) 4 (unless b 3 (unless (leb x 32) 5
      (accepted (past p 2 (record { started = true; variables = x; work = p.state.work; holding = p.state.holding }))))))
      (whole-take 1 (p.at + 1) K s (omega arith) l) (number_take 1 (p.at + 1) K s (omega arith))

  term_take : p.at + 5 ≤ K → on_term (take K s) p ≡ on_term s p
  term_take h = ap (λ (r : Outcome (List ℕ)). unless p.state.started 4 (mapped (λ f. past p 5 (having f p.state.holding p.state)) r))
      (W.term_take p.state.variables s (p.at + 1) p.state.work K l (omega arith))

  weight_take : p.at + 9 ≤ K → on_weight (take K s) p ≡ on_weight s p
  weight_take h = ap₂ (λ (b : Bool) (x : ℕ). unless p.state.started 4 (unless b 3 (unless (weight_fits (signed x)) 8
      (with_item p 9 ZERO (weighted p.state.work (signed x))))))
      (whole-take 8 (p.at + 1) K s (omega arith) l) (number_take 8 (p.at + 1) K s (omega arith))

  clause_take : p.at + 17 ≤ K → on_clause (take K s) p ≡ on_clause s p
  clause_take h =
      ap₂ (λ (b : Bool) (x : ℕ). with b x (number_at 4 (take K s) (p.at + 5)) (number_at 8 (take K s) (p.at + 9)))
      (whole-take 16 (p.at + 1) K s (omega arith) l) (number_take 4 (p.at + 1) K s (omega arith))
      ∙ ap₂ (λ (y z : ℕ). with (whole 16 s (p.at + 1)) (number_at 4 s (p.at + 1)) y z)
      (number_take 4 (p.at + 5) K s (omega arith)) (number_take 8 (p.at + 9) K s (omega arith))
    where
      with : Bool → ℕ → ℕ → ℕ → Outcome (Progress State)
      with b x y z = unless p.state.started 4 (unless b 3 (unless (ltb x (2 ^ p.state.variables) && ltb y (2 ^ p.state.variables)) 6
          (unless (weight_fits (signed z)) 8 (passing (short (clause_of x y) ∷ [])
          (with_item p 17 p.state.work (weighted (clause_of x y) (signed z)))))))

-- where a record of each kind ends, if it is accepted
Ends-item : (p : Progress State) (size : ℕ) (work : List ℕ) (i : Item) → Ends (p.at + size) (with_item p size work i)
Ends-item p size work i = mapped_ind (Ends (p.at + size)) (λ x. past p size (having work x p.state)) (take_in i p.state.holding) (λ r. tt) (λ x e. refl)

module _ (s : List ℕ) (p : Progress State) where
  Ends-variables : Ends (p.at + 2) (on_variables s p)
  Ends-variables =
      let E : Outcome (Progress State) → Type 0 = Ends (p.at + 2) in
      unless_ind E (not p.state.started) _ (λ r. tt) (λ h. unless_ind E (whole 1 s (p.at + 1)) _ (λ r. tt) (λ i.
      unless_ind E (leb (number_at 1 s (p.at + 1)) 32) _ (λ r. tt) (λ j. refl)))

  Ends-term : Ends (p.at + 5) (on_term s p)
  Ends-term =
      let E : Outcome (Progress State) → Type 0 = Ends (p.at + 5) in
      unless_ind E p.state.started _ (λ r. tt) (λ h. mapped_ind E (λ f. past p 5 (having f p.state.holding p.state))
      (term_added p.state.variables s (p.at + 1) p.state.work) (λ r. tt) (λ f e. refl))

  Ends-weight : Ends (p.at + 9) (on_weight s p)
  Ends-weight =
      let E : Outcome (Progress State) → Type 0 = Ends (p.at + 9) in
      unless_ind E p.state.started _ (λ r. tt) (λ h. unless_ind E (whole 8 s (p.at + 1)) _ (λ r. tt) (λ i.
      unless_ind E (weight_fits (signed_at s (p.at + 1))) _ (λ r. tt) (λ j.
      Ends-item p 9 ZERO (weighted p.state.work (signed_at s (p.at + 1))))))

  Ends-clause : Ends (p.at + 17) (on_clause s p)
  Ends-clause =
      let E : Outcome (Progress State) → Type 0 = Ends (p.at + 17) in
      let x : ℕ = number_at 4 s (p.at + 1) in
      let y : ℕ = number_at 4 s (p.at + 5) in
      unless_ind E p.state.started _ (λ r. tt) (λ h. unless_ind E (whole 16 s (p.at + 1)) _ (λ r. tt) (λ i.
      unless_ind E (ltb x (2 ^ p.state.variables) && ltb y (2 ^ p.state.variables)) _ (λ r. tt) (λ j.
      unless_ind E (weight_fits (signed_at s (p.at + 9))) _ (λ r. tt) (λ k. unless_ind E (leb (length (clause_of x y)) 64) _ (λ r. tt) (λ m.
      Ends-item p 17 p.state.work (weighted (clause_of x y) (signed_at s (p.at + 9))))))))

  Ends-hard : Ends (p.at + 1) (on_hard p)
  Ends-hard = unless_ind (Ends (p.at + 1)) p.state.started _ (λ r. tt) (λ h. Ends-item p 1 ZERO (hard p.state.work))

record_prefix : (s : List ℕ) (p q : Progress State) (K : ℕ) → K ≤ length s → q.at ≤ K → on_record s p ≡ accepted q → on_record (take K s) p ≡ accepted q
unfolding on_record
record_prefix s p q K l h e =
    let d : p.at < K = omega (arith, (record_inside s p q e).0) in
    let kind : ℕ = get_or s p.at 0 in
    rw (get_or-take K s p.at 0 d) (go (eqb kind letter_v) (eqb kind letter_m) (eqb kind letter_w) (eqb kind letter_c) (eqb kind letter_h) e)
  where
    -- by its kind
    kinds : (a b c d g : Bool) → List ℕ → Outcome (Progress State)
    kinds a b c d g s = cond a (on_variables s p) (cond b (on_term s p) (cond c (on_weight s p) (cond d (on_clause s p) (cond g (on_hard p) (refused (numbered 4))))))

    go : (a b c d g : Bool) → kinds a b c d g s ≡ accepted q → kinds a b c d g (take K s) ≡ accepted q
    go true b c d g f = same_outcome (p.at + 2) K (on_variables s p) (on_variables (take K s) p) q (Ends-variables s p) (variables_take s p K l) h f
    go false true c d g f = same_outcome (p.at + 5) K (on_term s p) (on_term (take K s) p) q (Ends-term s p) (term_take s p K l) h f
    go false false true d g f = same_outcome (p.at + 9) K (on_weight s p) (on_weight (take K s) p) q (Ends-weight s p) (weight_take s p K l) h f
    go false false false true g f = same_outcome (p.at + 17) K (on_clause s p) (on_clause (take K s) p) q (Ends-clause s p) (clause_take s p K l) h f
    go false false false false true f = f
    go false false false false false f = f

pub filing_local : IsLocal filing
filing_local = record { inside = record_inside; prefix = record_prefix }

module _ (s : List ℕ) (K : ℕ) (x : Refusal) (e : (file_problem s).told ≡ refused_at K x) where
  abbrev reading : Reached (Progress State)
  reading = read_all filing s empty

  stopped : (K ≡ suc reading.reached.records) × (reading.stop ≡ refused_for x)
  unfolding file_problem
  stopped = told_refused reading.reached.records tt reading.stop K x e

  pub refused_number : K ≡ suc reading.reached.records
  refused_number = stopped.0

  -- the refusal is that of the first record that is not accepted
  pub refused_first : RefusedNext filing s reading.reached x
  refused_first = refused_record filing filing_local (length s) s (begun empty) x (omega arith) stopped.1

  -- it makes what the bytes of the accepted records alone make
  pub refused_prefix : (let a = file_problem (accepted_bytes filing s empty) in
      ((file_problem s).variables ≡ a.variables) × ((file_problem s).lines ≡ a.lines) × ((file_problem s).hard ≡ a.hard))
  unfolding file_problem
  refused_prefix =
      let r : (read_all filing (accepted_bytes filing s empty) empty).reached ≡ reading.reached =
      ap (λ (w : Reached (Progress State)). w.reached) (accepted_bytes_lem filing filing_local s empty) in (
        ap (λ (p : Progress State). p.state.variables) (sym r),
        ap (λ (p : Progress State). p.state.holding.lines) (sym r),
        ap (λ (p : Progress State). p.state.holding.hard) (sym r),
      )
