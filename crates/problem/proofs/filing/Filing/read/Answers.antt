use Rattle.std.proofs.Common.{◌≡◌, refl, sym, ap, ◌∙◌, arith, ◌+◌, ◌≤◌, ◌<◌, List, ℕ, suc, length, Bool, true, false}
use Rattle.std.specs.declared.result.Result.{Result}
use Rattle.std.specs.declared.result.Result.TheVariants.{Ok}
use Rattle.std.specs.Prelude.{cond}
use Rattle.refusal.specs.Refusal.{numbered}
use Rattle.refusal.specs.Outcome.{Reached, Stop, nothing, refused_for, Told, after}
use Rattle.refusal.specs.declared.Reason.{Reason}
use Rattle.walk.specs.Walk.{Progress, over, past, read_all, verdict}
use Rattle.walk.specs.Held.{progress_at, left_in}
use Rattle.walk.proofs.Leads.{begins, ends, inside, next_leads, ends_refused}
use Rattle.problem.specs.Problem.{State, filing, on_record}
use Rattle.problem.specs.RefusedLaws.{filing_local}
use Rattle.problem.specs.Held.{state_in}
use Rattle.problem.proofs.Walks.{sound_weights, next_sound, told_next}
use Rattle.problem.proofs.filing.Filing.read.Goals as goal
use Rattle.problem.proofs.filing.Filing.read.Goals.{After-on_record, In-loop-at}

-- the progress before a record, and the one that it leaves
abbrev was : goal.In-loop-at → Progress State
was c = let l = c.loop-at in progress_at l.at l.records (state_in l.self l.lines l.hard)

abbrev state : goal.After-on_record → State
state c = state_in c.on_record.new.self c.on_record.new.lines c.on_record.new.hard

-- what code says of the record
left : (c : goal.After-on_record) → (let q = was (goal.at.After-on_record c).In-loop-at in left_in c.on_record.result q (state c) ≡ after q (on_record c.args.bytes.now q))
left c = c.on_record.ensures c.loop-at.records

pub loop-at-init : goal.loop-at-init
loop-at-init c =
    let a = c.args in
    (omega arith, omega arith, c.requires, begins filing a.bytes.now _ (progress_at 0 0 (state_in a.self.now a.lines.now a.hard.now)) refl refl)

pub on_record-requires : goal.on_record-requires
on_record-requires c = let l = c.loop-at in (c.loop-at-test.true, sound_weights (state_in l.self l.lines l.hard) l.invariant.2)

-- an accepted record
accepts : (c : goal.After-on_record) (size : ℕ) → c.on_record.result ≡ Ok size
    → (let q = was (goal.at.After-on_record c).In-loop-at in ◌≡◌ {A = Reached (Progress State)} (record { reached = past q size (state c); stop = nothing }) (after q (on_record c.args.bytes.now q)))
accepts c size e = let q = was (goal.at.After-on_record c).In-loop-at in ap (λ (r : Result ℕ Reason). left_in r q (state c)) (sym e) ∙ left c

inside_of : (c : goal.After-on_record) (size : ℕ) → c.on_record.result ≡ Ok size → (c.loop-at.at < c.loop-at.at + size) × (c.loop-at.at + size ≤ length c.args.bytes.now)
inside_of c size e =
    let q = was (goal.at.After-on_record c).In-loop-at in
    let i = inside filing c.args.bytes.now q (past q size (state c)) filing_local (accepts c size e) in
    (i.0, i.1)

pub overflow_add-at : goal.overflow_add-at
overflow_add-at c =
    let i = inside_of (goal.at.overflow_add-at c).After-on_record c.in-Ok.size c.in-Ok.is in
    let h : c.loop-at.at + c.in-Ok.size < 18446744073709551616 = omega (arith, i.1) in
    record { fits = h }

pub loop-at-smaller : goal.loop-at-smaller
loop-at-smaller c = let i = inside_of (goal.at.loop-at-smaller c).After-on_record c.in-Ok.size c.in-Ok.is in omega (arith, i.0, i.1)

pub loop-at-preserved : goal.loop-at-preserved
loop-at-preserved c =
    let l = c.loop-at in
    let x = (goal.at.loop-at-preserved c).After-on_record in
    let q = was (goal.at.loop-at-preserved c).In-loop-at in
    let e = accepts x c.in-Ok.size c.in-Ok.is in
    let i = inside_of x c.in-Ok.size c.in-Ok.is in
    let n : l.records + 1 ≡ suc l.records = omega arith in (
      i.1,
      omega (arith, i.0, l.invariant.1),
      next_sound c.args.bytes.now q (past q c.in-Ok.size (state x)) e l.invariant.2,
      rw n (next_leads filing c.args.bytes.now q (past q c.in-Ok.size (state x)) filing_local e _ l.invariant.1 c.loop-at-test.true l.invariant.3),
    )

-- what the walk makes where it ends with the progress q, and what is told
pub made : (s : List ℕ) (x : State) (q : Progress State) (y : Stop) → record { reached = q; stop = y } ≡ read_all filing s x
    → (let w = read_all filing s x in (q.state ≡ w.reached.state) × ◌≡◌ {A = Told (Unit {0})} (verdict q.records (tt {0}) y) (verdict w.reached.records (tt {0}) w.stop))
made s x q y e = (ap (λ (w : Reached (Progress State)). w.reached.state) e, ap (λ (w : Reached (Progress State)). verdict w.reached.records (tt {0}) w.stop) e)

pub returns-in-Err : goal.returns-in-Err
returns-in-Err c =
    let l = c.loop-at in
    let x = (goal.at.returns-in-Err c).After-on_record in
    let q = was (goal.at.returns-in-Err c).In-loop-at in
    let a = c.args in
    let r : Progress State = progress_at l.at l.records (state x) in
    let e = ap (λ (r : Result ℕ Reason). left_in r q (state x)) (sym c.in-Err.is) ∙ left x in
    let m = made a.bytes.now _ r _ (ends_refused filing a.bytes.now q r _ e _ l.invariant.1 c.loop-at-test.true l.invariant.3) in
    (m.0, told_next l.records _ ∙ m.1)

pub returns-then-not-is_complete : goal.returns-then-not-is_complete
returns-then-not-is_complete c =
    let l = c.loop-at in
    let q : Progress State = progress_at l.at l.records (state_in l.self l.lines l.hard) in
    let m = made c.args.bytes.now _ q (over filing q).stop (ends filing c.args.bytes.now _ q c.loop-at-test.false l.invariant.3) in
    let b : filing.complete q.state ≡ false = sym (c.is_complete.ensures l.lines l.hard) ∙ c.if-not-is_complete.true in
    (m.0, told_next l.records _ ∙ ap (λ (y : Bool). verdict l.records (tt {0}) (cond y nothing (refused_for (numbered 15)))) (sym b) ∙ m.1)

pub returns : goal.returns
returns c =
    let l = c.loop-at in
    let q : Progress State = progress_at l.at l.records (state_in l.self l.lines l.hard) in
    let m = made c.args.bytes.now _ q (over filing q).stop (ends filing c.args.bytes.now _ q c.loop-at-test.false l.invariant.3) in
    let b : filing.complete q.state ≡ true = sym (c.is_complete.ensures l.lines l.hard) ∙ c.if-not-is_complete.false in
    (m.0, ap (λ (y : Bool). verdict l.records (tt {0}) (cond y nothing (refused_for (numbered 15)))) (sym b) ∙ m.1)
