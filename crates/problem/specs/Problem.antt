-- Filing a problem: the records of a filing of document 01, with H of document 02, and what is refused.
use Rattle.std.specs.Prelude.{Bool, true, false, cond, not, ◌&&◌, List, [], ◌∷◌, ℕ, ◌+◌, ◌^◌, leb, ltb, eqb, ℤ, pos, get_or}
use Rattle.std.specs.Int.Signed.{le_z}
use Rattle.refusal.specs.Outcome.{Outcome, accepted, refused, unless, passing, mapped, Told, answered, told}
use Rattle.polynomial.specs.Polynomial.{ZERO, clause_of}
use Rattle.configuration.specs.Configuration.{Line, some}
use Rattle.configuration.specs.Limits.{short}
use Rattle.refusal.specs.Refusal.{numbered}
use Rattle.refusal.specs.declared.Refused.{Refused}
use Rattle.std.specs.declared.result.Result.{Result}
use Rattle.record.specs.Letters.{letter_v, letter_m, letter_w, letter_c, letter_h}
use Rattle.record.specs.Record.{whole, number_at, signed_at}
use Rattle.walk.specs.Walk.{Progress, past, Reader, read_all, verdict}
use Rattle.walk.specs.Work.{term_added}
use Rattle.problem.specs.Item.{Item, weighted, hard, Holding, nothing_held, take_in}

-- what the accepted records made: whether V was among them, the variables, the work polynomial, and what is held
pub record State : Type 0 where
  pub started : Bool
  pub variables : ℕ
  pub work : List ℕ
  pub holding : Holding

abbrev pub empty : State
empty = record { started = false; variables = 0; work = ZERO; holding = nothing_held }

-- the state with another work polynomial and other things held
abbrev pub having : List ℕ → Holding → State → State
having work holding x = record { started = true; variables = x.variables; work = work; holding = holding }

-- "Filing weights are 1 to 1,000,000,000."
abbrev pub weight_fits : ℤ → Bool
weight_fits w = le_z (pos 1) w && le_z w (pos 1000000000)

-- a record of so many bytes that files an item; the work polynomial is then another
abbrev pub with_item : Progress State → ℕ → List ℕ → Item → Outcome (Progress State)
with_item p size work i = mapped (λ x. past p size (having work x p.state)) (take_in i p.state.holding)

-- V: the number of variables; the rest, which is empty before V, stays
abbrev pub on_variables : List ℕ → Progress State → Outcome (Progress State)
on_variables s p =
    let n = number_at 1 s (p.at + 1) in
    unless (not p.state.started) 4
    (unless (whole 1 s (p.at + 1)) 3
    (unless (leb n 32) 5
    (accepted (past p 2 (record { started = true; variables = n; work = p.state.work; holding = p.state.holding })))))

-- M: a term is added to the work polynomial
abbrev pub on_term : List ℕ → Progress State → Outcome (Progress State)
on_term s p =
    unless p.state.started 4
    (mapped (λ f. past p 5 (having f p.state.holding p.state)) (term_added p.state.variables s (p.at + 1) p.state.work))

-- W: the work polynomial is added at a weight, and cleared
abbrev pub on_weight : List ℕ → Progress State → Outcome (Progress State)
on_weight s p =
    let w = signed_at s (p.at + 1) in
    unless p.state.started 4
    (unless (whole 8 s (p.at + 1)) 3
    (unless (weight_fits w) 8
    (with_item p 9 ZERO (weighted p.state.work w))))

-- C: a clause is added at a weight; the work polynomial is untouched
abbrev pub on_clause : List ℕ → Progress State → Outcome (Progress State)
on_clause s p =
    let plain = number_at 4 s (p.at + 1) in
    let negated = number_at 4 s (p.at + 5) in
    let w = signed_at s (p.at + 9) in
    unless p.state.started 4
    (unless (whole 16 s (p.at + 1)) 3
    (unless (ltb plain (2 ^ p.state.variables) && ltb negated (2 ^ p.state.variables)) 6
    (unless (weight_fits w) 8
    (passing (short (clause_of plain negated) ∷ [])
    (with_item p 17 p.state.work (weighted (clause_of plain negated) w))))))

-- H: the work polynomial is filed as a hard one, and cleared; there is no body
abbrev pub on_hard : Progress State → Outcome (Progress State)
on_hard p = unless p.state.started 4 (with_item p 1 ZERO (hard p.state.work))

-- the kinds are the letters V, M, W, C and H
unfoldable pub on_record : List ℕ → Progress State → Outcome (Progress State)
on_record s p =
    let kind = get_or s p.at 0 in
    cond (eqb kind letter_v) (on_variables s p)
    (cond (eqb kind letter_m) (on_term s p)
    (cond (eqb kind letter_w) (on_weight s p)
    (cond (eqb kind letter_c) (on_clause s p)
    (cond (eqb kind letter_h) (on_hard p)
    (refused (numbered 4))))))

-- at the end of the bytes V must have come, and the work polynomial be empty
abbrev pub filing : Reader State
filing = record { on_record = on_record; complete = λ x. x.started && not (some x.work) }

-- ---- what a filing makes of its bytes: the number of variables, the hard list, the lines, and what it tells
pub record FilingMade : Type 0 where
  pub variables : ℕ
  pub hard : List (List ℕ)
  pub lines : List Line
  pub told : Told (Unit {0})

abbrev pub filed : Told (Unit {0})
filed = answered tt

unfoldable pub file_problem : List ℕ → FilingMade
file_problem s =
    let r = read_all filing s empty in
    record {
      variables = r.reached.state.variables;
      hard = r.reached.state.holding.hard;
      lines = r.reached.state.holding.lines;
      told = verdict r.reached.records tt r.stop;
    }

-- the paper's words for an answer
abbrev pub told_of_filing : Result (Unit {0}) Refused → Told (Unit {0})
told_of_filing r = told (λ u. u) r
