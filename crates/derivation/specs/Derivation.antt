-- Checking a derivation: the records of document 01's derivation and document 02's hard step, what is refused, and what is confirmed.
use Rattle.std.specs.Prelude.{Bool, true, false, cond, not, ◌&&◌, List, [], ◌∷◌, ℕ, ◌+◌, max, eqb, ℤ, pos, length, get_or}
use Rattle.std.specs.Int.Signed.{le_z}
use Rattle.std.specs.declared.result.Result.{Result}
use Rattle.refusal.specs.Outcome.{Outcome, accepted, refused, unless, mapped, Told, answered, told}
use Rattle.term.specs.Term.{degree_of}
use Rattle.polynomial.specs.Polynomial.{ZERO, ONE}
use Rattle.configuration.specs.Weight.{limit}
use Rattle.configuration.specs.Configuration.{Line, polynomial_of, some, weight, any_negative}
use Rattle.configuration.specs.Made.{Made}
use Rattle.refusal.specs.Refusal.{numbered}
use Rattle.refusal.specs.declared.Refused.{Refused}
use Rattle.calculus.specs.Calculus.{step}
use Rattle.calculus.specs.declared.Rule.{Rule}
use Rattle.calculus.specs.declared.Rule.TheVariants.{Sum, Prod, Hard}
use Rattle.calculus.specs.declared.Mode.{Mode}
use Rattle.calculus.specs.declared.Mode.TheVariants.{Plain, Signed}
use Rattle.record.specs.Letters.{letter_n, letter_z, letter_m, letter_k, letter_s, letter_p, letter_e, letter_b}
use Rattle.record.specs.Record.{whole, number_at, signed_at}
use Rattle.walk.specs.Walk.{Progress, begun, past, Reader, read_all, verdict, gathered}
use Rattle.walk.specs.Work.{term_added}
use Rattle.derivation.specs.declared.Confirmed.{Confirmed}

-- what the accepted records made: whether N or Z was among them, and the mode; whether f is set, and f (0 where it is not); the work polynomial; the
-- lines; whether B was among them, and the claim
pub record State : Type 0 where
  pub started : Bool
  pub mode : Mode
  pub chosen : Bool
  pub first : List ℕ
  pub work : List ℕ
  pub lines : List Line
  pub closed : Bool
  pub claim : ℤ

abbrev pub fresh : List Line → State
fresh L = record { started = false; mode = Plain; chosen = false; first = ZERO; work = ZERO; lines = L; closed = false; claim = pos 0 }

-- between the mode and the claim
abbrev pub going : State → Bool
going x = x.started && not x.closed

-- the state with another f, set or not, another work polynomial and other lines
abbrev pub having : Bool → List ℕ → List ℕ → List Line → State → State
having b f g L x = record { started = x.started; mode = x.mode; chosen = b; first = f; work = g; lines = L; closed = x.closed; claim = x.claim }

-- the state with a mode, and the state with a claim
abbrev pub begins : Mode → State → State
begins d x = record {
  started = true;
  mode = d;
  chosen = x.chosen;
  first = x.first;
  work = x.work;
  lines = x.lines;
  closed = x.closed;
  claim = x.claim;
}

abbrev pub closes : ℤ → State → State
closes w x = record {
  started = x.started;
  mode = x.mode;
  chosen = x.chosen;
  first = x.first;
  work = x.work;
  lines = x.lines;
  closed = true;
  claim = w;
}

-- N, Z: the mode
abbrev pub on_mode : Mode → Progress State → Outcome (Progress State)
on_mode d p =
    unless (not p.state.started) 4
    (accepted (past p 1 (begins d p.state)))

-- M: a term is added to the work polynomial
abbrev pub on_term : ℕ → List ℕ → Progress State → Outcome (Progress State)
on_term n s p =
    let x = p.state in
    unless (going x) 4
    (mapped (λ g. past p 5 (having x.chosen x.first g x.lines x)) (term_added n s (p.at + 1) x.work))

-- K: the work polynomial becomes f, and is cleared
abbrev pub on_choice : Progress State → Outcome (Progress State)
on_choice p =
    let x = p.state in
    unless (going x && not x.chosen) 4
    (accepted (past p 1 (having true x.work ZERO x.lines x)))

-- the lines that a step leaves, in a record of so many bytes; f and the work polynomial are cleared
abbrev pub after_step : Progress State → ℕ → Outcome (List Line) → Outcome (Progress State)
after_step p size o = mapped (λ L. past p size (having false ZERO ZERO L p.state)) o

-- S, P: a step of f with the work polynomial, where H is the hard list
abbrev pub on_step : List (List ℕ) → Rule → List ℕ → Progress State → Outcome (Progress State)
on_step H r s p =
    let x = p.state in
    unless (going x && x.chosen) 4
    (unless (whole 8 s (p.at + 1)) 3
    (after_step p 9 (step H r x.mode x.first x.work (signed_at s (p.at + 1)) x.lines)))

-- E: a hard step of f with the work polynomial. Document 02: "record E has one byte for the hard polynomial's number, from 1, and an 8 byte amount w"
abbrev pub on_hard : List (List ℕ) → List ℕ → Progress State → Outcome (Progress State)
on_hard H s p =
    let x = p.state in
    unless (going x && x.chosen) 4
    (unless (whole 9 s (p.at + 1)) 3
    (after_step p 10 (step H (Hard (number_at 1 s (p.at + 1))) x.mode x.first x.work (signed_at s (p.at + 2)) x.lines)))

-- a claim is from 0 to 10^12
abbrev pub claim_fits : ℤ → Bool
claim_fits w = le_z (pos 0) w && le_z w (pos limit)

-- B: "A claim w is confirmed if no line is negative and w is at most the weight of the polynomial 1 (0 if not held)."
abbrev pub on_claim : List ℕ → Progress State → Outcome (Progress State)
on_claim s p =
    let x = p.state in
    let w = signed_at s (p.at + 1) in
    unless (going x && (not x.chosen && not (some x.work))) 4
    (unless (whole 8 s (p.at + 1)) 3
    (unless (claim_fits w) 8
    (unless (not (any_negative x.lines)) 12
    (unless (le_z w (weight x.lines ONE)) 13
    (accepted (past p 9 (closes w x)))))))

-- the kinds are the letters N, Z, M, K, S, P, E and B; n is the number of variables, H the hard list
unfoldable pub on_record : ℕ → List (List ℕ) → List ℕ → Progress State → Outcome (Progress State)
on_record n H s p =
    let kind = get_or s p.at 0 in
    cond (eqb kind letter_n) (on_mode Plain p)
    (cond (eqb kind letter_z) (on_mode Signed p)
    (cond (eqb kind letter_m) (on_term n s p)
    (cond (eqb kind letter_k) (on_choice p)
    (cond (eqb kind letter_s) (on_step H Sum s p)
    (cond (eqb kind letter_p) (on_step H Prod s p)
    (cond (eqb kind letter_e) (on_hard H s p)
    (cond (eqb kind letter_b) (on_claim s p)
    (refused (numbered 4)))))))))

-- at the end of the bytes B must have come
abbrev pub checking : ℕ → List (List ℕ) → Reader State
checking n H = record { on_record = on_record n H; complete = λ x. x.closed }

-- ---- the degree
-- the largest of some numbers, one for each member of a list; 0 of none
unfoldable pub largest : {A : Type 0} → (A → ℕ) → List A → ℕ
largest h [] = 0
largest h (x ∷ l) = max (h x) (largest h l)

-- the largest degree of a term in a configuration
unfoldable pub degree_in : List Line → ℕ
degree_in L = largest (λ l. largest degree_of (polynomial_of l)) L

-- what the record leaves that leads from p to q
abbrev pub left_after : List ℕ → Progress State → Progress State → List (List Line)
left_after s p q = q.state.lines ∷ []

-- the configurations on the way: at the start, and after each accepted record
abbrev pub on_the_way : List ℕ → ℕ → List (List ℕ) → List Line → List (List Line)
on_the_way s n H L = L ∷ gathered (checking n H) left_after (length s) s (begun (fresh L))

-- document 02: "the largest degree met on the way: over the standing at the start and after each accepted record"
unfoldable pub derivation_degree : List ℕ → ℕ → List (List ℕ) → List Line → ℕ
derivation_degree s n H L = largest degree_in (on_the_way s n H L)

-- ---- what a check makes of its bytes, a hard list and a configuration of n variables
-- a claim that is confirmed, and the degree
pub record Confirmation : Type 0 where
  pub claim : ℤ
  pub degree : ℕ

abbrev pub confirmed : ℤ → ℕ → Told Confirmation
confirmed w d = answered (record { claim = w; degree = d })

unfoldable pub check_derivation : List ℕ → ℕ → List (List ℕ) → List Line → Made Confirmation
check_derivation s n H L =
    let r = read_all (checking n H) s (fresh L) in
    let x = r.reached.state in
    record {
      variables = n;
      lines = x.lines;
      told = verdict r.reached.records (record { claim = x.claim; degree = derivation_degree s n H L }) r.stop;
    }

-- the paper's words for an answer
abbrev pub told_of_check : Result Confirmed Refused → Told Confirmation
told_of_check r = told (λ c. record { claim = c.claim; degree = c.degree }) r
