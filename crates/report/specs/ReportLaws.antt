-- Laws of what is left in a lent area: an answer's length is at most the area's, and no text is empty, so that a length of 0 says that the area is too short.
use Rattle.std.specs.Prelude.{◌≡◌, List, ◌++◌, ℕ, ◌≤◌, ◌<◌, leb, length, drop}
use Rattle.std.proofs.Common.{ap, arith, length-append}
use Rattle.run.specs.BooleanLaws.{cond_ind}
use Rattle.refusal.specs.Refusal.{Refusal}
use Rattle.refusal.specs.Outcome.{Told, answered, refused_at}
use Rattle.problem.specs.Problem.{file_problem}
use Rattle.derivation.specs.Derivation.{Confirmation, check_derivation}
use Rattle.listing.specs.Listing.{listing_of}
use Rattle.listing.specs.Code.{code_of}
use Rattle.report.specs.Report.{refusal_text, confirmed_text, verdict_text, code_text, if_filed, code_output, check_output, code_of_file, check_of_files, Given, given}

-- ---- what is written fits
given_fits : (room : ℕ) (text area : List ℕ) → (given room text area).size ≤ length (given room text area).area
given_fits room text area = cond_ind (leb room (length area)) (λ (g : Given). g.size ≤ length g.area)
    (λ t. omega (arith, length-append text (drop (length text) area)))
    (λ t. omega arith)

pub report_fits : (room : ℕ) (text area b : List ℕ) (n : ℕ) → ◌≡◌ {A = Given} (record { area = b; size = n }) (given room text area) → n ≤ length b
report_fits room text area b n e =
    let l : b ≡ (given room text area).area = ap (λ (g : Given). g.area) e in
    let k : n ≡ (given room text area).size = ap (λ (g : Given). g.size) e in
    rw (k, l) (given_fits room text area)

-- ---- no text is empty
behind : (a b : List ℕ) → 0 < length b → 0 < length (a ++ b)
behind a b h = omega (arith, length-append a b, h)

refusal_some : (x : Refusal) (k : ℕ) → 0 < length (refusal_text x k)
unfolding refusal_text
refusal_some x k = omega arith

verdict_some : (t : Told Confirmation) → 0 < length (verdict_text t)
unfolding confirmed_text
verdict_some (answered x) = omega arith
verdict_some (refused_at k x) = refusal_some x k

filed_some : (t : Told (Unit {0})) (text : List ℕ) → 0 < length text → 0 < length (if_filed t text)
filed_some (answered x) text h = h
filed_some (refused_at k x) text h = omega arith

pub check_some : (s t : List ℕ) → 0 < length (check_of_files s t)
unfolding check_output
check_some s t =
    let x = file_problem s in
    let y = check_derivation t x.variables x.hard x.lines in
    let before : List ℕ = listing_of x.variables x.hard x.lines in
    let after : List ℕ = listing_of y.variables x.hard y.lines in
    cond_ind (leb (length s) 8192) (λ (z : List ℕ). 0 < length z)
    (λ a. cond_ind (leb (length t) 8192) (λ (z : List ℕ). 0 < length z)
    (λ b. filed_some x.told (before ++ after ++ verdict_text y.told) (behind (before ++ after) (verdict_text y.told) (verdict_some y.told)))
    (λ b. omega arith))
    (λ a. omega arith)

pub code_some : (s : List ℕ) → 0 < length (code_of_file s)
unfolding code_output
code_some s =
    let x = file_problem s in
    cond_ind (leb (length s) 8192) (λ (z : List ℕ). 0 < length z)
    (λ a. filed_some x.told (code_text (code_of x.variables x.hard x.lines)) (omega arith))
    (λ a. omega arith)
