-- How code holds what both files have: the work polynomial, and what a record leaves, whatever the reader: code answers how many bytes an accepted record has, or
-- why it is refused, and holds the state.
use Rattle.std.specs.Prelude.{◌≡◌, ℕ, ◌≤◌, length}
use Rattle.std.specs.declared.result.Result.{Result}
use Rattle.std.specs.declared.result.Result.TheVariants.{Ok, Err}
use Rattle.refusal.specs.Refusal.{refusal_of}
use Rattle.refusal.specs.Outcome.{Outcome, Reached, nothing, refused_for, after}
use Rattle.refusal.specs.declared.Reason.{Reason}
use Rattle.polynomial.specs.Polynomial.{terms_of, IsOrdered}
use Rattle.polynomial.specs.declared.Polynomial.{Polynomial}
use Rattle.walk.specs.Walk.{Progress, past}

-- a polynomial that terms are added to: it has its area, and its terms stand in order
pub record IsWork (p : Polynomial) : Type 0 where
  pub area : length p.terms ≡ 64
  pub room : p.count ≤ 64
  pub ordered : IsOrdered (terms_of p)

-- the progress that a record leaves, with the state y, and what stops it
abbrev pub left_in : {S : Type 0} → Result ℕ Reason → Progress S → S → Reached (Progress S)
left_in (Ok size) p y = record { reached = past p size y; stop = nothing }
left_in (Err reason) p y = record { reached = record { at = p.at; records = p.records; state = y }; stop = refused_for (refusal_of reason) }

-- the progress at a place, with the state x
abbrev pub progress_at : {S : Type 0} → ℕ → ℕ → S → Progress S
progress_at at k x = record { at = at; records = k; state = x }

-- a record at a place leaves of the state x what a definition says, however many records are accepted before it
abbrev pub Does : {S : Type 0} → (Progress S → Outcome (Progress S)) → ℕ → S → Result ℕ Reason → S → Type 0
Does on at x r y = (k : ℕ) → left_in r (progress_at at k x) y ≡ after (progress_at at k x) (on (progress_at at k x))
