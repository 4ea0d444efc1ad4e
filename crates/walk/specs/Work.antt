-- The record M, which both files have: it "adds the term to the work polynomial". Its refusals: 3 body cut short; 6 a variable beyond n; 7 a 65th term, told as 65 terms (02, Ask 6).
use Rattle.std.specs.Prelude.{List, [], ◌∷◌, ℕ, ◌^◌, ltb}
use Rattle.refusal.specs.Outcome.{Outcome, accepted, unless, passing}
use Rattle.polynomial.specs.Polynomial.{sum_of}
use Rattle.configuration.specs.Limits.{short}
use Rattle.record.specs.Record.{whole, number_at}

unfoldable pub term_added : ℕ → List ℕ → ℕ → List ℕ → Outcome (List ℕ)
term_added n s at f =
    let t = number_at 4 s at in
    let g = sum_of (t ∷ []) f in
    unless (whole 4 s at) 3
    (unless (ltb t (2 ^ n)) 6
    (passing (short g ∷ [])
    (accepted g)))
