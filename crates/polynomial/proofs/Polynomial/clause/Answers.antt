-- `Polynomial::clause` meets its contract: with a variable both ways the clause is 0, and else has as many terms as its plain literals have subsets.
use mathlib.Core.Path.{◌≡◌, sym, ap, ◌∙◌}
use Prim.Native.Nat.{ℕ, ◌*◌, ◌%◌, ◌^◌, ◌≤◌}
use native.Mathlib.Nat.{one-mul}
use native.Mathlib.Omega.{arith}
use lib.Dec.{lit<}
use lib.ListN.{length}
use lib.Pow.{pow-lt, shl_exact}
use Rattle.term.specs.TermLaws.{degree_le}
use Rattle.polynomial.specs.ClauseLaws.{clause_length}
use Rattle.polynomial.specs.Polynomial.{clause_of}
use Rattle.polynomial.proofs.Keys.{outcome_long}
use Rattle.polynomial.proofs.Polynomial.clause.Goals as goal
use Rattle.polynomial.proofs.Polynomial.clause.Goals.{After-degree-literals}

-- a 32-bit mask has at most 32 variables
few : (c : goal.After-degree-literals) → c.degree-literals.result ≤ 32
few c = omega (arith, c.degree-literals.ensures, degree_le 32 c.args.plain c.ranges.plain.fits)

pub returns-then-literals-gt6 : goal.returns-then-literals-gt6
returns-then-literals-gt6 c =
    let p = c.args.plain in
    let n = c.args.negated in
    let d = c.degree-literals.result in
    let shifted : 1 * 2 ^ d % 2 ^ 64 ≡ 2 ^ d = shl_exact 1 d 64 (lit< tt) (omega (arith, few (goal.at.returns-then-literals-gt6 c).After-degree-literals)) ∙ one-mul (2 ^ d) in
    let long : 2 ^ d ≡ length (clause_of p n) =
    ap (λ (k : ℕ). 2 ^ k) c.degree-literals.ensures ∙ sym (clause_length p n c.ranges.plain.fits c.ranges.negated.fits c.if-plain-negated-ne0.false) in
    outcome_long (clause_of p n) (1 * 2 ^ d % 2 ^ 64) (shifted ∙ long) (omega (arith, shifted, pow-lt {i = 6} {j = d} (omega arith)))
