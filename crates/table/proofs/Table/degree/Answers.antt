use mathlib.Core.Path.{ap, ◌∙◌}
use Prim.Native.Nat.{ℕ, ◌/◌, ◌^◌}
use native.Mathlib.Omega.{arith}
use Rattle.table.proofs.Lined.{many, degree_is}
use Rattle.table.proofs.Table.degree.Goals as goal

pub returns : goal.returns
returns g c =
    let q = c.self.invariant in
    ap (λ (k : ℕ). k / 2 ^ 32) c.key_at.ensures ∙ degree_is q.fits c.self.view_is q.small (omega (arith, many q.fits c.self.view_is, c.if-self-eq0.false))
