use mathlib.Core.Path.{◌≡◌, sym, ap, subst, ◌∙◌}
use mathlib.Core.List.{List}
use Prim.Native.Nat.{ℕ, ◌-◌, ◌^◌}
use native.Mathlib.Omega.{arith}
use lib.IntN.{ℤ, pos}
use lib.ListN.{length-set, length-replicate, replicate}
use Rattle.table.specs.Rows.{Fits, in_turn}
use Rattle.table.specs.RowsLaws.{fresh_fits}
use Rattle.table.proofs.Small.{nought_below}
use Rattle.table.proofs.Turns.{turn_more, turn_end}
use Rattle.table.proofs.Table.new.Goals as goal

pub loop-i-init : goal.loop-i-init
loop-i-init g c =
    let e : g.row.ROWS - 0 ≡ g.row.ROWS = omega arith in
    (length-replicate {A = ℕ} g.row.ROWS 0, ap (λ (n : ℕ). in_turn n 0) e)

pub loop-i-preserved : goal.loop-i-preserved
loop-i-preserved g c =
    let l = c.loop-i in (
      length-set l.order l.i l.i ∙ l.invariant.0,
      turn_more l.order g.row.ROWS l.i (omega arith) (omega arith) ∙ l.invariant.1,
    )

pub invariant_of-result : goal.invariant_of-result
invariant_of-result g c =
    let l = c.loop-i in
    let n = g.row.ROWS in
    let m = g.row.TERMS in
    let none : List ℕ = replicate m 0 in
    let x : Fits n (record { lines = 0; order = in_turn n 0; terms = none; weights = replicate n (pos 0); counts = replicate n 0 }) =
    fresh_fits n none (replicate n (pos 0)) (replicate n 0) c.requires.few (length-replicate {A = ℕ} m 0 ∙ c.requires.room) (length-replicate {A = ℤ} n (pos 0))
    (length-replicate {A = ℕ} n 0) in
    let e = turn_end l.order n l.i (omega arith) (omega (arith, l.invariant.0)) ∙ l.invariant.1 in
    record {
      fits = subst (λ (is : List ℕ). Fits n (record { lines = 0; order = is; terms = none; weights = replicate n (pos 0); counts = replicate n 0 })) (sym e) x;
      small = nought_below (2 ^ 32) (omega arith) m;
    }
