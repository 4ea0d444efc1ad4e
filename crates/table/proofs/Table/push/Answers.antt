-- `push` meets its contract: the line is put in behind all others.
use mathlib.Core.Path.{◌≡◌, sym, ap₂, subst, ◌∙◌}
use mathlib.Core.List.{List, [], ◌∷◌, ◌++◌}
use Prim.Native.Nat.{ℕ, ◌≤◌}
use native.Mathlib.Omega.{arith}
use lib.Dec.{T}
use lib.ListN.{length, take, drop, drop_of_length-le}
use lib.Seq.{take_all}
use mir.Facts.{to_z-of_z}
use Rattle.configuration.specs.Configuration.{Line, line, some, IsInOrder}
use Rattle.table.proofs.Lined.{many}
use Rattle.table.proofs.Searches.{some-length, first_key_lem}
use Rattle.table.proofs.Written.{last_some}
use Rattle.table.proofs.Table.push.Goals as goal

-- the place behind all lines
at_end : (n : ℕ) (L : List Line) (x : Line) → length L ≤ n → take n L ++ x ∷ drop n L ≡ L ++ x ∷ []
at_end n L x h = ap₂ (λ (a b : List Line). a ++ x ∷ b) (take_all n L h) (drop_of_length-le L {i = n} h)

pub bounds-f-0 : goal.bounds-f-0
bounds-f-0 g c = some-length c.args.f.now (last_some c.args.self.now c.args.f.now c.args.weight c.requires.ordered)

pub insert-requires : goal.insert-requires
insert-requires g c =
    let q = c.self.invariant.fits in
    let L = c.args.self.now in
    let f = c.args.f.now in
    let w = c.args.weight in
    let m = many q c.self.view_is in
    let s : T (some f) = last_some L f w c.requires.ordered in (
      omega arith,
      (
        omega (arith, m),
        (
          c.requires.room,
          (s, (c.requires.short, (c.key-first.ensures.exact ∙ first_key_lem f s, rw (to_z-of_z c.ranges.weight) (subst IsInOrder (sym (at_end c.self.inside.lines L (line f w) (omega (arith, m)))) c.requires.ordered)))),
        ),
      ),
    )

pub returns : goal.returns
returns g c =
    let m = many c.self.invariant.fits c.self.view_is in
    rw (← at_end c.self.inside.lines c.args.self.now (line c.args.f.now c.args.weight) (omega (arith, m))) (rw (to_z-of_z c.ranges.weight) at c.insert.ensures)
