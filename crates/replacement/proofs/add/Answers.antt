-- `add` meets its contract: the weight before and afterwards is judged, and only then the polynomial folded in at its place.
use mathlib.Core.Path.{refl, ◌∙◌}
use mathlib.Core.List.{[], ◌∷◌}
use Prim.Native.Nat.{◌^◌, ◌<◌}
use native.Mathlib.Omega.{arith}
use lib.Dec.{T}
use lib.IntN.{◌+ℤ◌}
use lib.Signed.{mag}
use mir.Syntax.{w64}
use mir.Val.{to_z, of_z}
use mir.Facts.{to_z-of_z}
use Rattle.std.proofs.lemmas.Result.{err_from_is_err_and}
use Rattle.configuration.specs.Configuration.{line, some, add_all}
use Rattle.table.proofs.Searches.{some_of, first_key_lem}
use Rattle.replacement.specs.Replacing.{weighed_in}
use Rattle.replacement.proofs.Weighings.{held_is, sum_small, sum_is}
use Rattle.replacement.proofs.Judgements.{Judged, judged_refused, judged_done, judged_few}
use Rattle.replacement.proofs.add.Goals as goal
use Rattle.replacement.proofs.add.Goals.{After-look_up-known, After-judge, Else-f, Start}

not_zero : (c : goal.Else-f) → T (some c.args.f.now)
not_zero c = some_of c.args.f.now c.if-f.false

small : (s : goal.Start) → mag s.args.amount < 2 ^ 45
small s = omega (arith, s.requires.2)

judged : (c : goal.After-judge) → (let L = c.args.table.now in let h = to_z w64 (of_z w64 c.look_up-known.result.weight) in
    let w = to_z w64 (of_z w64 c.args.amount) in
    Judged (line c.args.f.now c.args.amount ∷ []) L c.len-lines.result (record { at = c.look_up-known.result.at; before = h; after = to_z w64 (of_z w64 (h +ℤ w)) } ∷ []) c.judge.result)
unfolding weighed_in
judged c =
    let L = c.args.table.now in
    let s = small (goal.at.After-judge c).Start in
    let x = c.look_up-known.ensures in
    record {
      new_ordered = (not_zero (goal.at.After-judge c).Else-f, (c.requires.3, (tt, tt)));
      old_ordered = c.len-lines.ensures.ordered;
      old_fit = c.requires.0;
      counted = c.len-lines.ensures.lines;
      weighed = rw (
        x.at,
        sum_is L c.args.f.now c.args.amount c.len-lines.ensures.ordered c.requires.0 s _ _ x.weight refl,
        held_is L c.args.f.now c.args.amount c.len-lines.ensures.ordered c.requires.0 s _ _ x.weight refl,
      );
      is_told = c.judge.ensures;
    }

pub returns-in_err-judge : goal.returns-in_err-judge
unfolding add_all
returns-in_err-judge c =
    let p = err_from_is_err_and c.from_residual.result c.from_residual.ensures.1 in
    rw (p.1, p.2) (judged_refused (judged (goal.at.returns-in_err-judge c).After-judge) c.in_err-judge.field-0.0 c.in_err-judge.was)

pub add_at-requires : goal.add_at-requires
unfolding add_all
add_at-requires c =
    let n = not_zero (goal.at.add_at-requires c).Else-f in
    rw (to_z-of_z c.ranges.amount) (
      omega arith,
      (
        c.look_up-known.ensures.at,
        (
          c.look_up-known.ensures.weight,
          (
            n,
            (
              c.requires.1,
              (
                c.key-first.ensures.exact ∙ first_key_lem c.args.f.now n,
                (
                  sum_small c.args.table.now c.args.f.now c.args.amount c.len-lines.ensures.ordered c.requires.0 (small (goal.at.add_at-requires c).Start),
                  (
                      judged_few (judged (goal.at.add_at-requires c).After-judge) c.in_ok-judge.field-0 c.in_ok-judge.was),
                ),
              ),
            ),
          ),
        ),
      ),
    )

pub returns : goal.returns
unfolding add_all
returns c =
    judged_done (judged (goal.at.returns c).After-judge) c.in_ok-judge.field-0 c.in_ok-judge.was _ (rw (to_z-of_z c.ranges.amount) at c.add_at.ensures)
