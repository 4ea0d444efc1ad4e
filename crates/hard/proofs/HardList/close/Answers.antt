-- `close` meets its contract: polynomial by polynomial the areas are those of the list.
use Rattle.std.proofs.Common.{◌≡◌, ap, ◌∙◌, arith, ◌+◌, ◌*◌, ◌++◌, ◌<◌, ◌≤◌, ℕ, List, length, take, drop, take_all, replicate, set}
use Rattle.hard.specs.Hard.{laid_hard, hard_image}
use Rattle.hard.specs.HeldLaws.{next_counts, next_places}
use Rattle.hard.proofs.HardList.close.Goals as goal
use Rattle.hard.proofs.HardList.close.Goals.{After-loop-i}

pub loop-i-init : goal.loop-i-init
unfolding laid_hard
loop-i-init c =
    (c.fill.ensures.after (λ y h. h) ∙ ap (λ (n : ℕ). replicate n 0) c.requires.0, c.fill-2.ensures.after (λ y h. h) ∙ ap (λ (n : ℕ). replicate n 0) c.requires.1)

pub write-requires : goal.write-requires
write-requires c = omega (arith, c.loop-i.auto.places, c.fill-2.ensures.len, c.requires.1, c.polynomial-f.ensures.short, c.loop-i-test.true, c.len-i-end.ensures.few)

pub loop-i-preserved : goal.loop-i-preserved
loop-i-preserved c =
    let l = c.loop-i in
    let H = c.args.self.now in
    let f = c.polynomial-f.result.now in
    let n = c.len-i-end.ensures in
    let b : l.i < length H = omega (arith, c.loop-i-test.true, n.number) in
    let r : length H ≤ 16 = omega (arith, n.number, n.few) in (
      ap (λ (cs : List ℕ). set cs l.i (length f)) l.invariant.0 ∙ next_counts H n.short r l.i b f c.polynomial-f.ensures.terms c.polynomial-f.ensures.short,
      c.write.ensures ∙ ap (λ (ps : List ℕ). take (64 * l.i) ps ++ (f ++ drop (64 * l.i + length f) ps)) l.invariant.1
          ∙ next_places H n.short r l.i b f c.polynomial-f.ensures.terms c.polynomial-f.ensures.short,
    )

all_written : (c : After-loop-i) → take c.loop-i.i c.args.self.now ≡ c.args.self.now
all_written c = take_all c.loop-i.i c.args.self.now (omega (arith, c.loop-i-test.false, c.len-i-end.ensures.number))

pub returns-clause-counts : goal.returns-clause-counts
returns-clause-counts c = c.loop-i.invariant.0 ∙ ap (λ (H : List (List ℕ)). (hard_image H).counts) (all_written c)

pub returns-clause-places : goal.returns-clause-places
returns-clause-places c = c.loop-i.invariant.1 ∙ ap (λ (H : List (List ℕ)). (hard_image H).places) (all_written c)
