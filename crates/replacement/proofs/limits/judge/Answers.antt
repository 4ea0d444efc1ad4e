-- `judge` meets its contract: both tests are made, and the lines told first.
use mathlib.Core.Path.{◌≡◌, sym, ◌∙◌}
use mathlib.Core.Bool.{not}
use Prim.Native.Nat.{◌+◌}
use native.Mathlib.Omega.{arith}
use borrow.Author.Tests.{lt-leb, le-leb}
use Rattle.std.proofs.Common.{rules}
use Rattle.std.specs.List.{count_by}
use Rattle.configuration.specs.Weight.{is_zero, all_in_range}
use Rattle.replacement.specs.Passes.{count_held}
use Rattle.replacement.specs.Replacing.{old_weights, new_weights}
use Rattle.replacement.proofs.Judgements.{held_old, held_new, range_new}
use Rattle.replacement.proofs.limits.judge.Goals as goal
use Rattle.replacement.proofs.limits.judge.Goals.{After-count-after, After-all_fit}

counted : (c : goal.After-count-after) → (let K = c.args.weighed.now in (c.count-before.result ≡ count_held (old_weights K)) × (c.count-after.result ≡ count_held (new_weights K)))
counted c =
    let K = c.args.weighed.now in
    let b : c.count-before.result ≡ count_by (λ k. not (is_zero k.before)) K = search rules in
    let a : c.count-after.result ≡ count_by (λ k. not (is_zero k.after)) K = search rules in
    (b ∙ held_old K, a ∙ held_new K)

ranged : (c : goal.After-all_fit) → c.all_fit.result ≡ all_in_range (new_weights c.args.weighed.now)
ranged c = c.all_fit.ensures ∙ range_new c.args.weighed.now

pub returns-then-before-held : goal.returns-then-before-held
returns-then-before-held c =
    let n = counted (goal.at.returns-then-before-held c).After-count-after in
    let K = c.args.weighed.now in
    λ o. rw (lt-leb (c.args.held + count_held (new_weights K)) (128 + count_held (old_weights K)) (omega (arith, n)))

pub returns-then-not-all_fit : goal.returns-then-not-all_fit
returns-then-not-all_fit c =
    let n = counted (goal.at.returns-then-not-all_fit c).After-count-after in
    let K = c.args.weighed.now in
    λ o. rw (le-leb (c.args.held + count_held (new_weights K)) (128 + count_held (old_weights K)) (omega (arith, n)), sym (ranged (goal.at.returns-then-not-all_fit c).After-all_fit) ∙ c.if-not-all_fit.true)

pub returns : goal.returns
returns c =
    let n = counted (goal.at.returns c).After-count-after in
    let K = c.args.weighed.now in
    λ o. rw (le-leb (c.args.held + count_held (new_weights K)) (128 + count_held (old_weights K)) (omega (arith, n)), sym (ranged (goal.at.returns c).After-all_fit) ∙ c.if-not-all_fit.false)
