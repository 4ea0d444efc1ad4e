-- Reading the records in code: what is sound before a record is so after it, and what is told where the walk ends.
use Rattle.std.proofs.Common.{◌≡◌, ap, List, ℕ, suc, ◌+◌, T, arith}
use Rattle.refusal.specs.Outcome.{nothing, refused_for, Reached, Told, refused_at, after}
use Rattle.refusal.specs.OutcomeLaws.{after-accepted}
use Rattle.refusal.specs.Refusal.{Refusal}
use Rattle.configuration.specs.Configuration.{weights_fit}
use Rattle.configuration.specs.LineLaws.{configuration_parts}
use Rattle.walk.specs.Walk.{Progress, verdict}
use Rattle.problem.specs.Problem.{State, on_record}
use Rattle.problem.specs.ProblemLaws.{IsSound, IsSound-record}

pub sound_weights : (x : State) → IsSound x → T (weights_fit x.holding.lines)
sound_weights x h = (configuration_parts x.variables x.holding.lines h.configuration).weights

pub next_sound : (s : List ℕ) (p q : Progress State) → ◌≡◌ {A = Reached (Progress State)} (record { reached = q; stop = nothing }) (after p (on_record s p))
    → IsSound p.state → IsSound q.state
next_sound s p q e h = IsSound-record s p q (after-accepted p q (on_record s p) e) h

pub told_next : (k : ℕ) (x : Refusal) → ◌≡◌ {A = Told (Unit {0})} (refused_at (k + 1) x) (verdict k tt (refused_for x))
told_next k x = let e : k + 1 ≡ suc k = omega arith in ap (λ (k : ℕ). refused_at k x) e
