-- What is left to read from the progress on gives the whole.
use Rattle.std.proofs.Common.{length, ◌-◌, ◌≤◌}
use Rattle.walk.specs.Walk.{read_all}
use Rattle.walk.specs.Held.{progress_at}
use Rattle.walk.proofs.Leads.{Leads}
use Rattle.problem.specs.Problem.{filing}
use Rattle.problem.specs.ProblemLaws.{IsSound}
use Rattle.problem.specs.Held.{state_in}
use Rattle.problem.proofs.filing.Filing.read.Given as goal

abbrev pub invariant-loop-at : goal.invariant-loop-at
invariant-loop-at l =
    (l.at ≤ length l.bytes) × (l.records ≤ l.at) × IsSound (state_in l.self l.lines l.hard)
    × Leads filing l.bytes (read_all filing l.bytes (state_in l.initial.self l.initial.lines l.initial.hard)) (progress_at l.at l.records (state_in l.self l.lines l.hard))

abbrev pub decreases-loop-at : goal.decreases-loop-at
decreases-loop-at l = length l.bytes - l.at
