-- The records before this one are added up.
use Rattle.std.proofs.Common.{◌≡◌, ◌*◌, ◌≤◌, take}
use Rattle.memory.specs.Places.{used_by}
use Rattle.memory.proofs.entries.used_by.Given as goal

abbrev pub invariant-loop-entry : goal.invariant-loop-entry
invariant-loop-entry l = (l.used ≡ used_by (take l.entry-index l.entries)) × (l.used ≤ 4294967296 * l.entry-index)
