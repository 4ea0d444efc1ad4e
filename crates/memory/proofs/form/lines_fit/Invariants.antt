-- What is left to test: the lines that the other records count, behind the last polynomial.
use Rattle.std.proofs.Common.{◌≡◌, ◌-◌, ◌≤◌, length, drop}
use Rattle.memory.specs.Memory.{read_lines}
use Rattle.memory.specs.Places.{used_by}
use Rattle.memory.proofs.Forms.{both_fit, chained}
use Rattle.memory.proofs.form.lines_fit.Given as goal

abbrev pub invariant-loop-entry : goal.invariant-loop-entry
invariant-loop-entry l =
    (used_by (drop l.entry-index l.entries) ≤ length l.rest)
    × (chained l.variables l.last (read_lines (length l.entries - l.entry-index) l.rest (drop l.entry-index l.entries)) ≡ both_fit l.variables (read_lines (length l.entries) l.terms l.entries))
