-- The table holds the lines of the records before this one; the others' terms are left.
use Rattle.std.proofs.Common.{◌≡◌, ◌-◌, ◌≤◌, ◌++◌, length, take, drop}
use Rattle.memory.specs.Memory.{read_lines}
use Rattle.memory.specs.Places.{used_by}
use Rattle.memory.proofs.open.open.Given as goal

abbrev pub invariant-loop-i : goal.invariant-loop-i
invariant-loop-i l =
    let t = take l.fn.head.lines l.entries in
    (used_by (drop l.i t) ≤ length l.rest) × (l.table ++ read_lines (length t - l.i) l.rest (drop l.i t) ≡ read_lines (length t) l.terms t)
