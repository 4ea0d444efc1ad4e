-- The lines before this one are written, their records and their terms up to `end`, and what lies behind is as it was.
use Rattle.std.proofs.Common.{◌≡◌, ◌++◌, length, take, drop}
use Rattle.memory.specs.Memory.{all_terms, entries_of}
use Rattle.memory.proofs.close.close.Given as goal

abbrev pub invariant-loop-i : goal.invariant-loop-i
invariant-loop-i l =
    (length l.terms ≡ 8192) × (l.terms ≡ all_terms (take l.i l.table) ++ drop l.end l.initial.terms) × (l.entries ≡ entries_of (take l.i l.table) ++ drop l.i l.initial.entries)
    × (l.end ≡ length (all_terms (take l.i l.table)))
