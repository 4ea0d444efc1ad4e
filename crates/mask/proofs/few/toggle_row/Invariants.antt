-- What is left to toggle, toggled in what is there, is the whole.
use Rattle.std.proofs.Common.{◌≡◌, map, drop}
use lib.Bits.{bit_or}
use Rattle.mask.specs.Few.{toggled}
use Rattle.mask.proofs.few.toggle_row.Given as goal

abbrev pub invariant-loop-other : goal.invariant-loop-other
invariant-loop-other l = toggled l.table (map (bit_or l.index) (drop l.other-index l.row)) ≡ toggled l.initial.table (map (bit_or l.index) l.row)
