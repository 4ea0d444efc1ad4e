-- What is left to toggle, toggled in what is there, is the whole.
use Rattle.std.proofs.Common.{◌≡◌, drop}
use Rattle.mask.specs.Few.{toggled}
use Rattle.mask.specs.Mask.{unions}
use Rattle.mask.proofs.few.toggle_pairs.Given as goal

abbrev pub invariant-loop-index : goal.invariant-loop-index
invariant-loop-index l = toggled l.table (unions (drop l.index-index l.f) l.g) ≡ toggled l.initial.table (unions l.f l.g)
