-- `code_of` meets its contract: the texts that are left, added to the code that is there, give the code of the whole.
use mathlib.Core.Path.{◌≡◌}
use Prim.Native.Nat.{suc, ◌-◌}
use Rattle.listing.specs.Code.{code_of}
use Rattle.listing.specs.CodeLaws.{codes_from}
use Rattle.listing.proofs.code.code_of.Given as goal

abbrev pub invariant-loop-number : goal.invariant-loop-number
invariant-loop-number l = codes_from (suc l.last - l.number) l.number l.code l.variables l.hard l.lines ≡ code_of l.variables l.hard l.lines
