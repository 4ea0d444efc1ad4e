-- `fold_chosen` meets its contract. The invariant: the chosen changes from `i` on lead on to what all of them lead to.
use lib.ListN.{length, drop}
use Rattle.configuration.specs.Configuration.{add_all}
use Rattle.replacement.specs.Replacing.{chosen}
use Rattle.replacement.proofs.Foldings.{Folding}
use Rattle.replacement.proofs.passes.fold_chosen.Given as goal

abbrev pub invariant-loop-i : goal.invariant-loop-i
invariant-loop-i l =
    Folding l.vanishing (length l.initial.table) (drop l.i l.weighed) (drop l.i l.changes) (add_all (chosen l.vanishing l.weighed l.changes) l.initial.table) l.table
