-- The lemmas that the check tries at the goals of each function.
use lib.ListN.{length-set}
use Rattle.std.proofs.lemmas.Result.{err_from_is_err_and}
use Rattle.replacement.proofs.Foldings.{first_placed, first_room, last_all, last_placed, last_room}
use Rattle.replacement.proofs.Judgements.{judged_refused, none_added, nothing_added}
use Rattle.replacement.proofs.Weighings.{length_moved, length_weighed, sum_fits, weighed_all}

pub ruleset uses_weigh = (length-set, sum_fits, weighed_all)

pub ruleset uses_fold_all = (length_weighed, length_moved, first_placed, first_room, last_placed, last_room, last_all)

pub ruleset uses_replace = (err_from_is_err_and, judged_refused, none_added)

pub ruleset uses_add = (err_from_is_err_and, sum_fits, judged_refused, nothing_added)
