-- The area that is lent is as long as it was made.
use Rattle.std.proofs.Common.{sym, ℕ}
use Rattle.std.proofs.lemmas.List.{length-replicate}
use Rattle.check_derivation.proofs.main.Goals as goal

pub slice_bounds-print_report-end-3 : goal.slice_bounds-print_report-end-3
slice_bounds-print_report-end-3 c = sym (length-replicate {A = ℕ} 2449984 0)
