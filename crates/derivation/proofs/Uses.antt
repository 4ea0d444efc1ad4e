-- The lemmas that the check tries at the goals of a function.
use Rattle.configuration.specs.WeightLaws.{lower, not_lower}
use Rattle.derivation.proofs.Records.{claim_misplaced, claim_cut, claim_range, claim_negative, claim_high, claim_closed}
use Rattle.run.specs.BooleanLaws.{of_true}
use borrow.Author.Tests.{not-false, not-true}
use lib.Signed.{lt_z}

pub ruleset uses_on_claim = (lt_z, not-true, not-false, lower, not_lower, of_true, claim_misplaced, claim_cut, claim_range, claim_negative, claim_high, claim_closed)
