-- The lemmas that the check tries at the goals of each function.
use Rattle.configuration.proofs.Forms.{always_below}
use borrow.Author.Tests.{le-leb, le-ltb, lt-leb}
use lib.Signed.{lt_z}

pub ruleset uses_form_is_polynomial = (lt-leb, le-leb)

pub ruleset uses_form_is_term = (le-leb, always_below)

pub ruleset uses_weight_is_negative = (lt_z, le-ltb)
