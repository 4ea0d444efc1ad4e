-- The lemmas that the check tries at the goals of each function.
use lib.Seq.{length-take-le}
use Rattle.std.proofs.lemmas.Result.{err_from_is_err_and}
use Rattle.polynomial.specs.PolynomialLaws.{exact}
use Rattle.configuration.proofs.Weights.{read_back}
use Rattle.step.proofs.Amounts.{amount_in_range, doubled_fits, doubled_is, negated_fits, negated_is}
use Rattle.step.proofs.Plans.{not_long, room, too_long_lem}
use Rattle.step.proofs.Tests.{plain_tests, signed_passes, step_refused}

pub ruleset uses_step = (err_from_is_err_and, step_refused)

pub ruleset uses_object = (read_back, amount_in_range, plain_tests, signed_passes)

pub ruleset uses_plans = (length-take-le, negated_fits, negated_is, doubled_fits, doubled_is, exact, room, too_long_lem, not_long)
