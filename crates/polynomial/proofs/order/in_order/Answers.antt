-- `in_order` meets its contract: each term stands before the next.
use Rattle.std.proofs.Common.{◌≡◌, rules}
use Rattle.std.proofs.lemmas.Fn.{always_returns_same}
use Rattle.term.specs.Term.{before}
use Rattle.polynomial.proofs.OrderSteps.{sorted_pairs}
use Rattle.polynomial.proofs.order.in_order.Goals as goal

pub returns : goal.returns
returns c = sorted_pairs before c.args.terms.now _ (c.is_sorted_by.ensures.cases before (always_returns_same _ (λ a r. r ≡ before a.0.now a.1.0.now) _ (λ a r q k. search rules)))
