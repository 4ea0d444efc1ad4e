use Rattle.std.proofs.Common.{◌≡◌, ◌∙◌, rules, of_calls}
use Rattle.std.specs.List.{fold}
use lib.Bits.{bit_and}
use Rattle.mask.proofs.FewSteps.{shared_fold}
use Rattle.mask.proofs.few.shared_with.Goals as goal

pub returns : goal.returns
returns c =
    let e : c.fold.result ≡ fold bit_and c.args.mask c.args.terms.now = search (rules, of_calls) in
    e ∙ shared_fold c.args.mask c.args.terms.now
