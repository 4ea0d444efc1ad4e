use Rattle.std.proofs.Common.{◌≡◌, ◌∙◌, rules, of_calls}
use Rattle.std.specs.List.{fold}
use lib.Bits.{bit_or}
use Rattle.mask.proofs.FewSteps.{united_fold}
use Rattle.mask.proofs.few.variables_with.Goals as goal

pub returns : goal.returns
returns c =
    let e : c.fold.result ≡ fold bit_or c.args.mask c.args.terms.now = search (rules, of_calls) in
    e ∙ united_fold c.args.mask c.args.terms.now
