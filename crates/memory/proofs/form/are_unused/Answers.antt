use Rattle.std.proofs.Common.{◌≡◌, rules}
use Rattle.std.proofs.lemmas.Iterator.{cases_from_all, YieldsList-from_slice}
use borrow.Author.Tests.{tests}
use Rattle.memory.specs.Memory.{unused}
use Rattle.memory.proofs.Forms.{all_unused_by}
use Rattle.memory.proofs.form.are_unused.Goals as goal

pub returns : goal.returns
returns c =
    all_unused_by c.args.entries.now c.all.result
    (cases_from_all _ _ _ (λ e. e ≡ unused) (λ e. e ≡ unused → ⊥) c.all.ensures.ran (YieldsList-from_slice c.args.entries.now cc)
    (λ x q k. search (rules, tests)) (λ x q k. search (rules, tests)))
