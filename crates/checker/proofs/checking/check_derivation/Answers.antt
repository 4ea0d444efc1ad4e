-- `check_derivation` meets its contract.
use mathlib.Core.Path.{◌≡◌, ap, ◌∙◌}
use mathlib.Core.List.{List}
use borrow.Author.Rules.{rules}
use Rattle.memory.specs.declared.Entry.{Entry}
use Rattle.derivation.specs.Derivation.{told_of_check}
use Rattle.checker.specs.Checker.{lent_of, check_in}
use Rattle.checker.proofs.Opening.{memory_opened, lines_opened, list_opened, configuration_opened, clear_opened, checked_left}
use Rattle.checker.proofs.checking.check_derivation.Goals as goal

pub open-requires-clause-formed : goal.open-requires-clause-formed
open-requires-clause-formed c = memory_opened c.in_ok-hard.ensures

pub check_derivation-answer-requires : goal.check_derivation-answer-requires
check_derivation-answer-requires c = (list_opened c.in_ok-hard.ensures, configuration_opened (lines_opened c.in_ok-hard.ensures c.open.ensures))

pub close-requires : goal.close-requires
close-requires c = rw c.used_by-used.ensures (clear_opened c.in_ok-hard.ensures)

pub returns : goal.returns
returns c =
    let a = c.args in
    let k = c.check_derivation-answer in
    let same : c.in_ok-entries.entries.now ≡ a.table.now = search rules in
    rw c.len.ensures.lines
    (checked_left (lines_opened c.in_ok-hard.ensures c.open.ensures) a.bytes.now k.new.lines (told_of_check k.result) k.ensures _ (c.close.ensures a.head.now.variables a.head.now.hard)
    ∙ ap (λ (t : List Entry). check_in a.bytes.now (lent_of a.head.now a.terms.now t a.counts.now a.places.now)) same)
