-- `read` meets its contract.
use Rattle.std.proofs.Common.{◌≡◌, refl, sym, ◌∙◌, rules, arith, ◌<◌, ◌≤◌, ◌+◌, length}
use Rattle.std.proofs.lemmas.Result.{err_from_is_err_and}
use Rattle.refusal.proofs.MappedLaws.{mapped_ok, mapped_err}
use Rattle.derivation.proofs.DerivationLaws.{check_is}
use Rattle.derivation.proofs.Loops.{starts, record_fits, goes_on, refused_there, ends_there}
use Rattle.derivation.proofs.checking.Checking.read.Goals as goal
use Rattle.derivation.proofs.checking.Checking.read.Goals.{In_ok-size}

pub loop-at-init : goal.loop-at-init
loop-at-init c =
    let a = c.args in
    rw c.requires.opening (starts a.variables a.hard.now a.bytes.now a.lines.now c.requires.hard c.requires.lines)

pub returns-in_err-size : goal.returns-in_err-size
returns-in_err-size c =
    let a = c.args in
    let l = c.loop-at in
    let p = err_from_is_err_and c.from_residual.result c.from_residual.ensures.1 in
    let q = mapped_err _ c.on_record.result c.map_err.result c.map_err.ensures.cases c.in_err-size.field-0.0 c.in_err-size.was in
    let d = c.in_err-size.field-0.0 in
    let told : (d.record ≡ l.records + 1) × (d.reason ≡ q.0) = search (rules, q.2) in
    rw (p.1, p.2) (rw (told.0, told.1) (refused_there a.variables a.hard.now a.bytes.now _ _ l.at l.records l.self l.lines l.invariant c.loop-at-test.true c.on_record.result c.on_record.new.self c.on_record.new.lines
    c.on_record.ensures.does q.0 q.1 ∙ sym (check_is a.bytes.now a.variables a.hard.now a.lines.now)))

fits : (c : goal.In_ok-size) → (let l = c.loop-at in (l.at < l.at + c.in_ok-size.size) × (l.at + c.in_ok-size.size ≤ length c.args.bytes.now))
fits c =
    let a = c.args in
    let l = c.loop-at in
    record_fits a.variables a.hard.now a.bytes.now _ _ l.at l.records l.self l.lines l.invariant c.loop-at-test.true c.on_record.result c.on_record.new.self c.on_record.new.lines
    c.on_record.ensures.does c.in_ok-size.size (mapped_ok _ c.on_record.result c.map_err.result c.map_err.ensures.cases c.in_ok-size.size c.in_ok-size.was)

pub overflow_add-at : goal.overflow_add-at
overflow_add-at c = let h = fits c in record { fits = omega (arith, h.1) }

pub loop-at-smaller : goal.loop-at-smaller
loop-at-smaller c = let h = fits c in omega (arith, h.0, h.1)

pub loop-at-preserved : goal.loop-at-preserved
loop-at-preserved c =
    let a = c.args in
    let l = c.loop-at in
    let e = mapped_ok _ c.on_record.result c.map_err.result c.map_err.ensures.cases c.in_ok-size.size c.in_ok-size.was in
    goes_on a.variables a.hard.now a.bytes.now _ _ l.at l.records l.self l.lines l.invariant c.loop-at-test.true c.on_record.result c.on_record.new.self c.on_record.new.lines
    c.on_record.ensures.does c.in_ok-size.size e c.requires.hard c.on_record.ensures.degree

pub returns : goal.returns
returns c =
    let a = c.args in
    let l = c.loop-at in
    rw c.ok_or.ensures.value (ends_there a.variables a.hard.now a.bytes.now _ _ l.at l.records l.self l.lines l.invariant c.loop-at-test.false _ c.confirmed.ensures _ refl refl
    ∙ sym (check_is a.bytes.now a.variables a.hard.now a.lines.now))
