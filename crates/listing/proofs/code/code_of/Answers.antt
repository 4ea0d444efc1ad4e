-- `code_of` meets its contract.
use mathlib.Core.Path.{◌≡◌, sym, ◌∙◌}
use Prim.Native.Nat.{ℕ, suc, ◌+◌, ◌-◌}
use native.Mathlib.Omega.{arith}
use Rattle.listing.specs.Code.{code_of}
use Rattle.listing.specs.CodeLaws.{codes_from}
use Rattle.listing.proofs.Codes.{all_left, one_less, none_left}
use Rattle.listing.proofs.code.code_of.Goals as goal
use Rattle.listing.proofs.code.code_of.Goals.{After-add_bytes-code}

-- the last number
abbrev last : goal.After-add_bytes-code → ℕ
last c = c.len.result + c.len-2.result

added : (c : goal.After-add_bytes-code)
    → codes_from (suc (last c) - (c.loop-number.number + 1)) (c.loop-number.number + 1) c.add_bytes-code.result c.args.variables c.args.hard.now c.args.lines.now
    ≡ code_of c.args.variables c.args.hard.now c.args.lines.now
added c =
    let a = c.args in
    let i = c.loop-number in
    let w = c.put_text.ensures.text in
    one_less (last c) a.variables a.hard.now a.lines.now i.number i.code i.text _ c.put_text.new.writer.at _ c.loop-number-test.true (omega (arith, w.end)) w.bytes c.add_bytes-code.ensures
    ∙ i.invariant

pub loop-number-init : goal.loop-number-init
loop-number-init c =
    let a = c.args in
    all_left (c.len.result + c.len-2.result) a.variables a.hard.now a.lines.now c.start-code.result (omega (arith, c.len.ensures.number, c.len-2.ensures.lines)) c.start-code.ensures

pub loop-number-preserved : goal.loop-number-preserved
loop-number-preserved c = added (goal.at.loop-number-preserved c).After-add_bytes-code

pub returns-2 : goal.returns-2
returns-2 c =
    let a = c.args in
    sym (none_left (c.len.result + c.len-2.result) a.variables a.hard.now a.lines.now (c.loop-number.number + 1) c.add_bytes-code.result (omega arith))
    ∙ added (goal.at.returns-2 c).After-add_bytes-code
