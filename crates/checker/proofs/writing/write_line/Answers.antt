-- `write_line` meets its contract.
use mathlib.Core.Path.{◌≡◌, ap, ap₂, ◌∙◌}
use mathlib.Core.List.{List, ◌++◌}
use Prim.Native.Nat.{ℕ, ◌+◌}
use native.Mathlib.Omega.{arith}
use borrow.Author.Rules.{rules}
use lib.ListN.{length, take, drop}
use Rattle.refusal.specs.Refusal.{refusal_of}
use Rattle.refusal.specs.Outcome.{answered, refused_at}
use Rattle.refusal.specs.declared.Refused.{Refused}
use Rattle.memory.specs.Memory.{standing_of, memory_of}
use Rattle.memory.specs.declared.Entry.{Entry}
use Rattle.listing.specs.Listing.{text_of}
use Rattle.listing.proofs.Writes.{written_front}
use Rattle.checker.specs.Checker.{Lent, lent_of, Written, write_in}
use Rattle.checker.proofs.Opening.{memory_opened, lines_opened, last_opened, beyond_left, short_left, written_left}
use Rattle.checker.proofs.writing.write_line.Goals as goal
use Rattle.checker.proofs.writing.write_line.Goals.{Start, In_ok-hard, After-put_text}

-- what is lent, with a line table
abbrev lent : goal.Start → List Entry → Lent
lent s t = let a = s.args in lent_of a.head.now a.terms.now t a.counts.now a.places.now

abbrev answer : goal.Start → List Entry → Written
answer s t = write_in s.args.number (lent s t) s.args.area.now

-- nothing is written
abbrev unwritten : goal.Start → Refused → Written
unwritten s r = record { area = s.args.area.now; told = refused_at r.record (refusal_of r.reason) }

same : (c : goal.In_ok-hard) → c.in_ok-entries.entries.now ≡ c.args.table.now
same c = search rules

-- how many numbers there are
last_is : (c : goal.In_ok-hard) → (let a = c.args in
    length c.in_ok-hard.hard + length (standing_of (memory_of a.head.now a.terms.now c.in_ok-entries.entries.now)) ≡ a.head.now.hard + a.head.now.lines)
last_is c = last_opened c.in_ok-hard.ensures c.args.number c.args.area.now

abbrev text : goal.After-put_text → List ℕ
text c = text_of c.args.number c.args.head.now.variables c.in_ok-hard.hard c.open.new.table

size_is : (c : goal.After-put_text) → c.put_text.new.writer.at ≡ length (text c)
size_is c = omega (arith, c.put_text.ensures.text.end)

pub open-requires-clause-formed : goal.open-requires-clause-formed
open-requires-clause-formed c = memory_opened c.in_ok-hard.ensures

pub returns-then-head-number : goal.returns-then-head-number
returns-then-head-number c =
    let a = c.args in
    let l = (goal.at.returns-then-head-number c).In_ok-hard in
    let s = (goal.at.returns-then-head-number c).Start in
    ap (unwritten s) c.refused-then-head-number.ensures ∙ beyond_left c.in_ok-hard.ensures a.number a.area.now (omega (arith, last_is l, c.if-head-number.true))
    ∙ ap (answer s) (same l)

pub put_text-requires-clause-number : goal.put_text-requires-clause-number
put_text-requires-clause-number c =
    omega (arith, last_is (goal.at.put_text-requires-clause-number c).In_ok-hard, c.if-head-number.false, ap length c.open.ensures)

pub returns-then-area-size : goal.returns-then-area-size
returns-then-area-size c =
    let a = c.args in
    let l = (goal.at.returns-then-area-size c).In_ok-hard in
    let s = (goal.at.returns-then-area-size c).Start in
    ap (unwritten s) c.refused-then-area-size.ensures
    ∙ short_left (lines_opened c.in_ok-hard.ensures c.open.ensures) a.number a.area.now (omega (arith, last_is l, c.if-head-number.false, ap length c.open.ensures))
    (omega (arith, size_is (goal.at.returns-then-area-size c).After-put_text, c.if-area-size.true))
    ∙ ap (answer s) (same l)

pub returns : goal.returns
returns c =
    let a = c.args in
    let l = (goal.at.returns c).In_ok-hard in
    let p = (goal.at.returns c).After-put_text in
    let e : c.copy_from_slice.new.self ≡ text p =
    c.copy_from_slice.ensures.after ∙ ap₂ take (size_is p) c.put_text.ensures.text.bytes ∙ written_front _ (text p) in
    ap₂ (λ (x : List ℕ) (n : ℕ). record { area = x ++ drop n a.area.now; told = answered n }) e (size_is p)
    ∙ written_left (lines_opened c.in_ok-hard.ensures c.open.ensures) a.number a.area.now (omega (arith, last_is l, c.if-head-number.false, ap length c.open.ensures)) (omega (arith, size_is p, c.if-area-size.false))
    ∙ ap (answer (goal.at.returns c).Start) (same l)
