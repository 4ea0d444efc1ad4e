-- `put_text` meets its contract: the header, or the hard polynomial or the line of the number.
use mathlib.Core.Path.{◌≡◌, sym, ap, ap₂, ◌∙◌}
use mathlib.Core.List.{List}
use Prim.Native.Nat.{ℕ, ◌≤◌}
use native.Mathlib.Omega.{arith}
use borrow.Author.Rules.{rules}
use lib.IntN.{ℤ}
use lib.ListN.{length}
use mir.Syntax.{w64}
use mir.Val.{SFits, to_z, of_z}
use mir.Facts.{to_z-of_z}
use Rattle.configuration.specs.Configuration.{line}
use Rattle.listing.specs.Listing.{header_text, hard_text, line_text, text_of}
use Rattle.listing.specs.ListingLaws.{header_short, hard_text_short, line_text_short, text_short}
use Rattle.listing.proofs.Chains.{wrote_as}
use Rattle.listing.proofs.Lines.{header_there, hard_there, line_there}
use Rattle.listing.proofs.put_text.Goals as goal
use Rattle.listing.proofs.put_text.Goals.{After-len-line_count}

short : (c : goal.After-len-line_count) → length (text_of c.args.number c.args.variables c.args.hard.now c.args.lines.now) ≤ 8448
short c = text_short c.args.number c.args.variables c.args.hard.now c.args.lines.now c.len-hard_count.ensures.short c.len-line_count.ensures.short

pub put_header-requires : goal.put_header-requires
put_header-requires c = omega (arith, c.requires.room, header_short c.args.variables c.len-line_count.result c.len-hard_count.result)

pub returns-then-number-eq0 : goal.returns-then-number-eq0
returns-then-number-eq0 c =
    let a = c.args in
    let t = wrote_as (text_of a.number a.variables a.hard.now a.lines.now)
    (ap₂ (header_text a.variables) c.len-line_count.ensures.lines c.len-hard_count.ensures.number ∙ sym (header_there a.number a.variables a.hard.now a.lines.now c.if-number-eq0.true))
    c.put_header.ensures in
    record { text = t; room = omega (arith, t.end, short (goal.at.returns-then-number-eq0 c).After-len-line_count) }

pub put_hard-requires : goal.put_hard-requires
put_hard-requires c = omega (arith, c.requires.room, hard_text_short c.polynomial.result.now c.polynomial.ensures.short)

pub returns-then-number-hard_count : goal.returns-then-number-hard_count
returns-then-number-hard_count c =
    let a = c.args in
    let t = wrote_as (text_of a.number a.variables a.hard.now a.lines.now)
    (ap hard_text c.polynomial.ensures.terms ∙ sym (hard_there a.number a.variables a.hard.now a.lines.now c.if-number-eq0.false (omega (arith, c.len-hard_count.ensures.number, c.if-number-hard_count.true))))
    c.put_hard.ensures in
    record { text = t; room = omega (arith, t.end, short (goal.at.returns-then-number-hard_count c).After-len-line_count) }

pub put_line-requires : goal.put_line-requires
put_line-requires c = omega (arith, c.requires.room, line_text_short c.terms.result.now (to_z w64 (of_z w64 c.weight.result)) c.terms.ensures.short)

pub returns : goal.returns
returns c =
    let a = c.args in
    let f : SFits w64 c.weight.result = search rules in
    let n : c.len-hard_count.result ≡ length a.hard.now = c.len-hard_count.ensures.number in
    let t = wrote_as (text_of a.number a.variables a.hard.now a.lines.now)
    (ap₂ (λ (x : List ℕ) (y : ℤ). line_text (line x y)) c.terms.ensures.line (to_z-of_z f ∙ c.weight.ensures)
    ∙ rw n (sym (line_there a.number a.variables a.hard.now a.lines.now (omega (arith, n, c.if-number-hard_count.false)) c.requires.number)))
    c.put_line.ensures in
    record { text = t; room = omega (arith, t.end, short (goal.at.returns c).After-len-line_count) }
