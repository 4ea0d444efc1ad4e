-- A test that fails is a part of 'well formed', and the last is what is left of it.
use Rattle.std.proofs.Common.{◌≡◌, sym, ap, ◌∙◌, ℕ, arith, rules, length, take, drop, ◌-◌, refl, List, ◌&&◌, true≢false}
use Rattle.run.specs.BooleanLaws.{is_true, of_true}
use Rattle.configuration.specs.Configuration.{Line, lines_fit, weights_fit}
use Rattle.memory.specs.Memory.{Memory, memory_of}
use Rattle.memory.specs.MemoryLaws.{used_take}
use Rattle.configuration.specs.Area.{zeros}
use Rattle.memory.specs.Places.{used_by, all_unused}
use Rattle.memory.proofs.Forms.{not_well, the_lines, all_behind, read_first}
use Rattle.memory.proofs.form.well_formed.Goals as goal
use Rattle.memory.proofs.form.well_formed.Goals.{After-is_zero, Start}

abbrev lent : goal.Start → Memory
lent s = memory_of s.args.head s.args.terms.now s.args.entries.now

pub returns-then-terms-ne8192 : goal.returns-then-terms-ne8192
returns-then-terms-ne8192 c = not_well (lent (goal.at.returns-then-terms-ne8192 c).Start) (λ q. c.if-terms-ne8192.true q.terms_length)

pub returns-then-not-are_unused : goal.returns-then-not-are_unused
returns-then-not-are_unused c =
    not_well (lent (goal.at.returns-then-not-are_unused c).Start) (λ q. true≢false (sym (is_true _ q.behind) ∙ ap all_unused (sym (all_behind 128 c.args.head.lines c.args.entries.now c.told-entries)) ∙ sym c.are_unused.ensures ∙ c.if-not-are_unused.true))

pub returns-then-used-gt8192 : goal.returns-then-used-gt8192
returns-then-used-gt8192 c = not_well (lent (goal.at.returns-then-used-gt8192 c).Start) (λ q. omega (arith, c.if-used-gt8192.true, c.used_by-used.ensures, q.used))

-- what is asked to be zero
tail : (c : goal.After-is_zero) → zeros (take (length c.args.terms.now - c.used_by-used.result) (drop c.used_by-used.result c.args.terms.now)) ≡ zeros (drop (used_by c.args.entries.now) c.args.terms.now)
tail c = ap zeros (all_behind _ c.used_by-used.result c.args.terms.now refl) ∙ ap (λ (n : ℕ). zeros (drop n c.args.terms.now)) c.used_by-used.ensures

pub returns-then-not-is_zero : goal.returns-then-not-is_zero
returns-then-not-is_zero c =
    not_well (lent (goal.at.returns-then-not-is_zero c).Start) (λ q. true≢false (sym (is_true _ q.rest)
    ∙ sym (tail (goal.at.returns-then-not-is_zero c).After-is_zero) ∙ sym c.is_zero.ensures ∙ c.if-not-is_zero.true))

pub lines_fit-requires : goal.lines_fit-requires
lines_fit-requires c = omega (arith, used_take c.args.head.lines c.args.entries.now, c.used_by-used.ensures, c.if-used-gt8192.false, c.if-terms-ne8192.false)

pub returns : goal.returns
returns c =
    let e = c.args.entries.now in
    let h = c.args.head.lines in
    c.lines_fit.ensures
    ∙ ap (λ (L : List Line). lines_fit c.args.head.variables L && weights_fit L) (read_first h c.args.terms.now e (search rules))
    ∙ the_lines (lent (goal.at.returns c).Start) (search rules) c.told-entries (search rules) (search rules)
    (of_true (sym (ap all_unused (all_behind 128 h e c.told-entries)) ∙ sym c.are_unused.ensures ∙ c.if-not-are_unused.false)) (omega (arith, c.used_by-used.ensures, c.if-used-gt8192.false))
    (of_true (sym (tail (goal.at.returns c).After-is_zero) ∙ sym c.is_zero.ensures ∙ c.if-not-is_zero.false))
