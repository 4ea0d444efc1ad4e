use Rattle.std.proofs.Common.{◌≡◌, rules, arith, ap, ap₂, ◌∙◌, sym, ◌-◌, ◌+◌, ◌&&◌, length, List, [], ◌∷◌, ℕ, ℤ, take, drop, get_or}
use Rattle.configuration.specs.Weight.{in_range}
use Rattle.configuration.specs.Configuration.{line, line_fits}
use Rattle.configuration.proofs.Weights.{read_back}
use Rattle.memory.specs.Memory.{read_lines, unused}
use Rattle.memory.proofs.Forms.{leads, chained, chained_none, both_fit, used_left, next_line, line_misfit, out_of_order, line_passed}
use Rattle.memory.proofs.form.lines_fit.Goals as goal
use Rattle.memory.proofs.form.lines_fit.Goals.{After-line_fits, After-stands_before, In-loop-entry}

pub loop-entry-init : goal.loop-entry-init
loop-entry-init c =
    let a = c.args in
    let z : length a.entries.now - 0 ≡ length a.entries.now = omega arith in
    (c.requires, ap (λ (k : ℕ). chained a.variables [] (read_lines k a.terms.now a.entries.now)) z ∙ chained_none a.variables _)

pub split_at-requires : goal.split_at-requires
split_at-requires c = omega (arith, c.loop-entry.invariant.0, used_left c.loop-entry.rest.now c.args.entries.now c.loop-entry.entry-index c.loop-entry-test.true)

-- the lines that are left begin with that of this record
left : (c : goal.In-loop-entry) → (let l = c.loop-entry in let t = c.args.entries.now in let e = get_or t l.entry-index unused in
    chained c.args.variables l.last.now (line (take e.count l.rest.now) e.weight ∷ read_lines (length t - (l.entry-index + 1)) (drop e.count l.rest.now) (drop (l.entry-index + 1) t))
    ≡ both_fit c.args.variables (read_lines (length t) c.args.terms.now t))
left c =
    let l = c.loop-entry in
    ap (chained c.args.variables l.last.now) (sym (next_line l.rest.now c.args.entries.now l.entry-index c.loop-entry-test.true)) ∙ l.invariant.1

-- what is tested of it: the line may be held, and the last polynomial stands before
fitting : (c : goal.After-line_fits) → (let e = get_or c.args.entries.now c.loop-entry.entry-index unused in
    c.line_fits.result ≡ (line_fits c.args.variables (line (take e.count c.loop-entry.rest.now) e.weight) && in_range e.weight))
fitting c = c.line_fits.ensures ∙ ap₂ (λ (f : List ℕ) (u : ℤ). line_fits c.args.variables (line f u) && in_range u) c.split_at.ensures.front (read_back _ (search rules))

leading : (c : goal.After-stands_before) → (let e = get_or c.args.entries.now c.loop-entry.entry-index unused in
    c.stands_before.result ≡ leads c.loop-entry.last.now (take e.count c.loop-entry.rest.now))
leading c = c.stands_before.ensures ∙ ap (leads c.loop-entry.last.now) c.split_at.ensures.front

pub returns-then-not-line_fits : goal.returns-then-not-line_fits
returns-then-not-line_fits c =
    line_misfit c.args.variables c.loop-entry.last.now _ _ _ _ (left (goal.at.returns-then-not-line_fits c).In-loop-entry)
    (sym (fitting (goal.at.returns-then-not-line_fits c).After-line_fits) ∙ c.if-not-line_fits.true)

pub returns-then-not-stands_before : goal.returns-then-not-stands_before
returns-then-not-stands_before c =
    out_of_order c.args.variables c.loop-entry.last.now _ _ _ _ (left (goal.at.returns-then-not-stands_before c).In-loop-entry)
    (sym (leading (goal.at.returns-then-not-stands_before c).After-stands_before) ∙ c.if-not-stands_before.true)

pub loop-entry-preserved : goal.loop-entry-preserved
loop-entry-preserved c =
    let l = c.loop-entry in
    let e = get_or c.args.entries.now l.entry-index unused in
    let t = c.args.entries.now in (
      omega (arith, l.invariant.0, used_left l.rest.now t l.entry-index c.loop-entry-test.true, c.split_at.ensures.back_len),
      ap₂ (λ (f r : List ℕ). chained c.args.variables f (read_lines (length t - (l.entry-index + 1)) r (drop (l.entry-index + 1) t))) c.split_at.ensures.front c.split_at.ensures.back
          ∙ line_passed c.args.variables l.last.now _ _ _ _ (left (goal.at.loop-entry-preserved c).In-loop-entry)
          (sym (leading (goal.at.loop-entry-preserved c).After-stands_before) ∙ c.if-not-stands_before.false)
          (sym (fitting (goal.at.loop-entry-preserved c).After-line_fits) ∙ c.if-not-line_fits.false),
    )

pub returns : goal.returns
unfolding read_lines
returns c =
    let l = c.loop-entry in
    let t = c.args.entries.now in
    let z : length t - l.entry-index ≡ 0 = omega (arith, c.loop-entry-test.false) in
    rw z at l.invariant.1
