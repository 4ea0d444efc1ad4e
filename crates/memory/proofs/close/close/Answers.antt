use Rattle.std.proofs.Common.{◌≡◌, refl, sym, ap, ap₂, ◌∙◌, rules, arith, ◌+◌, ◌-◌, ◌≤◌, ◌<◌, ◌++◌, List, [], ℕ, length, take, drop, replicate, append-nil, take_all, drop_of_length-le, length-append, length-take, length-drop, set, w64, to_z, of_z}
use Rattle.std.proofs.Math.Seq.{drop-drop}
use Rattle.configuration.specs.Configuration.{Line, line}
use Rattle.configuration.proofs.Weights.{read_back}
use Rattle.table.specs.Table.{no_line}
use Rattle.table.specs.TableLaws.{line_is}
use Rattle.memory.specs.declared.Entry.{Entry}
use Rattle.memory.specs.Memory.{Memory, all_terms, entries_of, unused, image_of}
use Rattle.memory.specs.LayoutLaws.{length_entries}
use Rattle.memory.specs.MemoryLaws.{length_terms}
use Rattle.memory.proofs.Closings.{no_terms, no_end, no_lines, end_within, next_end, next_terms, next_entries, already_clear, cleared_now, unused_behind, written_back}
use Rattle.memory.proofs.close.close.Goals as goal
use Rattle.memory.proofs.close.close.Goals.{After-fill, After-loop-i, After-terms-f, In-loop-i}

pub loop-i-init : goal.loop-i-init
loop-i-init c =
    let N = c.args.table.now in
    (c.requires.0, no_terms N c.args.terms.now, no_lines N c.args.entries.now, no_end N)

among : (c : goal.In-loop-i) → c.loop-i.i < length c.args.table.now
among c = omega (arith, c.loop-i-test.true, c.len-lines.ensures.lines)

-- there is room for the terms of this line
room : (c : goal.After-terms-f) → c.loop-i.end + length c.terms-f.result.now ≤ 8192
room c =
    omega (
      arith,
      c.loop-i.invariant.3,
      c.terms-f.ensures.short,
      end_within c.args.table.now c.loop-i.i (among (goal.at.After-terms-f c).In-loop-i) c.len-lines.ensures.short (omega (arith, c.len-lines.ensures.few, c.len-lines.ensures.lines)),
    )

pub write-requires : goal.write-requires
write-requires c = omega (arith, c.loop-i.invariant.0, room (goal.at.write-requires c).After-terms-f)

pub loop-i-preserved : goal.loop-i-preserved
loop-i-preserved c =
    let l = c.loop-i in
    let N = c.args.table.now in
    let f = c.terms-f.result.now in
    let b = among (goal.at.loop-i-preserved c).In-loop-i in
    let x = line_is N l.i no_line b ∙ ap₂ line (sym c.terms-f.ensures.line) (sym (read_back _ (search rules) ∙ c.weight.ensures)) in (
      search rules,
      c.write.ensures ∙ ap (λ (m : List ℕ). take l.end m ++ (f ++ drop (l.end + length f) m)) l.invariant.1 ∙ next_terms N l.i b f _ no_line x c.args.terms.now l.end l.invariant.3,
      c.set_line.ensures ∙ ap (λ (t : List Entry). set t l.i (record { weight = to_z w64 (of_z w64 c.weight.result); count = length f })) l.invariant.2
          ∙ next_entries N l.i b f _ no_line x c.args.entries.now (omega (arith, b, c.told-entries, c.len-lines.ensures.few, c.len-lines.ensures.lines)),
      ap (λ (e : ℕ). e + length f) l.invariant.3 ∙ next_end N l.i b f _ no_line x,
    )

none_left : (c : goal.After-loop-i) → take c.loop-i.i c.args.table.now ≡ c.args.table.now
none_left c = take_all c.loop-i.i c.args.table.now (omega (arith, c.loop-i-test.false, c.len-lines.ensures.lines))

end_is : (c : goal.After-loop-i) → length (all_terms c.args.table.now) ≡ c.loop-i.end
end_is c = ap (λ (M : List Line). length (all_terms M)) (sym (none_left c)) ∙ sym c.loop-i.invariant.3

terms_are : (c : goal.After-loop-i) → c.loop-i.terms ≡ all_terms c.args.table.now ++ drop c.loop-i.end c.args.terms.now
terms_are c = c.loop-i.invariant.1 ∙ ap (λ (M : List Line). all_terms M ++ drop c.loop-i.end c.args.terms.now) (none_left c)

-- the records of the lines stand before what was there
entries_are : (c : goal.After-loop-i) → c.loop-i.entries ≡ entries_of c.args.table.now ++ drop c.len-lines.result c.args.entries.now
entries_are c =
    let k = c.loop-i in
    let i : k.i ≡ c.len-lines.result = omega (arith, c.loop-i-test.false, k.auto.i-end) in
    k.invariant.2 ∙ ap₂ (λ (M : List Line) (j : ℕ). entries_of M ++ drop j c.args.entries.now) (none_left c) i

-- and those behind them are filled
filled : (c : goal.After-fill) → (let n = c.len-lines.result in let t = c.loop-i.entries in
    take n t ++ (c.fill.new.self ++ drop (128 - n) (drop n t)) ≡ entries_of c.args.table.now ++ replicate (128 - n) unused)
filled c =
    let N = c.args.table.now in
    let n = c.len-lines.result in
    let t = c.loop-i.entries in
    let e = entries_are (goal.at.After-fill c).After-loop-i in
    let b : length (drop n t) ≡ 128 - n = omega (arith, length-drop n t, ap length e, length-append (entries_of N) (drop n c.args.entries.now), length_entries N, length-drop n c.args.entries.now, c.told-entries, c.len-lines.ensures.few, c.len-lines.ensures.lines) in
    let k : length (take (128 - n) (drop n t)) ≡ 128 - n = omega (arith, b, length-take (128 - n) (drop n t)) in
    let z = c.fill.ensures.after (λ y h. h) ∙ ap (λ (m : ℕ). replicate m unused) k in
    let d : drop (128 - n) (drop n t) ≡ [] = drop_of_length-le (drop n t) (omega (arith, b)) in
    ap₂ (λ (ys r : List Entry). take n t ++ (ys ++ r)) z d ∙ ap (λ (ys : List Entry). take n t ++ ys) (append-nil (replicate (128 - n) unused))
    ∙ ap (λ (x : List Entry). take n x ++ replicate (128 - n) unused) e ∙ unused_behind N c.args.entries.now n (sym c.len-lines.ensures.lines)

-- what is left, in an area whose places behind the lines are zero
image_is : (c : goal.After-loop-i) (n : ℕ) (l : List ℕ) (t : List Entry) → l ≡ all_terms c.args.table.now ++ replicate (8192 - c.loop-i.end) 0
    → t ≡ entries_of c.args.table.now ++ replicate (128 - c.len-lines.result) unused
    → ◌≡◌ {A = Memory} (record { variables = n; lines = length c.args.table.now; terms = l; table = t }) (image_of n c.args.table.now)
image_is c n l t e d =
    let N = c.args.table.now in
    let x = d ∙ ap (λ (j : ℕ). entries_of N ++ replicate (128 - j) unused) c.len-lines.ensures.lines in
    written_back n (length N) N l t c.loop-i.end refl (end_is c) e x

pub returns-then-end-used : goal.returns-then-end-used
returns-then-end-used c =
    let l = c.loop-i in
    let x = (goal.at.returns-then-end-used c).After-loop-i in
    let a = c.args in
    let k : length (take (a.used - l.end) (drop l.end l.terms)) ≡ a.used - l.end = omega (arith, l.invariant.0, c.requires.1, c.if-end-used.true, length-drop l.end l.terms, length-take (a.used - l.end) (drop l.end l.terms)) in
    let d : l.end + (a.used - l.end) ≡ a.used = omega (arith, c.if-end-used.true) in
    let z = c.fill-then-end-used.ensures.after (λ y h. h) ∙ ap (λ (n : ℕ). replicate n 0) k in
    λ n h. image_is x n _ _ (ap₂ (λ (ys r : List ℕ). take l.end l.terms ++ (ys ++ r)) z (drop-drop (a.used - l.end) l.end l.terms ∙ ap (λ (m : ℕ). drop m l.terms) d)
    ∙ ap (λ (m : List ℕ). take l.end m ++ (replicate (a.used - l.end) 0 ++ drop a.used m)) (terms_are x)
    ∙ cleared_now (all_terms a.table.now) a.terms.now a.used c.requires l.end (end_is x) c.if-end-used.true) (filled (goal.at.returns-then-end-used c).After-fill)

pub returns-else-end-used : goal.returns-else-end-used
returns-else-end-used c =
    let l = c.loop-i in
    let N = c.args.table.now in
    λ n k. image_is (goal.at.returns-else-end-used c).After-loop-i n _ _ (terms_are (goal.at.returns-else-end-used c).After-loop-i ∙ already_clear (all_terms N) c.args.terms.now c.args.used c.requires l.end (end_is (goal.at.returns-else-end-used c).After-loop-i) c.if-end-used.false
    (omega (arith, end_is (goal.at.returns-else-end-used c).After-loop-i, length_terms N c.len-lines.ensures.short, c.len-lines.ensures.few, c.len-lines.ensures.lines)))
    (filled (goal.at.returns-else-end-used c).After-fill)
