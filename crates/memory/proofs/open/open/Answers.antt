use Rattle.std.proofs.Common.{◌≡◌, rules, arith, ap, ap₂, sym, subst, ◌∙◌, ◌-◌, ◌+◌, ◌<◌, ◌++◌, List, ◌∷◌, ℕ, ℤ, length, take, drop, get_or, length-append, append-nil, get_or-take, length-take-le, w64, to_z, of_z}
use Rattle.std.proofs.Math.Seq.{append_snoc}
use Rattle.configuration.specs.Configuration.{Line, line, IsInOrder}
use Rattle.configuration.specs.ConfigurationLaws.{fit_ordered}
use Rattle.configuration.specs.LineLaws.{IsShort, fits_short}
use Rattle.configuration.proofs.Weights.{read_back}
use Rattle.memory.specs.declared.Entry.{Entry}
use Rattle.memory.specs.Memory.{Memory, memory_of, read_lines, unused}
use Rattle.memory.specs.Places.{used_by}
use Rattle.memory.specs.MemoryLaws.{used_take, length_read, Formed, well_formed_lem}
use Rattle.memory.proofs.Forms.{used_left, next_line, read_first}
use Rattle.memory.proofs.Openings.{ordered_front, short_next}
use Rattle.memory.proofs.open.open.Goals as goal
use Rattle.memory.proofs.open.open.Goals.{After-line_at-entry, After-split_at, In-loop-i, Start}

abbrev lent : goal.Start → Memory
lent s = memory_of s.args.head s.args.terms.now s.args.entries.now

formed : (s : goal.Start) → Formed (lent s)
formed s = well_formed_lem (lent s) s.requires.formed

-- the records of the lines
abbrev records : goal.Start → List Entry
records s = take s.args.head.lines s.args.entries.now

many : (s : goal.Start) → length (records s) ≡ s.args.head.lines
many s = let q = formed s in length-take-le s.args.head.lines s.args.entries.now (omega (arith, q.room, q.table_length))

all_of : (s : goal.Start) → read_lines (length (records s)) s.args.terms.now (records s) ≡ read_lines s.args.head.lines s.args.terms.now s.args.entries.now
all_of s = let q = formed s in read_first s.args.head.lines s.args.terms.now s.args.entries.now (omega (arith, q.room, q.table_length))

pub loop-i-init : goal.loop-i-init
loop-i-init c =
    let s = (goal.at.loop-i-init c).Start in
    let q = formed s in
    let z : length (records s) - 0 ≡ length (records s) = omega arith in
    (omega (arith, used_take c.args.head.lines c.args.entries.now, q.used, q.terms_length), ap₂ (λ (L : List Line) (k : ℕ). L ++ read_lines k c.args.terms.now (records s)) c.requires.empty z)

pub line_at-entry-requires : goal.line_at-entry-requires
line_at-entry-requires c = let q = formed (goal.at.line_at-entry-requires c).Start in omega (arith, c.loop-i-test.true, q.room, q.table_length)

-- the record is one of those of the lines
among : (c : goal.In-loop-i) → c.loop-i.i < length (records (goal.at.In-loop-i c).Start)
among c = omega (arith, c.loop-i-test.true, many (goal.at.In-loop-i c).Start)

entry_is : (c : goal.After-line_at-entry) → c.line_at-entry.result ≡ get_or (records (goal.at.After-line_at-entry c).Start) c.loop-i.i unused
entry_is c = c.line_at-entry.ensures ∙ sym (get_or-take c.args.head.lines c.args.entries.now c.loop-i.i unused c.loop-i-test.true)

left : (c : goal.After-line_at-entry) → (let t = records (goal.at.After-line_at-entry c).Start in
    used_by (drop c.loop-i.i t) ≡ c.line_at-entry.result.count + used_by (drop (c.loop-i.i + 1) t))
left c =
    let t = records (goal.at.After-line_at-entry c).Start in
    rw (← entry_is c) at (used_left c.loop-i.rest.now t c.loop-i.i (among (goal.at.After-line_at-entry c).In-loop-i))

pub split_at-requires : goal.split_at-requires
split_at-requires c = omega (arith, c.loop-i.invariant.0, left (goal.at.split_at-requires c).After-line_at-entry)

-- the lines of the table, that of this record and those behind it are all
all_lines : (c : goal.After-line_at-entry) → (let l = c.loop-i in let t = records (goal.at.After-line_at-entry c).Start in let e = c.line_at-entry.result in
    l.table ++ line (take e.count l.rest.now) e.weight ∷ read_lines (length t - (l.i + 1)) (drop e.count l.rest.now) (drop (l.i + 1) t)
    ≡ read_lines c.args.head.lines c.args.terms.now c.args.entries.now)
all_lines c =
    let l = c.loop-i in
    let t = records (goal.at.After-line_at-entry c).Start in
    let n = next_line l.rest.now t l.i (among (goal.at.After-line_at-entry c).In-loop-i) in
    ap (λ (R : List Line). l.table ++ R) (sym (rw (← entry_is c) at n)) ∙ l.invariant.1 ∙ all_of (goal.at.After-line_at-entry c).Start

-- the line of this record, as it is read with a weight
here : (c : goal.After-split_at) (w : ℤ) → (let e = c.line_at-entry.result in
    w ≡ e.weight → line (take e.count c.loop-i.rest.now) e.weight ≡ line c.split_at.result.0.now w)
here c w r = ap₂ line (sym c.split_at.ensures.front) (sym r)

pub push-requires : goal.push-requires
push-requires c =
    let l = c.loop-i in
    let s = (goal.at.push-requires c).Start in
    let q = formed s in
    let t = records s in
    let e = c.line_at-entry.result in
    let R = read_lines (length t - (l.i + 1)) (drop e.count l.rest.now) (drop (l.i + 1) t) in
    let x = ap (λ (k : Line). l.table ++ k ∷ R) (sym (here (goal.at.push-requires c).After-split_at _ (read_back e.weight (search rules))))
    ∙ all_lines (goal.at.push-requires c).After-line_at-entry in
    let n = length_read c.args.head.lines c.args.terms.now c.args.entries.now (omega (arith, q.room, q.table_length)) in (
      omega arith,
      (
        omega (arith, length-append l.table (line c.split_at.result.0.now (to_z w64 (of_z w64 e.weight)) ∷ R), ap length x, n, q.room),
        (
          short_next l.table c.split_at.result.0.now _ _ (subst IsShort (sym x) (fits_short c.args.head.variables _ q.fit)),
          ordered_front l.table c.split_at.result.0.now _ _ (subst IsInOrder (sym x) (fit_ordered c.args.head.variables _ q.fit)),
        ),
      ),
    )

pub loop-i-preserved : goal.loop-i-preserved
loop-i-preserved c =
    let l = c.loop-i in
    let s = (goal.at.loop-i-preserved c).Start in
    let t = records s in
    let e = c.line_at-entry.result in
    let R = read_lines (length t - (l.i + 1)) c.split_at.result.1.now (drop (l.i + 1) t) in (
      omega (arith, l.invariant.0, left (goal.at.loop-i-preserved c).After-line_at-entry, c.split_at.ensures.back_len),
      ap (λ (L : List Line). L ++ R) c.push.ensures ∙ append_snoc l.table _ R
          ∙ ap₂ (λ (k : Line) (r : List ℕ). l.table ++ k ∷ read_lines (length t - (l.i + 1)) r (drop (l.i + 1) t)) (sym (here (goal.at.loop-i-preserved c).After-split_at _ (read_back e.weight (search rules)))) c.split_at.ensures.back
          ∙ all_lines (goal.at.loop-i-preserved c).After-line_at-entry ∙ sym (all_of s),
    )

pub returns : goal.returns
unfolding read_lines
returns c =
    let l = c.loop-i in
    let s = (goal.at.returns c).Start in
    let z : length (records s) - l.i ≡ 0 = omega (arith, c.loop-i-test.false, many s) in
    sym (append-nil l.table) ∙ (rw z at l.invariant.1) ∙ all_of s
