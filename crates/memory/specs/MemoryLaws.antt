-- A configuration and its memory in the layout of code: reading gives back what was laid out, and the parts of the test 'well formed' as code makes them.
use Rattle.std.specs.Prelude.{◌≡◌, refl, List, [], ◌∷◌, ◌++◌, ℕ, zero, suc, ◌+◌, ◌-◌, ◌*◌, ◌≤◌, ◌<◌, T, eqb, ℤ, pos, negsuc, length, get_or, take, drop, replicate}
use Rattle.std.proofs.Common.{sym, ap, ap₂, subst, ◌∙◌, append_assoc, le_of_suc-le-suc, not-suc-le-zero, add-one, arith, eqb→eq, length-append, length-drop, take-append-drop, drop_of_length-le, take-add, take-suc, drop_at, length-take-le}
use Rattle.std.proofs.lemmas.List.{length-replicate}
use Rattle.std.proofs.Math.Seq.{take-append_seam, drop-append_seam}
use Rattle.run.specs.BooleanLaws.{left, right, both}
use Rattle.configuration.specs.Weight.{is_zero}
use Rattle.configuration.specs.Configuration.{Line, line, lines_fit, weights_fit, is_configuration}
use Rattle.configuration.specs.LineLaws.{IsShort, IsConfiguration, configuration_parts, parts_configuration, configuration_short}
use Rattle.memory.specs.declared.Entry.{Entry}
use Rattle.memory.specs.Memory.{Memory, read_lines, all_terms, back_to_back, entries_of, unused, same_memory, IsFaithful, standing_of, image_of, well_formed}
use Rattle.memory.specs.LayoutLaws.{memory_self, length_entries, well_image, well_parts}
use Rattle.configuration.specs.Area.{zeros}
use Rattle.configuration.specs.AreaLaws.{zeros-replicate, replicate-zeros}
use Rattle.memory.specs.Places.{used_by, ClearFrom, is_unused, all_unused}

-- ---- lines laid out and read back, whatever stands behind them
read_laid : (L : List Line) (x : List ℕ) (y : List Entry) → read_lines (length L) (all_terms L ++ x) (entries_of L ++ y) ≡ L
unfolding read_lines all_terms entries_of
read_laid [] x y = refl
read_laid (line f w ∷ L) x y =
    rw (append_assoc f (all_terms L) x, take-append_seam f (all_terms L ++ x), drop-append_seam f (all_terms L ++ x), read_laid L x y)

pub length_terms : (L : List Line) → IsShort L → length (all_terms L) ≤ 64 * length L
unfolding all_terms
length_terms [] s = omega arith
length_terms (line f w ∷ L) s = rw (length-append f (all_terms L)) (omega (arith, s.0, length_terms L s.1))

terms_room : (n : ℕ) (L : List Line) → IsConfiguration n L → length (all_terms L) ≤ 8192
terms_room n L q = omega (arith, length_terms L (configuration_short q), q.room)

pub back_to_back_lem : IsFaithful back_to_back
back_to_back_lem = record {
  room = λ n L h. terms_room n L (configuration_parts n L h);
  back = λ n L h. read_laid L (replicate (8192 - length (all_terms L)) 0) (replicate (128 - length L) unused);
}

-- ---- zeros
-- an area of any content is clear behind its end
pub clear_past : (ts : List ℕ) → length ts ≡ 8192 → ClearFrom 8192 ts
unfolding zeros
clear_past ts h = (h, omega arith, rw (drop_of_length-le ts {i = 8192} (omega arith)) tt)

-- ---- unused entries
unused_none : (n : ℕ) → T (all_unused (replicate n unused))
unfolding all_unused
unused_none zero = tt
unused_none (suc n) = unused_none n

is_zero→eq : (w : ℤ) → T (is_zero w) → w ≡ pos 0
is_zero→eq (pos zero) h = refl
is_zero→eq (pos (suc n)) h = absurd h
is_zero→eq (negsuc n) h = absurd h

pub unused_is : (e : Entry) → T (is_unused e) → e ≡ unused
unused_is e h =
    ap₂ (λ (w : ℤ) (n : ℕ). record { weight = w; count = n }) (is_zero→eq e.weight (left (is_zero e.weight) (eqb e.count 0) h))
    (eqb→eq e.count 0 (right (is_zero e.weight) (eqb e.count 0) h))

all_unused_lem : (t : List Entry) → T (all_unused t) → t ≡ replicate (length t) unused
unfolding all_unused
all_unused_lem [] h = refl
all_unused_lem (e ∷ t) h =
    ap₂ (λ (x : Entry) (y : List Entry). x ∷ y) (unused_is e (left (is_unused e) (all_unused t) h)) (all_unused_lem t (right (is_unused e) (all_unused t) h))

-- ---- how many places entries count
used_append : (s t : List Entry) → used_by (s ++ t) ≡ used_by s + used_by t
unfolding used_by
used_append [] t = omega arith
used_append (e ∷ s) t = omega (arith, used_append s t)

used_none : (n : ℕ) → used_by (replicate n unused) ≡ 0
unfolding used_by
used_none zero = refl
used_none (suc n) = omega (arith, used_none n)

used_lines : (L : List Line) → used_by (entries_of L) ≡ length (all_terms L)
unfolding used_by entries_of all_terms
used_lines [] = refl
used_lines (line f w ∷ L) = ap (λ (n : ℕ). length f + n) (used_lines L) ∙ sym (length-append f (all_terms L))

-- the first entries, one more, and all of them where the others are unused
used_parts : (k : ℕ) (t : List Entry) → used_by (take k t) + used_by (drop k t) ≡ used_by t
used_parts k t = sym (used_append (take k t) (drop k t)) ∙ ap used_by (take-append-drop k t)

pub used_take : (k : ℕ) (t : List Entry) → used_by (take k t) ≤ used_by t
used_take k t = omega (arith, used_parts k t)

pub used_next : (k : ℕ) (t : List Entry) → k < length t → used_by (take k t) + (get_or t k unused).count ≡ used_by (take (k + 1) t)
unfolding used_by
used_next k t h =
    let e : Entry = get_or t k unused in
    omega (arith, used_append (take k t) (e ∷ []), ap used_by (ap (λ (j : ℕ). take j t) (add-one k) ∙ take-suc t k unused h))

used_front : (k : ℕ) (t : List Entry) → T (all_unused (drop k t)) → used_by (take k t) ≡ used_by t
used_front k t u =
    let z : used_by (drop k t) ≡ 0 = ap used_by (all_unused_lem (drop k t) u) ∙ used_none (length (drop k t)) in
    omega (arith, used_parts k t)

-- ---- what is read is what stands there
pub length_read : (k : ℕ) (ts : List ℕ) (t : List Entry) → k ≤ length t → length (read_lines k ts t) ≡ k
unfolding read_lines
length_read zero ts t h = refl
length_read (suc k) ts [] h = absurd (not-suc-le-zero h)
length_read (suc k) ts (e ∷ t) h = ap suc (length_read k (drop e.count ts) t (le_of_suc-le-suc h))

read_terms : (k : ℕ) (ts : List ℕ) (t : List Entry) → k ≤ length t → all_terms (read_lines k ts t) ≡ take (used_by (take k t)) ts
unfolding read_lines all_terms used_by
read_terms zero ts t h = refl
read_terms (suc k) ts [] h = absurd (not-suc-le-zero h)
read_terms (suc k) ts (e ∷ t) h =
    let n : ℕ = e.count in
    ap (λ (x : List ℕ). take n ts ++ x) (read_terms k (drop n ts) t (le_of_suc-le-suc h)) ∙ sym (take-add n (used_by (take k t)) ts)

read_entries : (k : ℕ) (ts : List ℕ) (t : List Entry) → k ≤ length t → used_by (take k t) ≤ length ts → entries_of (read_lines k ts t) ≡ take k t
unfolding read_lines entries_of used_by
read_entries zero ts t h u = refl
read_entries (suc k) ts [] h u = absurd (not-suc-le-zero h)
read_entries (suc k) ts (e ∷ t) h u =
    let n : ℕ = e.count in
    ap₂ (λ (c : ℕ) (x : List Entry). record { weight = e.weight; count = c } ∷ x) (length-take-le n ts (omega arith))
    (read_entries k (drop n ts) t (le_of_suc-le-suc h) (omega (arith, length-drop n ts)))

-- ---- the parts of the test
pub record Formed (m : Memory) : Type 0 where
  pub terms_length : length m.terms ≡ 8192
  pub table_length : length m.table ≡ 128
  pub room : m.lines ≤ 128
  pub variables : m.variables ≤ 32
  pub behind : T (all_unused (drop m.lines m.table))
  pub used : used_by m.table ≤ 8192
  pub rest : T (zeros (drop (used_by m.table) m.terms))
  pub fit : T (lines_fit m.variables (standing_of m))
  pub weights : T (weights_fit (standing_of m))

pub well_formed_lem : (m : Memory) → T (well_formed m) → Formed m
well_formed_lem m h =
    let L : List Line = standing_of m in
    let i : Memory = image_of m.variables L in
    let e : m ≡ i = well_image back_to_back m h in
    let q : IsConfiguration m.variables L = well_parts back_to_back m h in
    let z : ℕ = 128 - length L in
    let r : length (all_terms L) ≤ 8192 = terms_room m.variables L q in
    let x : List ℕ = replicate (8192 - length (all_terms L)) 0 in
    let lt : length i.terms ≡ 8192 = simp (length-append, length-replicate) (omega (arith, r)) in
    let le : length i.table ≡ 128 = simp (length-append, length-replicate) (omega (arith, length_entries L, q.room)) in
    let ub : T (all_unused (drop (length L) i.table)) = rw (drop_at (entries_of L) (replicate z unused) (length L) (length_entries L)) (unused_none z) in
    let us : used_by i.table ≡ length (all_terms L) = omega (arith, used_append (entries_of L) (replicate z unused), used_lines L, used_none z) in
    let ur : T (zeros (drop (used_by i.table) i.terms)) = rw (us, drop-append_seam (all_terms L) x) (replicate-zeros (8192 - length (all_terms L))) in
    record {
      terms_length = ap (λ (k : Memory). length k.terms) e ∙ lt;
      table_length = ap (λ (k : Memory). length k.table) e ∙ le;
      room = subst (λ (k : ℕ). k ≤ 128) (sym (ap (λ (k : Memory). k.lines) e)) q.room;
      variables = q.variables;
      behind = subst (λ (k : Memory). T (all_unused (drop k.lines k.table))) (sym e) ub;
      used = subst (λ (k : Memory). used_by k.table ≤ 8192) (sym e) (omega (arith, us, r));
      rest = subst (λ (k : Memory). T (zeros (drop (used_by k.table) k.terms))) (sym e) ur;
      fit = q.fit;
      weights = q.weights;
    }

-- behind the lines that it holds, a well-formed memory is clear
pub well_clear : (m : Memory) → T (well_formed m) → ClearFrom (used_by m.table) m.terms
well_clear m h = let q = well_formed_lem m h in (q.terms_length, q.used, q.rest)

-- a part of an area, and zeros behind it
zeros_behind : (ts : List ℕ) (u : ℕ) → length ts ≡ 8192 → u ≤ 8192 → T (zeros (drop u ts)) → ts ≡ take u ts ++ replicate (8192 - length (take u ts)) 0
zeros_behind ts u n b z =
    let a : length (drop u ts) ≡ 8192 - length (take u ts) = omega (arith, length-drop u ts, length-take-le u ts (omega arith)) in
    sym (take-append-drop u ts) ∙ ap (λ (x : List ℕ). take u ts ++ x) (zeros-replicate (drop u ts) z ∙ ap (λ (k : ℕ). replicate k 0) a)

pub Formed-well : (m : Memory) → Formed m → T (well_formed m)
Formed-well m q =
    let L : List Line = standing_of m in
    let t : List Entry = m.table in
    let k : ℕ = m.lines in
    let b : k ≤ length t = omega (arith, q.room, q.table_length) in
    let c : length L ≡ k = length_read k m.terms t b in
    let u : used_by (take k t) ≡ used_by t = used_front k t q.behind in
    let s : take (used_by t) m.terms ≡ all_terms L = ap (λ (n : ℕ). take n m.terms) (sym u) ∙ sym (read_terms k m.terms t b) in
    let et : m.terms ≡ (image_of m.variables L).terms =
    zeros_behind m.terms (used_by t) q.terms_length q.used q.rest ∙ ap (λ (x : List ℕ). x ++ replicate (8192 - length x) 0) s in
    let z : length (drop k t) ≡ 128 - length L = omega (arith, length-drop k t, q.table_length) in
    let d : drop k t ≡ replicate (128 - length L) unused = all_unused_lem (drop k t) q.behind ∙ ap (λ (n : ℕ). replicate n unused) z in
    let ee : m.table ≡ (image_of m.variables L).table =
    sym (take-append-drop k t) ∙ ap₂ (λ (x y : List Entry). x ++ y) (sym (read_entries k m.terms t b (omega (arith, q.used, q.terms_length)))) d in
    let e : m ≡ image_of m.variables L = λ i. record { variables = m.variables; lines = sym c i; terms = et i; table = ee i } in
    both (is_configuration m.variables L) (same_memory m (image_of m.variables L))
    (parts_configuration m.variables L (record { variables = q.variables; room = omega (arith, q.room); fit = q.fit; weights = q.weights }))
    (subst (λ (x : Memory). T (same_memory m x)) e (memory_self m))
