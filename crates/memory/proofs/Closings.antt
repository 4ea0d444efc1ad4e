-- The steps of writing lines back, over plain lists: the terms and the entry of one line more, and what lies behind the last.
use mathlib.Core.Path.{◌≡◌, refl, sym, ap, ap₂, ◌∙◌}
use mathlib.Core.List.{List, [], ◌∷◌, ◌++◌, append_assoc, append-nil}
use Prim.Native.Nat.{ℕ, ◌+◌, ◌-◌, ◌≤◌, ◌<◌}
use native.Mathlib.Numerals.{add-one}
use native.Mathlib.Omega.{arith}
use lib.IntN.{ℤ}
use lib.ListN.{length, get_or, set, take, drop, replicate, length-append, length-drop, length-replicate, replicate-append-replicate}
use lib.Seq.{append_snoc, take_at, drop_at, take-suc, drop-cons, drop-drop, set_at, length-take-le}
use Rattle.configuration.specs.Configuration.{Line, line}
use Rattle.configuration.specs.LineLaws.{IsShort, Every-take}
use Rattle.memory.specs.declared.Entry.{Entry}
use Rattle.memory.specs.Memory.{Memory, all_terms, entries_of, unused, image_of}
use Rattle.memory.specs.LayoutLaws.{length_entries}
use Rattle.configuration.specs.AreaLaws.{zeros-replicate}
use Rattle.memory.specs.MemoryLaws.{length_terms}
use Rattle.memory.specs.Places.{ClearFrom}

-- ---- no line is written yet
pub no_terms : (N : List Line) (l : List ℕ) → l ≡ all_terms (take 0 N) ++ drop 0 l
unfolding all_terms
no_terms N l = refl

pub no_end : (N : List Line) → 0 ≡ length (all_terms (take 0 N))
unfolding all_terms
no_end N = refl

pub no_lines : (N : List Line) (t : List Entry) → t ≡ entries_of (take 0 N) ++ drop 0 t
unfolding entries_of
no_lines N t = refl

-- ---- one line more
terms_more : (L : List Line) (f : List ℕ) (w : ℤ) → all_terms (L ++ line f w ∷ []) ≡ all_terms L ++ f
unfolding all_terms
terms_more [] f w = append-nil f
terms_more (line g u ∷ L) f w = ap (λ (x : List ℕ). g ++ x) (terms_more L f w) ∙ sym (append_assoc g (all_terms L) f)

entries_more : (L : List Line) (f : List ℕ) (w : ℤ) → entries_of (L ++ line f w ∷ []) ≡ entries_of L ++ record { weight = w; count = length f } ∷ []
unfolding entries_of
entries_more [] f w = refl
entries_more (line g u ∷ L) f w = ap (λ (x : List Entry). record { weight = u; count = length g } ∷ x) (entries_more L f w)

module _ (N : List Line) (i : ℕ) (b : i < length N) where
  abbrev M : List Line
  M = take i N

  -- the lines that are written leave room for one of 64 terms
  pub end_within : IsShort N → length N ≤ 128 → length (all_terms M) + 64 ≤ 8192
  end_within s r = omega (arith, length_terms M (Every-take (λ f. length f ≤ 64) i N s), length-take-le i N (omega arith))

  module _ (f : List ℕ) (w : ℤ) (d : Line) (x : get_or N i d ≡ line f w) where
    more : take (i + 1) N ≡ M ++ line f w ∷ []
    more = ap (λ (k : ℕ). take k N) (add-one i) ∙ take-suc N i d b ∙ ap (λ (y : Line). M ++ y ∷ []) x

    more_terms : all_terms (take (i + 1) N) ≡ all_terms M ++ f
    more_terms = ap all_terms more ∙ terms_more M f w

    pub next_end : length (all_terms M) + length f ≡ length (all_terms (take (i + 1) N))
    next_end = sym (ap length more_terms ∙ length-append (all_terms M) f)

    pub next_terms : (l : List ℕ) (e : ℕ) → e ≡ length (all_terms M) → (let m = all_terms M ++ drop e l in
        take e m ++ (f ++ drop (e + length f) m) ≡ all_terms (take (i + 1) N) ++ drop (e + length f) l)
    next_terms l e c =
        let m : List ℕ = all_terms M ++ drop e l in
        let y : drop (e + length f) m ≡ drop (e + length f) l =
        sym (drop-drop (length f) e m) ∙ ap (drop (length f)) (drop_at (all_terms M) (drop e l) e (sym c)) ∙ drop-drop (length f) e l in
        ap₂ (λ (p q : List ℕ). p ++ (f ++ q)) (take_at (all_terms M) (drop e l) e (sym c)) y
        ∙ sym (append_assoc (all_terms M) f (drop (e + length f) l)) ∙ ap (λ (p : List ℕ). p ++ drop (e + length f) l) (sym more_terms)

    pub next_entries : (t : List Entry) → i < length t
        → set (entries_of M ++ drop i t) i (record { weight = w; count = length f }) ≡ entries_of (take (i + 1) N) ++ drop (i + 1) t
    next_entries t h =
        let e : Entry = record { weight = w; count = length f } in
        let o : Entry = get_or t i unused in
        let s : drop i t ≡ o ∷ drop (i + 1) t = drop-cons t i unused h ∙ ap (λ (j : ℕ). o ∷ drop j t) (sym (add-one i)) in
        let k : length (entries_of M) ≡ i = length_entries M ∙ length-take-le i N (omega arith) in
        ap (λ (r : List Entry). set (entries_of M ++ r) i e) s ∙ set_at (entries_of M) o (drop (i + 1) t) e i k ∙ sym (append_snoc (entries_of M) e (drop (i + 1) t))
        ∙ ap (λ (x : List Entry). x ++ drop (i + 1) t) (sym (ap entries_of more ∙ entries_more M f w))

-- ---- what lies behind the last line, in an area l that was zero from the place u on
module _ (x l : List ℕ) (u : ℕ) (z : ClearFrom u l) where
  abbrev zeros_from : ℕ → List ℕ
  zeros_from e = replicate (8192 - e) 0

  drop_zeros : (k m : ℕ) → k ≤ m → drop k (replicate {A = ℕ} m 0) ≡ replicate (m - k) 0
  drop_zeros k m b =
      let e : k + (m - k) ≡ m = omega arith in
      ap (λ (j : ℕ). drop k (replicate {A = ℕ} j 0)) (sym e) ∙ ap (drop k) (sym (replicate-append-replicate k (m - k) 0))
      ∙ drop_at (replicate k 0) (replicate (m - k) 0) k (length-replicate {A = ℕ} k 0)

  rest_zero : drop u l ≡ zeros_from u
  rest_zero = let k : length (drop u l) ≡ 8192 - u = omega (arith, length-drop u l, z.0, z.1) in zeros-replicate (drop u l) z.2 ∙ ap (λ (j : ℕ). replicate j 0) k

  module _ (e : ℕ) (c : length x ≡ e) where
    abbrev m : List ℕ
    m = x ++ drop e l

    -- nothing is left to clear
    pub already_clear : u ≤ e → e ≤ 8192 → m ≡ x ++ zeros_from e
    already_clear b r =
        let s : u + (e - u) ≡ e = omega arith in
        let t : 8192 - u - (e - u) ≡ 8192 - e = omega arith in
        ap (λ (y : List ℕ). x ++ y) (ap (λ (k : ℕ). drop k l) (sym s) ∙ sym (drop-drop (e - u) u l) ∙ ap (drop (e - u)) rest_zero
        ∙ drop_zeros (e - u) (8192 - u) (omega arith) ∙ ap (λ (k : ℕ). replicate k 0) t)

    -- the places up to u are cleared
    pub cleared_now : e < u → take e m ++ (replicate (u - e) 0 ++ drop u m) ≡ x ++ zeros_from e
    cleared_now b =
        let s : e + (u - e) ≡ u = omega arith in
        let t : u - e + (8192 - u) ≡ 8192 - e = omega arith in
        let d : drop u m ≡ zeros_from u =
        ap (λ (k : ℕ). drop k m) (sym s) ∙ sym (drop-drop (u - e) e m) ∙ ap (drop (u - e)) (drop_at x (drop e l) e c) ∙ drop-drop (u - e) e l
        ∙ ap (λ (k : ℕ). drop k l) s ∙ rest_zero in
        ap₂ (λ (p q : List ℕ). p ++ (replicate (u - e) 0 ++ q)) (take_at x (drop e l) e c) d
        ∙ ap (λ (y : List ℕ). x ++ y) (replicate-append-replicate (u - e) (8192 - u) 0 ∙ ap (λ (k : ℕ). replicate k 0) t)

-- ---- the records behind those of all lines are filled
pub unused_behind : (N : List Line) (t : List Entry) (n : ℕ) → length N ≡ n → take n (entries_of N ++ drop n t) ++ replicate (128 - n) unused ≡ entries_of N ++ replicate (128 - n) unused
unused_behind N t n c = ap (λ (x : List Entry). x ++ replicate (128 - n) unused) (take_at (entries_of N) (drop n t) n (length_entries N ∙ c))

-- ---- the whole
pub written_back : (n lines : ℕ) (N : List Line) (l : List ℕ) (t : List Entry) (e : ℕ) → length N ≡ lines → length (all_terms N) ≡ e
    → l ≡ all_terms N ++ replicate (8192 - e) 0 → t ≡ entries_of N ++ replicate (128 - lines) unused
    → ◌≡◌ {A = Memory} (record { variables = n; lines = lines; terms = l; table = t }) (image_of n N)
written_back n lines N l t e c d p q =
    let a : l ≡ all_terms N ++ replicate (8192 - length (all_terms N)) 0 = p ∙ ap (λ (k : ℕ). all_terms N ++ replicate (8192 - k) 0) (sym d) in
    let b : t ≡ entries_of N ++ replicate (128 - length N) unused = q ∙ ap (λ (j : ℕ). entries_of N ++ replicate (128 - j) unused) (sym c) in
    λ i. record { variables = n; lines = sym c i; terms = a i; table = b i }
