-- Laws of the hard list that a `HardList` keeps: the area of a list with one polynomial more, and of what areas hold.
use Rattle.std.specs.Prelude.{◌≡◌, refl, List, [], ◌∷◌, ◌++◌, map, ℕ, zero, suc, ◌+◌, ◌-◌, ◌*◌, ◌≤◌, ◌<◌, T, length, get_or, take, drop, set, replicate}
use Rattle.std.proofs.Common.{sym, ap, ap₂, ◌∙◌, append_assoc, append-nil, add-one, arith, length-append, length-take, length-take-le, length-drop, take-take, take-append-drop, take-suc, drop-drop, length-set}
use Rattle.std.proofs.lemmas.List.{length-map, length-replicate}
use Rattle.std.proofs.Math.ListN.{replicate-append-replicate}
use Rattle.std.proofs.Math.Seq.{append_snoc, take_at, drop_at, take-append_seam, drop-append-add, set_at}
use Rattle.hard.specs.Hard.{HardArea, read_hard, hard_of, places_of, laid_hard, hard_image, hard_formed}
use Rattle.hard.specs.HardLaws.{length_read, one_read, AllShort, length_places, formed_parts}
use Rattle.hard.specs.Held.{IsHeld}

-- ---- a list and its area
pub length_rows : (H : List (List ℕ)) → AllShort H → length (laid_hard H) ≡ 64 * length H
unfolding laid_hard
length_rows [] s = refl
length_rows (h ∷ H) s = rw (length-append (places_of h) (laid_hard H)) (omega (arith, length_places h s.0, length_rows H s.1))

-- ---- one more polynomial
laid_more : (H : List (List ℕ)) (f : List ℕ) → laid_hard (H ++ (f ∷ [])) ≡ laid_hard H ++ places_of f
unfolding laid_hard
laid_more [] f = append-nil (places_of f)
laid_more (h ∷ H) f = ap (λ (s : List ℕ). places_of h ++ s) (laid_more H f) ∙ sym (append_assoc (places_of h) (laid_hard H) (places_of f))

map_more : (H : List (List ℕ)) (f : List ℕ) → map length (H ++ (f ∷ [])) ≡ map length H ++ (length f ∷ [])
map_more [] f = refl
map_more (h ∷ H) f = ap (λ (s : List ℕ). length h ∷ s) (map_more H f)

-- zeros behind a list, from the m-th on
zeros_behind : (L : List ℕ) (m a c n : ℕ) → n ≡ m + (a + c) → drop (length L + m) (L ++ replicate n 0) ≡ replicate a 0 ++ replicate c 0
zeros_behind L m a c n e =
    let rest = replicate {A = ℕ} a 0 ++ replicate c 0 in
    let parts : replicate {A = ℕ} n 0 ≡ replicate m 0 ++ rest =
    ap (λ (j : ℕ). replicate j 0) e
    ∙ sym (replicate-append-replicate m (a + c) 0)
    ∙ ap (λ (t : List ℕ). replicate m 0 ++ t) (sym (replicate-append-replicate a c 0)) in
    drop-append-add L (replicate n 0) m ∙ ap (drop m) parts ∙ drop_at (replicate m 0) rest m (length-replicate {A = ℕ} m 0)

module _ (H : List (List ℕ)) (s : AllShort H) (b : length H < 16) (f : List ℕ) (l : length f ≤ 64) where
  pub list_one_more : length (H ++ (f ∷ [])) ≡ suc (length H)
  list_one_more = length-append H (f ∷ []) ∙ add-one (length H)

  pub counts_more : set (hard_image H).counts (length H) (length f) ≡ (hard_image (H ++ (f ∷ []))).counts
  counts_more =
      let k = length H in
      let rest = replicate {A = ℕ} (15 - k) 0 in
      let e : 16 - k ≡ suc (15 - k) = omega arith in
      let d : 15 - k ≡ 16 - length (H ++ (f ∷ [])) = omega (arith, list_one_more) in
      ap (λ (j : ℕ). set (map length H ++ replicate j 0) k (length f)) e
      ∙ set_at (map length H) 0 rest (length f) k (length-map H length)
      ∙ sym (append_snoc (map length H) (length f) rest)
      ∙ ap (λ (s : List ℕ). s ++ rest) (sym (map_more H f))
      ∙ ap (λ (j : ℕ). map length (H ++ (f ∷ [])) ++ replicate j 0) d

  -- behind the places of the list: those that f leaves of its own 64, and those of the polynomials that are not there
  unused : List ℕ
  unused = replicate (64 - length f) 0 ++ replicate (1024 - 64 * length (H ++ (f ∷ []))) 0

  behind_more : drop (64 * length H + length f) (hard_image H).places ≡ unused
  unfolding unused
  behind_more =
      ap (λ (j : ℕ). drop (j + length f) (hard_image H).places) (sym (length_rows H s))
      ∙ zeros_behind (laid_hard H) (length f) (64 - length f) (1024 - 64 * length (H ++ (f ∷ []))) (1024 - 64 * length H) (omega (arith, list_one_more))

  pub places_more : take (64 * length H) (hard_image H).places ++ (f ++ drop (64 * length H + length f) (hard_image H).places) ≡ (hard_image (H ++ (f ∷ []))).places
  unfolding unused
  places_more =
      let L = laid_hard H in
      let z = replicate {A = ℕ} (1024 - 64 * length H) 0 in
      let a = replicate {A = ℕ} (64 - length f) 0 in
      let c = replicate {A = ℕ} (1024 - 64 * length (H ++ (f ∷ []))) 0 in
      ap₂ (λ (s t : List ℕ). s ++ (f ++ t)) (take_at L z (64 * length H) (length_rows H s)) behind_more
      ∙ ap (λ (s : List ℕ). L ++ s) (sym (append_assoc f a c))
      ∙ sym (append_assoc L (places_of f) c)
      ∙ ap (λ (s : List ℕ). s ++ c) (sym (laid_more H f))

-- ---- an area in which a polynomial is written behind the others
take_past : (A B : List ℕ) (m n : ℕ) → n ≡ length A + m → take n (A ++ B) ≡ A ++ take m B
take_past [] B m n e = ap (λ (j : ℕ). take j B) (omega (arith, e))
take_past (a ∷ A) B m zero e = absurd (omega (arith, e))
take_past (a ∷ A) B m (suc n) e = ap (λ (s : List ℕ). a ∷ s) (take_past A B m n (omega (arith, e)))

read_more : (k : ℕ) (cs ps f : List ℕ) → k < length cs → length f ≤ 64 → 64 * k ≤ length ps
    → read_hard (suc k) (set cs k (length f)) (take (64 * k) ps ++ (f ++ drop (64 * k + length f) ps)) ≡ read_hard k cs ps ++ (f ∷ [])
unfolding read_hard
read_more k [] ps f b l r = absurd (omega (arith, b))
read_more zero (c ∷ cs) ps f b l r =
    let n = length f in
    let e : 64 * 0 + n ≡ n = omega arith in
    ap (λ (j : ℕ). take n (take 64 (f ++ drop j ps)) ∷ []) e
    ∙ ap (λ (g : List ℕ). g ∷ []) (take-take n 64 (f ++ drop n ps) l ∙ take-append_seam f (drop n ps))
read_more (suc k) (c ∷ cs) ps f b l r =
    let n = length f in
    let m = 64 * k in
    let A = take 64 ps in
    let B = drop 64 ps in
    let Q = take m B ++ (f ++ drop (m + n) B) in
    let x : length A ≡ 64 = omega (arith, length-take 64 ps) in
    let e : 64 + (m + n) ≡ 64 * suc k + n = omega arith in
    let t : take (64 * suc k) ps ≡ A ++ take m B = ap (take (64 * suc k)) (sym (take-append-drop 64 ps)) ∙ take_past A B m (64 * suc k) (omega (arith, x)) in
    let d : drop (64 * suc k + n) ps ≡ drop (m + n) B = ap (λ (j : ℕ). drop j ps) (sym e) ∙ sym (drop-drop (m + n) 64 ps) in
    let whole : take (64 * suc k) ps ++ (f ++ drop (64 * suc k + n) ps) ≡ A ++ Q =
    ap₂ (λ (u v : List ℕ). u ++ (f ++ v)) t d ∙ append_assoc A (take m B) (f ++ drop (m + n) B) in
    ap (λ (P : List ℕ). take c (take 64 P) ∷ read_hard (suc k) (set cs k n) (drop 64 P)) whole
    ∙ ap₂ (λ (u v : List ℕ). take c u ∷ read_hard (suc k) (set cs k n) v) (take_at A Q 64 x) (drop_at A Q 64 x)
    ∙ ap (λ (G : List (List ℕ)). take c A ∷ G) (read_more k cs B f (omega (arith, b)) l (omega (arith, r, length-drop 64 ps)))

abbrev pub with_one_more : HardArea → List ℕ → HardArea
with_one_more a f = record {
  number = a.number + 1;
  counts = set a.counts a.number (length f);
  places = take (64 * a.number) a.places ++ (f ++ drop (64 * a.number + length f) a.places);
}

-- ---- what is kept
module _ (a : HardArea) (h : IsHeld a) where
  pub held_number : a.number ≡ length (hard_of a)
  held_number = sym (length_read a.number a.counts a.places (omega (arith, h.few, h.counts_length)))

  pub held_one : (i : ℕ) → i < length (hard_of a) → get_or (hard_of a) i [] ≡ take (get_or a.counts i 0) (take 64 (drop (64 * i) a.places))
  held_one i b = one_read a.number i a.counts a.places (omega (arith, held_number)) (omega (arith, h.few, h.counts_length))

  pub held_short : (i : ℕ) → i < length (hard_of a) → length (get_or (hard_of a) i []) ≤ 64
  held_short i b =
      let places = take 64 (drop (64 * i) a.places) in
      rw (held_one i b) (omega (arith, length-take (get_or a.counts i 0) places, length-take 64 (drop (64 * i) a.places)))

  module _ (f : List ℕ) (b : length (hard_of a) < 16) (l : length f ≤ 64) where
    pub more_held : IsHeld (with_one_more a f)
    more_held =
        let n = length f in
        let s = 64 * a.number in
        let behind = f ++ drop (s + n) a.places in
        let p : length (take s a.places ++ behind) ≡ 1024 =
        length-append (take s a.places) behind ∙ rw (length-append f (drop (s + n) a.places)) (omega (arith, held_number, h.places_length, length-take s a.places, length-drop (s + n) a.places)) in
        record { few = omega (arith, held_number); counts_length = length-set a.counts a.number n ∙ h.counts_length; places_length = p }

    pub more_list : hard_of (with_one_more a f) ≡ hard_of a ++ (f ∷ [])
    more_list =
        let x = with_one_more a f in
        ap (λ (k : ℕ). read_hard k x.counts x.places) (add-one a.number)
        ∙ read_more a.number a.counts a.places f (omega (arith, held_number, h.counts_length)) l (omega (arith, held_number, h.places_length))

-- a well-formed area is kept as it is
pub formed_held : (n : ℕ) (a : HardArea) → T (hard_formed n a) → IsHeld a
formed_held n a f = let p = formed_parts n a f in record { few = p.room; counts_length = p.counts_length; places_length = p.places_length }

-- ---- the area of one polynomial more of a list H
module _ (H : List (List ℕ)) (s : AllShort H) (r : length H ≤ 16) (i : ℕ) (b : i < length H) where
  abbrev G : List (List ℕ)
  G = take i H

  front_short : (k : ℕ) (L : List (List ℕ)) → AllShort L → AllShort (take k L)
  front_short zero L a = tt
  front_short (suc k) [] a = tt
  front_short (suc k) (g ∷ L) a = (a.0, front_short k L a.1)

  length_front : length G ≡ i
  length_front = length-take-le i H (omega (arith, b))

  next : take (i + 1) H ≡ G ++ (get_or H i [] ∷ [])
  next = ap (λ (k : ℕ). take k H) (add-one i) ∙ take-suc H i [] b

  module _ (f : List ℕ) (e : f ≡ get_or H i []) (l : length f ≤ 64) where
    next_image : hard_image (G ++ (f ∷ [])) ≡ hard_image (take (i + 1) H)
    next_image = ap hard_image (ap (λ (g : List ℕ). G ++ (g ∷ [])) e ∙ sym next)

    pub next_counts : set (hard_image G).counts i (length f) ≡ (hard_image (take (i + 1) H)).counts
    next_counts =
        ap (λ (k : ℕ). set (hard_image G).counts k (length f)) (sym length_front)
        ∙ counts_more G (front_short i H s) (omega (arith, length_front, b, r)) f l ∙ ap (λ (a : HardArea). a.counts) next_image

    pub next_places : take (64 * i) (hard_image G).places ++ (f ++ drop (64 * i + length f) (hard_image G).places) ≡ (hard_image (take (i + 1) H)).places
    next_places =
        ap (λ (k : ℕ). take (64 * k) (hard_image G).places ++ (f ++ drop (64 * k + length f) (hard_image G).places)) (sym length_front)
        ∙ places_more G (front_short i H s) (omega (arith, length_front, b, r)) f l ∙ ap (λ (a : HardArea). a.places) next_image
