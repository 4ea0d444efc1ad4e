-- Laws of the hard list: what holds of each polynomial of a list that can be held; a list and its area; a well-formed area is that of the list that it holds.
use Rattle.std.specs.Prelude.{◌≡◌, refl, true, false, not, ◌&&◌, List, [], ◌∷◌, ◌++◌, map, ℕ, zero, suc, ◌+◌, ◌-◌, ◌*◌, ◌≤◌, ◌<◌, T, leb, eqb, length, get_or, take, drop, replicate}
use Rattle.std.proofs.Common.{sym, ap₂, ◌∙◌, append_assoc, le_of_suc-le-suc, not-suc-le-zero, arith, leb→le, le→leb, eqb→eq, length-append, length-drop, length-take, take-append-drop, length-take-le, drop-drop}
use Rattle.std.proofs.Math.Path.{ap}
use Rattle.std.proofs.Math.Numerals.{unary_clauses}
use Rattle.std.proofs.lemmas.List.{length-map, length-replicate}
use Rattle.std.proofs.Math.Seq.{take_at, drop_at, take-append_seam, drop-append_seam}
use Rattle.std.proofs.lemmas.Bool.{not-true}
use Rattle.run.specs.BooleanLaws.{left, right, both, is_true, eq→eqb}
use Rattle.polynomial.specs.Polynomial.{ZERO, eval}
use Rattle.configuration.specs.Area.{zeros}
use Rattle.configuration.specs.AreaLaws.{zeros-replicate, replicate-zeros}
use Rattle.configuration.specs.Configuration.{is_polynomial}
use Rattle.configuration.specs.LineLaws.{polynomial_short, none_polynomial}
use Rattle.hard.specs.Hard.{all_polynomials, is_hard_list, hard_at, consistent, HardArea, read_hard, hard_of, places_of, laid_hard, hard_image, hard_sized, row_formed, rows_formed, hard_formed}

-- ---- the polynomial of a number
member_is : (n i : ℕ) (H : List (List ℕ)) → T (all_polynomials n H) → T (is_polynomial n (get_or H i ZERO))
unfolding all_polynomials
member_is n i [] h = none_polynomial n
member_is n zero (f ∷ H) h = left (is_polynomial n f) (all_polynomials n H) h
member_is n (suc i) (f ∷ H) h = member_is n i H (right (is_polynomial n f) (all_polynomials n H) h)

pub hard_polynomial : (n i : ℕ) (H : List (List ℕ)) → T (is_hard_list n H) → T (is_polynomial n (hard_at H i))
hard_polynomial n zero H h = none_polynomial n
hard_polynomial n (suc i) H h = member_is n i H (right (leb (length H) 16) (all_polynomials n H) h)

pub list_room : (n : ℕ) (H : List (List ℕ)) → T (is_hard_list n H) → length H ≤ 16
list_room n H h = leb→le (length H) 16 (left (leb (length H) 16) (all_polynomials n H) h)

-- one more polynomial
all_more : (n : ℕ) (H : List (List ℕ)) (f : List ℕ) → T (all_polynomials n H) → T (is_polynomial n f) → T (all_polynomials n (H ++ (f ∷ [])))
unfolding all_polynomials
all_more n [] f h k = both (is_polynomial n f) true k tt
all_more n (g ∷ H) f h k =
    both (is_polynomial n g) (all_polynomials n (H ++ (f ∷ []))) (left (is_polynomial n g) (all_polynomials n H) h) (all_more n H f (right (is_polynomial n g) (all_polynomials n H) h) k)

pub list_more : (n : ℕ) (H : List (List ℕ)) (f : List ℕ) → length H < 16 → T (is_hard_list n H) → T (is_polynomial n f) → T (is_hard_list n (H ++ (f ∷ [])))
list_more n H f b h k =
    let l : length (H ++ (f ∷ [])) ≤ 16 = rw (length-append H (f ∷ [])) (omega arith) in
    both (leb (length (H ++ (f ∷ []))) 16) (all_polynomials n (H ++ (f ∷ []))) (le→leb (length (H ++ (f ∷ []))) 16 l) (all_more n H f (right (leb (length H) 16) (all_polynomials n H) h) k)

-- at a consistent assignment every one is 0, and what has no number is 0 everywhere
member_zero : (i : ℕ) (H : List (List ℕ)) (α : ℕ) → T (consistent H α) → eval (get_or H i ZERO) α ≡ false
unfolding consistent eval
member_zero i [] α h = refl
member_zero zero (f ∷ H) α h = not-true (eval f α) (is_true (not (eval f α)) (left (not (eval f α)) (consistent H α) h))
member_zero (suc i) (f ∷ H) α h = member_zero i H α (right (not (eval f α)) (consistent H α) h)

pub consistent_zero : (H : List (List ℕ)) (i α : ℕ) → T (consistent H α) → eval (hard_at H i) α ≡ false
unfolding eval
consistent_zero H zero α h = refl
consistent_zero H (suc i) α h = member_zero i H α h

-- ---- reading: how many there are, one of them, and how long each is
pub length_read : (k : ℕ) (cs ps : List ℕ) → k ≤ length cs → length (read_hard k cs ps) ≡ k
unfolding read_hard
length_read zero cs ps h = refl
length_read (suc k) [] ps h = absurd (not-suc-le-zero h)
length_read (suc k) (c ∷ cs) ps h = ap suc (length_read k cs (drop 64 ps) (le_of_suc-le-suc h))

pub one_read : (k i : ℕ) (cs ps : List ℕ) → i < k → k ≤ length cs → get_or (read_hard k cs ps) i [] ≡ take (get_or cs i 0) (take 64 (drop (64 * i) ps))
unfolding read_hard
one_read zero i cs ps h l = absurd (not-suc-le-zero h)
one_read (suc k) i [] ps h l = absurd (not-suc-le-zero l)
one_read (suc k) zero (c ∷ cs) ps h l = refl
one_read (suc k) (suc i) (c ∷ cs) ps h l =
    let e : 64 + 64 * i ≡ 64 * suc i = omega arith in
    one_read k i cs (drop 64 ps) (le_of_suc-le-suc h) (le_of_suc-le-suc l) ∙ rw (drop-drop (64 * i) 64 ps, e)

-- every polynomial of a list has at most 64 terms
abbrev pub AllShort : List (List ℕ) → Type 0
AllShort [] = Unit {0}
AllShort (h ∷ H) = (length h ≤ 64) × AllShort H

pub all_read : (k : ℕ) (cs ps : List ℕ) → AllShort (read_hard k cs ps)
unfolding read_hard
all_read zero cs ps = tt
all_read (suc k) [] ps = tt
all_read (suc k) (c ∷ cs) ps = (omega (arith, length-take c (take 64 ps), length-take 64 ps), all_read k cs (drop 64 ps))

-- ---- a list and its area
module _ (h : List ℕ) (b : length h ≤ 64) where
  pub length_places : length (places_of h) ≡ 64
  length_places = length-append h (replicate (64 - length h) 0) ∙ rw (length-replicate {A = ℕ} (64 - length h) 0) (omega arith)

all_head : (n : ℕ) (h : List ℕ) (H : List (List ℕ)) → T (all_polynomials n (h ∷ H)) → T (is_polynomial n h)
unfolding all_polynomials
all_head n h H p = left (is_polynomial n h) (all_polynomials n H) p

all_tail : (n : ℕ) (h : List ℕ) (H : List (List ℕ)) → T (all_polynomials n (h ∷ H)) → T (all_polynomials n H)
unfolding all_polynomials
all_tail n h H p = right (is_polynomial n h) (all_polynomials n H) p

pub length_laid : (n : ℕ) (H : List (List ℕ)) → T (all_polynomials n H) → length (laid_hard H) ≡ 64 * length H
unfolding laid_hard
length_laid n [] p = refl
length_laid n (h ∷ H) p =
    let b = polynomial_short n h (all_head n h H p) in
    rw (length-append (places_of h) (laid_hard H)) (omega (arith, length_places h b, length_laid n H (all_tail n h H p)))

-- the first 64 places, and those behind them
module _ (n : ℕ) (h : List ℕ) (H : List (List ℕ)) (p : T (all_polynomials n (h ∷ H))) (y : List ℕ) where
  long : length (places_of h) ≡ 64
  long = length_places h (polynomial_short n h (all_head n h H p))

  pub first_places : take 64 (laid_hard (h ∷ H) ++ y) ≡ places_of h
  unfolding laid_hard
  first_places = ap (take 64) (append_assoc (places_of h) (laid_hard H) y) ∙ take_at (places_of h) (laid_hard H ++ y) 64 long

  pub places_behind : drop 64 (laid_hard (h ∷ H) ++ y) ≡ laid_hard H ++ y
  unfolding laid_hard
  places_behind = ap (drop 64) (append_assoc (places_of h) (laid_hard H) y) ∙ drop_at (places_of h) (laid_hard H ++ y) 64 long

-- a list is read back, whatever stands behind it
read_laid : (n : ℕ) (H : List (List ℕ)) → T (all_polynomials n H) → (x y : List ℕ) → read_hard (length H) (map length H ++ x) (laid_hard H ++ y) ≡ H
unfolding read_hard
read_laid n [] p x y = refl
read_laid n (h ∷ H) p x y =
    ap₂ (λ (f : List ℕ) (G : List (List ℕ)). f ∷ G)
    (ap (take (length h)) (first_places n h H p y) ∙ take-append_seam h (replicate (64 - length h) 0))
    (ap (read_hard (length H) (map length H ++ x)) (places_behind n h H p y) ∙ read_laid n H (all_tail n h H p) x y)

pub image_back : (n : ℕ) (H : List (List ℕ)) → T (is_hard_list n H) → hard_of (hard_image H) ≡ H
image_back n H h = read_laid n H (right (leb (length H) 16) (all_polynomials n H) h) (replicate (16 - length H) 0) (replicate (1024 - 64 * length H) 0)

module _ (n : ℕ) (H : List (List ℕ)) (h : T (is_hard_list n H)) where
  pub counts_sixteen : length (hard_image H).counts ≡ 16
  counts_sixteen = length-append (map length H) (replicate (16 - length H) 0) ∙ rw (length-map H length, length-replicate {A = ℕ} (16 - length H) 0) (omega (arith, list_room n H h))

  pub places_1024 : length (hard_image H).places ≡ 1024
  places_1024 =
      length-append (laid_hard H) (replicate (1024 - 64 * length H) 0)
      ∙ rw (length_laid n H (right (leb (length H) 16) (all_polynomials n H) h), length-replicate {A = ℕ} (1024 - 64 * length H) 0) (omega (arith, list_room n H h))

  pub image_sized : T (hard_sized (hard_image H))
  image_sized =
      both (eqb (length (hard_image H).counts) 16) (eqb (length (hard_image H).places) 1024)
      (eq→eqb (length (hard_image H).counts) 16 counts_sixteen)
      (eq→eqb (length (hard_image H).places) 1024 places_1024)

-- the area of a list that can be held is well formed
row_formed_lem : (n : ℕ) (h : List ℕ) → T (is_polynomial n h) → T (row_formed n (length h) (places_of h))
row_formed_lem n h p =
    let z = replicate {A = ℕ} (64 - length h) 0 in
    both (leb (length h) 64) (is_polynomial n (take (length h) (places_of h)) && zeros (drop (length h) (places_of h)))
    (le→leb (length h) 64 (polynomial_short n h p))
    (both (is_polynomial n (take (length h) (places_of h))) (zeros (drop (length h) (places_of h)))
    (rw (take-append_seam h z) p)
    (rw (drop-append_seam h z) (replicate-zeros (64 - length h))))

rows_formed_lem : (n : ℕ) (H : List (List ℕ)) → T (all_polynomials n H) → (a b : ℕ)
    → T (rows_formed n (length H) (map length H ++ replicate a 0) (laid_hard H ++ replicate b 0))
unfolding rows_formed laid_hard
rows_formed_lem n [] p a b = both (zeros (replicate a 0)) (zeros (replicate b 0)) (replicate-zeros a) (replicate-zeros b)
rows_formed_lem n (h ∷ H) p a b =
    let y = replicate {A = ℕ} b 0 in
    rw (first_places n h H p y, places_behind n h H p y)
    (both (row_formed n (length h) (places_of h)) (rows_formed n (length H) (map length H ++ replicate a 0) (laid_hard H ++ replicate b 0))
    (row_formed_lem n h (all_head n h H p))
    (rows_formed_lem n H (all_tail n h H p) a b))

pub image_formed : (n : ℕ) (H : List (List ℕ)) → T (is_hard_list n H) → T (hard_formed n (hard_image H))
image_formed n H h =
    let a = hard_image H in
    both (hard_sized a) (leb (length H) 16 && rows_formed n (length H) a.counts a.places)
    (image_sized n H h)
    (both (leb (length H) 16) (rows_formed n (length H) a.counts a.places)
    (left (leb (length H) 16) (all_polynomials n H) h)
    (rows_formed_lem n H (right (leb (length H) 16) (all_polynomials n H) h) (16 - length H) (1024 - 64 * length H)))

-- ---- a well-formed area is that of the list that it holds
-- the parts of the test
pub record IsFormed (n : ℕ) (a : HardArea) : Type 0 where
  pub counts_length : length a.counts ≡ 16
  pub places_length : length a.places ≡ 1024
  pub room : a.number ≤ 16
  pub rows : T (rows_formed n a.number a.counts a.places)

pub formed_parts : (n : ℕ) (a : HardArea) → T (hard_formed n a) → IsFormed n a
formed_parts n a h =
    let rows = rows_formed n a.number a.counts a.places in
    let s : _ = left (hard_sized a) (leb a.number 16 && rows) h in
    let q : _ = right (hard_sized a) (leb a.number 16 && rows) h in
    record {
      counts_length = eqb→eq (length a.counts) 16 (left (eqb (length a.counts) 16) (eqb (length a.places) 1024) s);
      places_length = eqb→eq (length a.places) 1024 (right (eqb (length a.counts) 16) (eqb (length a.places) 1024) s);
      room = leb→le a.number 16 (left (leb a.number 16) rows q);
      rows = right (leb a.number 16) rows q;
    }

-- a row, its count and its polynomial
module _ (n c : ℕ) (row : List ℕ) (long : length row ≡ 64) (f : T (row_formed n c row)) where
  behind : T (is_polynomial n (take c row) && zeros (drop c row))
  behind = right (leb c 64) (is_polynomial n (take c row) && zeros (drop c row)) f

  pub row_polynomial : T (is_polynomial n (take c row))
  row_polynomial = left (is_polynomial n (take c row)) (zeros (drop c row)) behind

  pub row_count : length (take c row) ≡ c
  row_count = length-take-le c row (omega (arith, leb→le c 64 (left (leb c 64) (is_polynomial n (take c row) && zeros (drop c row)) f)))

  pub row_places : places_of (take c row) ≡ row
  row_places =
      let k : length (drop c row) ≡ 64 - length (take c row) = rw row_count (omega (arith, length-drop c row, long)) in
      let z : drop c row ≡ replicate (64 - length (take c row)) 0 =
      zeros-replicate (drop c row) (right (is_polynomial n (take c row)) (zeros (drop c row)) behind) ∙ ap (λ (j : ℕ). replicate j 0) k in
      ap (λ (s : List ℕ). take c row ++ s) (sym z) ∙ take-append-drop c row

-- the polynomials, the counts and the places of rows that are well formed
rows_polynomials : (n k : ℕ) (cs ps : List ℕ) → T (rows_formed n k cs ps) → T (all_polynomials n (read_hard k cs ps))
unfolding rows_formed read_hard all_polynomials
rows_polynomials n zero cs ps f = tt
rows_polynomials n (suc k) [] ps f = absurd f
rows_polynomials n (suc k) (c ∷ cs) ps f =
    let a = row_formed n c (take 64 ps) in
    let b = rows_formed n k cs (drop 64 ps) in
    both (is_polynomial n (take c (take 64 ps))) (all_polynomials n (read_hard k cs (drop 64 ps)))
    (left (is_polynomial n (take c (take 64 ps))) (zeros (drop c (take 64 ps))) (right (leb c 64) _ (left a b f)))
    (rows_polynomials n k cs (drop 64 ps) (right a b f))

rows_counts : (n k : ℕ) (cs ps : List ℕ) → 64 * k ≤ length ps → T (rows_formed n k cs ps) → cs ≡ map length (read_hard k cs ps) ++ replicate (length cs - k) 0
unfolding rows_formed read_hard
rows_counts n zero cs ps b f = simp unary_clauses (zeros-replicate cs (left (zeros cs) (zeros ps) f))
rows_counts n (suc k) [] ps b f = absurd f
rows_counts n (suc k) (c ∷ cs) ps b f =
    let r = row_formed n c (take 64 ps) in
    let s = rows_formed n k cs (drop 64 ps) in
    simp unary_clauses
    (ap₂ (λ (x : ℕ) (xs : List ℕ). x ∷ xs)
    (sym (row_count n c (take 64 ps) (length-take-le 64 ps (omega arith)) (left r s f)))
    (rows_counts n k cs (drop 64 ps) (omega (arith, length-drop 64 ps)) (right r s f)))

rows_places : (n k : ℕ) (cs ps : List ℕ) → 64 * k ≤ length ps → T (rows_formed n k cs ps) → ps ≡ laid_hard (read_hard k cs ps) ++ replicate (length ps - 64 * k) 0
unfolding rows_formed read_hard laid_hard
rows_places n zero cs ps b f = simp unary_clauses (zeros-replicate ps (right (zeros cs) (zeros ps) f))
rows_places n (suc k) [] ps b f = absurd f
rows_places n (suc k) (c ∷ cs) ps b f =
    let r = row_formed n c (take 64 ps) in
    let s = rows_formed n k cs (drop 64 ps) in
    let h = take c (take 64 ps) in
    let H = read_hard k cs (drop 64 ps) in
    let e : length (drop 64 ps) - 64 * k ≡ length ps - 64 * suc k = omega (arith, length-drop 64 ps) in
    sym (take-append-drop 64 ps)
    ∙ ap₂ (λ (x y : List ℕ). x ++ y)
    (sym (row_places n c (take 64 ps) (length-take-le 64 ps (omega arith)) (left r s f)))
    (rows_places n k cs (drop 64 ps) (omega (arith, length-drop 64 ps)) (right r s f))
    ∙ ap (λ (j : ℕ). places_of h ++ (laid_hard H ++ replicate j 0)) e
    ∙ sym (append_assoc (places_of h) (laid_hard H) (replicate (length ps - 64 * suc k) 0))

module _ (n : ℕ) (a : HardArea) (f : T (hard_formed n a)) where
  parts : IsFormed n a
  parts = formed_parts n a f

  pub formed_number : length (hard_of a) ≡ a.number
  formed_number = length_read a.number a.counts a.places (omega (arith, parts.room, parts.counts_length))

  pub formed_list : T (is_hard_list n (hard_of a))
  formed_list =
      both (leb (length (hard_of a)) 16) (all_polynomials n (hard_of a))
      (le→leb (length (hard_of a)) 16 (omega (arith, formed_number, parts.room)))
      (rows_polynomials n a.number a.counts a.places parts.rows)

  pub formed_image : a ≡ hard_image (hard_of a)
  formed_image =
      let k = a.number in
      let room : 64 * k ≤ length a.places = omega (arith, parts.room, parts.places_length) in
      let c : length a.counts - k ≡ 16 - length (hard_of a) = omega (arith, formed_number, parts.counts_length) in
      let p : length a.places - 64 * k ≡ 1024 - 64 * length (hard_of a) = rw formed_number (omega (arith, parts.places_length)) in
      let cs : a.counts ≡ (hard_image (hard_of a)).counts =
      rows_counts n k a.counts a.places room parts.rows ∙ ap (λ (j : ℕ). map length (hard_of a) ++ replicate j 0) c in
      let ps : a.places ≡ (hard_image (hard_of a)).places =
      rows_places n k a.counts a.places room parts.rows ∙ ap (λ (j : ℕ). laid_hard (hard_of a) ++ replicate j 0) p in
      same (sym formed_number) cs ps
    where
      same : {k m : ℕ} {cs ds ps qs : List ℕ} → k ≡ m → cs ≡ ds → ps ≡ qs
          → ◌≡◌ {A = HardArea} (record { number = k; counts = cs; places = ps }) (record { number = m; counts = ds; places = qs })
      same {k} {m} {cs} {ds} {ps} {qs} x y z = rw (x, y, z)
