-- Laws of the listing: how long its texts are, that the texts of its numbers one after the other are the whole, and document 01's case.
use Rattle.std.specs.Prelude.{◌≡◌, refl, List, [], ◌∷◌, ◌++◌, map, ℕ, zero, suc, ◌+◌, ◌*◌, ◌/◌, ◌%◌, ◌^◌, ◌≤◌, ◌<◌, ltb, eqb, ℤ, pos, negsuc, length, get_or, drop}
use Rattle.std.proofs.Common.{ap, ap₂, sym, ◌∙◌, append-nil, arith, nltb→le, length-append, drop_of_length-le, drop-cons}
use Rattle.std.proofs.lemmas.List.{length-map}
use Rattle.run.specs.BooleanLaws.{cond_ind}
use Rattle.configuration.specs.Configuration.{Line, line}
use Rattle.configuration.specs.LineLaws.{IsShort}
use Rattle.hard.specs.HardLaws.{AllShort}
use Rattle.listing.specs.Words.{ascii}
use Rattle.listing.specs.Listing.{decimal_digit, decimal_in, decimal, weight_text, joined, names_from, term_text, terms_text, line_text, hard_text, hard_line, header_text, texts_behind, text_of, concat, listing_of}

-- ---- numbers: never more than 20 digits, and at most k + 1 below 10^(k + 1)
digits_most : (k n : ℕ) → length (decimal_in k n) ≤ suc k
unfolding decimal_in
digits_most zero n = omega arith
digits_most (suc k) n = cond_ind (ltb n 10) (λ (s : List ℕ). length s ≤ suc (suc k))
    (λ h. omega arith)
    (λ h. rw (length-append (decimal_in k (n / 10)) (decimal_digit (n % 10) ∷ [])) (omega (arith, digits_most k (n / 10))))

pub decimal_short : (n : ℕ) → length (decimal n) ≤ 20
decimal_short n = digits_most 19 n

digits_below : (d k n : ℕ) → n < 10 ^ suc d → d ≤ k → length (decimal_in k n) ≤ suc d
unfolding decimal_in
digits_below zero zero n b h = omega arith
digits_below zero (suc k) n b h = cond_ind (ltb n 10) (λ (s : List ℕ). length s ≤ 1) (λ t. omega arith) (λ t. omega (arith, nltb→le n 10 t))
digits_below (suc d) zero n b h = omega arith
digits_below (suc d) (suc k) n b h = cond_ind (ltb n 10) (λ (s : List ℕ). length s ≤ suc (suc d))
    (λ t. omega arith)
    (λ t. rw (length-append (decimal_in k (n / 10)) (decimal_digit (n % 10) ∷ [])) (omega (arith, digits_below d k (n / 10) (omega arith) (omega arith))))

pub decimal_digits : (k n : ℕ) → n < 10 ^ suc k → k ≤ 19 → length (decimal n) ≤ suc k
decimal_digits k n b h = digits_below k 19 n b h

pub weight_short : (w : ℤ) → length (weight_text w) ≤ 21
weight_short (pos n) = omega (arith, decimal_short n)
weight_short (negsuc n) = omega (arith, decimal_short (suc n))

-- ---- texts with something between each two
-- each text has at most b bytes
abbrev pub EachWithin : ℕ → List (List ℕ) → Type 0
EachWithin b [] = Unit {0}
EachWithin b (x ∷ xs) = (length x ≤ b) × EachWithin b xs

-- texts of at most b bytes each: every one of them is counted with what stands between
pub joined_short : (b : ℕ) (between : List ℕ) (xs : List (List ℕ)) → EachWithin b xs → length (joined between xs) ≤ length xs * (b + length between)
unfolding joined
joined_short b between [] h = omega arith
joined_short b between (x ∷ []) h = omega (arith, h.0)
joined_short b between (x ∷ (y ∷ xs)) h = simp length-append (omega (arith, h.0, joined_short b between (y ∷ xs) h.1))

-- ---- terms: at most 32 names of at most 3 bytes, with an asterisk between each two
names_count : (d i m : ℕ) → length (names_from d i m) ≤ d
unfolding names_from
names_count zero i m = omega arith
names_count (suc d) i m = cond_ind (eqb (m % 2) 1) (λ (s : List (List ℕ)). length s ≤ suc d)
    (λ h. omega (arith, names_count d (suc i) (m / 2)))
    (λ h. omega (arith, names_count d (suc i) (m / 2)))

names_short : (d i m : ℕ) → d + i ≤ 100 → EachWithin 3 (names_from d i m)
unfolding names_from
names_short zero i m b = tt
names_short (suc d) i m b = cond_ind (eqb (m % 2) 1) (EachWithin 3)
    (λ h. (omega (arith, decimal_digits 1 i (omega arith) (omega arith)), names_short d (suc i) (m / 2) (omega arith)))
    (λ h. names_short d (suc i) (m / 2) (omega arith))

pub term_short : (t : ℕ) → length (term_text t) ≤ 128
unfolding term_text
term_short t = cond_ind (eqb t 0) (λ (s : List ℕ). length s ≤ 128)
    (λ h. omega arith)
    (λ h. omega (arith, joined_short 3 (ascii "*") (names_from 32 1 t) (names_short 32 1 t (omega arith)), names_count 32 1 t))

-- ---- lines: a weight of at most 21 bytes, and at most 64 terms
each_term_short : (f : List ℕ) → EachWithin 128 (map term_text f)
each_term_short [] = tt
each_term_short (t ∷ f) = (term_short t, each_term_short f)

terms_short : (f : List ℕ) → length f ≤ 64 → length (terms_text f) ≤ 8384
terms_short f h = omega (arith, joined_short 128 (ascii " + ") (map term_text f) (each_term_short f), length-map f term_text)

pub line_text_short : (f : List ℕ) (w : ℤ) → length f ≤ 64 → length (line_text (line f w)) ≤ 8448
unfolding line_text
line_text_short f w h = simp length-append (omega (arith, weight_short w, terms_short f h))

pub hard_text_short : (f : List ℕ) → length f ≤ 64 → length (hard_text f) ≤ 8448
unfolding hard_text
hard_text_short [] h = omega arith
hard_text_short (t ∷ f) h = simp length-append (omega (arith, terms_short (t ∷ f) h))

hard_line_short : (k : ℕ) → length (hard_line k) ≤ 26
unfolding hard_line
hard_line_short zero = omega arith
hard_line_short (suc k) = simp length-append (omega (arith, decimal_short (suc k)))

pub header_short : (n c k : ℕ) → length (header_text n c k) ≤ 8448
unfolding header_text
header_short n c k = simp length-append (omega (arith, decimal_short n, decimal_short c, hard_line_short k))

-- ---- the texts behind the header
within_both : (b : ℕ) (xs ys : List (List ℕ)) → EachWithin b xs → EachWithin b ys → EachWithin b (xs ++ ys)
within_both b [] ys h k = k
within_both b (x ∷ xs) ys h k = (h.0, within_both b xs ys h.1 k)

within_at : (b i : ℕ) (xs : List (List ℕ)) → EachWithin b xs → length (get_or xs i []) ≤ b
within_at b i [] h = omega arith
within_at b zero (x ∷ xs) h = h.0
within_at b (suc i) (x ∷ xs) h = within_at b i xs h.1

hard_texts_short : (H : List (List ℕ)) → AllShort H → EachWithin 8448 (map hard_text H)
hard_texts_short [] s = tt
hard_texts_short (f ∷ H) s = (hard_text_short f s.0, hard_texts_short H s.1)

line_texts_short : (L : List Line) → IsShort L → EachWithin 8448 (map line_text L)
line_texts_short [] s = tt
line_texts_short (line f w ∷ L) s = (line_text_short f w s.0, line_texts_short L s.1)

-- no text is longer than the buffer that it is written to, where no polynomial has more than 64 terms
pub text_short : (i n : ℕ) (H : List (List ℕ)) (L : List Line) → AllShort H → IsShort L → length (text_of i n H L) ≤ 8448
unfolding text_of
text_short zero n H L t s = header_short n (length L) (length H)
text_short (suc i) n H L t s =
    within_at 8448 i (texts_behind H L) (within_both 8448 (map hard_text H) (map line_text L) (hard_texts_short H t) (line_texts_short L s))

-- ---- the whole
-- the texts of k numbers from i on, one after the other
unfoldable pub texts_from : ℕ → ℕ → ℕ → List (List ℕ) → List Line → List ℕ
texts_from zero i n H L = []
texts_from (suc k) i n H L = text_of i n H L ++ texts_from k (suc i) n H L

-- the texts of k numbers from i + 1 on are those behind the header from i on, where k is how many there are
texts_behind_lem : (k i n : ℕ) (H : List (List ℕ)) (L : List Line) → i + k ≡ length (texts_behind H L) → texts_from k (suc i) n H L ≡ concat (drop i (texts_behind H L))
unfolding texts_from text_of concat
texts_behind_lem zero i n H L e = rw (drop_of_length-le (texts_behind H L) {i = i} (omega arith))
texts_behind_lem (suc k) i n H L e =
    rw (drop-cons (texts_behind H L) i [] (omega arith))
    (ap (λ (s : List ℕ). get_or (texts_behind H L) i [] ++ s) (texts_behind_lem k (suc i) n H L (omega arith)))

behind_count : (H : List (List ℕ)) (L : List Line) → length (texts_behind H L) ≡ length H + length L
behind_count H L = length-append (map hard_text H) (map line_text L) ∙ ap₂ ◌+◌ (length-map H hard_text) (length-map L line_text)

-- the whole listing is the texts of its numbers, one after the other
pub whole_listing : (n : ℕ) (H : List (List ℕ)) (L : List Line) → texts_from (suc (length H + length L)) 0 n H L ≡ listing_of n H L
unfolding texts_from text_of listing_of
whole_listing n H L =
    ap (λ (s : List ℕ). header_text n (length L) (length H) ++ s) (texts_behind_lem (length H + length L) 0 n H L (omega (arith, behind_count H L)))

texts_short : (k i n : ℕ) (H : List (List ℕ)) (L : List Line) → AllShort H → IsShort L → length (texts_from k i n H L) ≤ k * 8448
unfolding texts_from
texts_short zero i n H L t s = omega arith
texts_short (suc k) i n H L t s =
    rw (length-append (text_of i n H L) (texts_from k (suc i) n H L)) (omega (arith, text_short i n H L t s, texts_short k (suc i) n H L t s))

-- a listing of at most 16 hard polynomials and 128 lines has at most 145 texts of at most 8448 bytes
pub listing_short : (n : ℕ) (H : List (List ℕ)) (L : List Line) → AllShort H → length H ≤ 16 → IsShort L → length L ≤ 128
    → length (listing_of n H L) ≤ 1224960
listing_short n H L t k s h = rw (sym (whole_listing n H L)) (omega (arith, texts_short (suc (length H + length L)) 0 n H L t s))

-- equal configurations with equal hard lists have equal listings
pub equal_listings : (n k : ℕ) (H K : List (List ℕ)) (L M : List Line) → n ≡ k → H ≡ K → L ≡ M → listing_of n H L ≡ listing_of k K M
equal_listings n k H K L M v h l = ap₂ (λ (c : ℕ) (S : List (List ℕ)). listing_of c S L) v h ∙ ap (listing_of k K) l

-- ---- without hard polynomials the listing is document 01's
pub without_hard : (n : ℕ) (L : List Line)
    → listing_of n [] L ≡ ascii "variables " ++ decimal n ++ ascii "\nlines " ++ decimal (length L) ++ ascii "\n" ++ concat (map line_text L)
unfolding listing_of header_text hard_line
without_hard n L =
    ap (λ (s : List ℕ). s ++ concat (map line_text L)) (append-nil (ascii "variables " ++ decimal n ++ ascii "\nlines " ++ decimal (length L) ++ ascii "\n"))

-- document 01's whole case, before its step
pub whole_case_before : listing_of 1 [] (line (1 ∷ []) (pos 3) ∷ line (1 ∷ 0 ∷ []) (pos 2) ∷ []) ≡ ascii "variables 1\nlines 2\n3: x1\n2: x1 + 1\n"
unfolding listing_of header_text hard_line concat line_text term_text joined names_from decimal_in
whole_case_before = refl

-- ---- a case with two hard polynomials, of which one is 0
pub hard_case : listing_of 1 ((1 ∷ 0 ∷ []) ∷ [] ∷ []) (line (1 ∷ []) (pos 3) ∷ []) ≡ ascii "variables 1\nlines 1\nhard 2\nx1 + 1\n0\n3: x1\n"
unfolding listing_of header_text hard_line concat hard_text line_text term_text joined names_from decimal_in
hard_case = refl
