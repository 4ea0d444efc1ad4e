-- The texts of the variables and of the terms that are still to be written.
use mathlib.Core.Path.{◌≡◌, refl, sym, ap, ◌∙◌}
use mathlib.Core.Bool.{Bool, true, false}
use mathlib.Core.List.{List, [], ◌∷◌, ◌++◌, map, append_assoc, append-nil}
use Prim.Native.Nat.{ℕ, zero, suc, ◌+◌, ◌-◌, ◌/◌, ◌%◌, ◌^◌, ◌≤◌, ◌<◌}
use native.Mathlib.Numerals.{add-one}
use native.Mathlib.Omega.{arith}
use native.Mathlib.Nat.{not-suc-le-zero, suc-ne-zero, pow-suc, pow-succ', div-one, div-div-eq-div-mul}
use lib.Count.{count_trailing_zeros, under}
use lib.ListN.{length, length-append, get_or, drop, drop_of_length-le}
use lib.Seq.{drop-cons}
use lib.IntN.{ℤ}
use borrow.Author.Tests.{eq-eqb, ne_eqb}
use Rattle.configuration.specs.Configuration.{line}
use Rattle.listing.specs.Words.{ascii}
use Rattle.listing.specs.Listing.{decimal, weight_text, joined, name_text, names_from, names_text, term_text, terms_text, line_text, hard_text, hard_line, header_text}
use Rattle.listing.specs.Writing.{starred}

-- texts, each with something in front
unfoldable pub trailing : List ℕ → List (List ℕ) → List ℕ
trailing between [] = []
trailing between (x ∷ xs) = between ++ (x ++ trailing between xs)

joined-trailing : (between x : List ℕ) (xs : List (List ℕ)) → joined between (x ∷ xs) ≡ x ++ trailing between xs
unfolding joined trailing
joined-trailing between x [] = sym (append-nil x)
joined-trailing between x (y ∷ xs) =
    append_assoc x between (joined between (y ∷ xs)) ∙ ap (λ (z : List ℕ). x ++ (between ++ z)) (joined-trailing between y xs)

-- ---- the names that are left, where the first of them stands first in its term or not
abbrev pub names : Bool → List (List ℕ) → List ℕ
names true xs = joined (ascii "*") xs
names false xs = trailing (ascii "*") xs

no_names : (first : Bool) → names first [] ≡ []
unfolding joined trailing
no_names true = refl
no_names false = refl

first_name : (first : Bool) (x : List ℕ) (xs : List (List ℕ)) → names first (x ∷ xs) ≡ starred first x ++ names false xs
unfolding trailing
first_name true x xs = joined-trailing (ascii "*") x xs
first_name false x xs = refl

-- the mask 0 has none
names_none : (d i : ℕ) → names_from d i 0 ≡ []
unfolding names_from
names_none zero i = refl
names_none (suc d) i = names_none d (suc i)

pub names_over : (first : Bool) (d i m : ℕ) → m ≡ 0 → names first (names_from d i m) ≡ []
names_over first d i m e = ap (λ (x : ℕ). names first (names_from d i x)) e ∙ ap (names first) (names_none d i) ∙ no_names first

-- the first variable in a mask of d bits comes after t zeros; behind it so many bits are left
record Next (d i m t : ℕ) : Type 0 where
  pub left : ℕ
  pub place : t + suc left ≡ d
  pub small : m / 2 ^ t / 2 < 2 ^ left
  pub text : names_from d i m ≡ name_text (i + t) ∷ names_from left (suc (i + t)) (m / 2 ^ t / 2)

next : (k d i m : ℕ) → d ≤ k → m < 2 ^ d → (m ≡ 0 → ⊥) → Next d i m (count_trailing_zeros k m)
unfolding count_trailing_zeros names_from
next k zero i m l h n = absurd (n (omega arith))
next zero (suc d) i m l h n = absurd (not-suc-le-zero l)
next (suc k) (suc d) i m l h n =
    go (m % 2) refl (λ (e : m % 2 ≡ 0). next k d (suc i) (m / 2) (omega arith) half (λ (z : m / 2 ≡ 0). n (omega arith)))
  where
    half : m / 2 < 2 ^ d
    half = omega (arith, pow-suc 2 d)

    go : (r : ℕ) → m % 2 ≡ r → (m % 2 ≡ 0 → Next d (suc i) (m / 2) (count_trailing_zeros k (m / 2))) → Next (suc d) i m (under r (count_trailing_zeros k (m / 2)))
    go zero e f =
        let t : ℕ = count_trailing_zeros k (m / 2) in
        let x = f e in
        let s : m / 2 ^ suc t ≡ m / 2 / 2 ^ t = ap (λ (y : ℕ). m / y) (pow-succ' 2 t) ∙ sym (div-div-eq-div-mul m 2 (2 ^ t)) in
        let p : i + suc t ≡ suc i + t = omega arith in
        record {
          left = x.left;
          place = omega (arith, x.place);
          small = rw s x.small;
          text = rw (s, p, e) x.text;
        }
    go (suc r) e f =
        let one : m % 2 ≡ 1 = omega arith in
        let s : m / 2 ^ 0 ≡ m = div-one m in
        let p : i + 0 ≡ i = omega arith in
        record { left = d; place = omega arith; small = rw s half; text = rw (s, p, eq-eqb (m % 2) 1 one) refl }

-- of a term's variables above i, whose bits are m, the first is j; the bits of those above j are `later`
pub record There (i m : ℕ) (first : Bool) (j later : ℕ) : Type 0 where
  pub within : j ≤ 32
  pub small : later < 2 ^ (32 - j)
  pub text : names first (names_from (32 - i) (i + 1) m) ≡ starred first (name_text j) ++ names false (names_from (32 - j) (j + 1) later)

pub name_there : (i m : ℕ) (first : Bool) → i ≤ 32 → m < 2 ^ (32 - i) → (m ≡ 0 → ⊥)
    → There i m first (i + (count_trailing_zeros 32 m + 1)) (m / 2 ^ count_trailing_zeros 32 m / 2)
name_there i m first l h n =
    let t : ℕ = count_trailing_zeros 32 m in
    let x = next 32 (32 - i) (i + 1) m (omega arith) h n in
    let j : ℕ = i + (t + 1) in
    let d : x.left ≡ 32 - j = omega (arith, x.place) in
    let p : i + 1 + t ≡ j = omega arith in
    let e : names_from (32 - i) (i + 1) m ≡ name_text j ∷ names_from (32 - j) (j + 1) (m / 2 ^ t / 2) =
    rw (← d, ← p, add-one (i + 1 + t)) x.text in
    record {
      within = omega (arith, x.place);
      small = rw (← d) x.small;
      text = ap (names first) e ∙ first_name first (name_text j) (names_from (32 - j) (j + 1) (m / 2 ^ t / 2));
    }

-- ---- the terms that are left, from the place i on
abbrev pub plus : List ℕ
plus = ascii " + "

abbrev pub spread : ℕ → List (List ℕ) → List ℕ
spread zero xs = joined plus xs
spread (suc n) xs = trailing plus xs

abbrev pub behind_term : List ℕ → ℕ → List ℕ
behind_term f i = trailing plus (map term_text (drop (i + 1) f))

module _ (f : List ℕ) (i : ℕ) where
  parted : i < length f → map term_text (drop i f) ≡ term_text (get_or f i 0) ∷ map term_text (drop (i + 1) f)
  parted h = rw (add-one, drop-cons f i 0 h)

  pub first_term : i < length f → i ≤ 0 → spread i (map term_text (drop i f)) ≡ term_text (get_or f i 0) ++ behind_term f i
  first_term h z =
      let e : i ≡ 0 = omega arith in
      ap (λ (x : List (List ℕ)). spread i x) (parted h) ∙ ap (λ (k : ℕ). spread k (term_text (get_or f i 0) ∷ map term_text (drop (i + 1) f))) e
      ∙ joined-trailing plus (term_text (get_or f i 0)) (map term_text (drop (i + 1) f))

  pub later_term : i < length f → 0 < i → spread i (map term_text (drop i f)) ≡ plus ++ (term_text (get_or f i 0) ++ behind_term f i)
  unfolding trailing
  later_term h z = ap (λ (x : List (List ℕ)). spread i x) (parted h) ∙ go i z
    where
      go : (k : ℕ) → 0 < k → spread k (term_text (get_or f i 0) ∷ map term_text (drop (i + 1) f)) ≡ plus ++ (term_text (get_or f i 0) ++ behind_term f i)
      go zero z = absurd (not-suc-le-zero z)
      go (suc k) z = refl

  pub terms_behind : behind_term f i ≡ spread (i + 1) (map term_text (drop (i + 1) f))
  terms_behind = ap (λ (k : ℕ). spread k (map term_text (drop (i + 1) f))) (sym (add-one i))

  pub terms_over : length f ≤ i → spread i (map term_text (drop i f)) ≡ []
  unfolding joined trailing
  terms_over h = ap (λ (x : List ℕ). spread i (map term_text x)) (drop_of_length-le f h) ∙ go i
    where
      go : (k : ℕ) → spread k [] ≡ []
      go zero = refl
      go (suc k) = refl

-- ---- a term is 1 or its variables
pub text_of_one : (t : ℕ) → t ≡ 0 → term_text t ≡ ascii "1"
unfolding term_text
text_of_one t e = rw (eq-eqb t 0 e)

pub text_of_names : (t : ℕ) → (t ≡ 0 → ⊥) → term_text t ≡ names_text t
unfolding term_text
text_of_names t e = rw (ne_eqb t 0 e)

-- ---- a name, behind an asterisk or not
pub starred_parts : (first : Bool) (name : List ℕ) → starred first name ≡ starred first [] ++ name
starred_parts true name = refl
starred_parts false name = refl

-- ---- how long the texts of several parts are
pub line_length : (f : List ℕ) (w : ℤ) → length (line_text (line f w)) ≡ length (weight_text w) + length (terms_text f) + 3
unfolding line_text
line_length f w = simp length-append (omega arith)

pub header_length : (n c k : ℕ) → length (header_text n c k) ≡ length (decimal n) + length (decimal c) + length (hard_line k) + 18
unfolding header_text
header_length n c k = simp length-append (omega arith)

-- ---- hard polynomials: the line that counts them, and one of them
pub line_of_none : (k : ℕ) → k ≡ 0 → hard_line k ≡ []
unfolding hard_line
line_of_none zero e = refl
line_of_none (suc k) e = absurd (suc-ne-zero k e)

pub line_of_some : (k : ℕ) → (k ≡ 0 → ⊥) → hard_line k ≡ ascii "hard " ++ decimal k ++ ascii "\n"
unfolding hard_line
line_of_some zero z = absurd (z refl)
line_of_some (suc k) z = refl

pub line_of_some_length : (k : ℕ) → (k ≡ 0 → ⊥) → length (hard_line k) ≡ length (decimal k) + 6
line_of_some_length k z = rw (line_of_some k z) (simp length-append (omega arith))

pub text_of_zero : (f : List ℕ) → length f ≡ 0 → hard_text f ≡ ascii "0\n"
unfolding hard_text
text_of_zero [] e = refl
text_of_zero (t ∷ f) e = absurd (suc-ne-zero (length f) e)

pub text_of_terms : (f : List ℕ) → (length f ≡ 0 → ⊥) → hard_text f ≡ terms_text f ++ ascii "\n"
unfolding hard_text
text_of_terms [] z = absurd (z refl)
text_of_terms (t ∷ f) z = refl

pub text_of_terms_length : (f : List ℕ) → (length f ≡ 0 → ⊥) → length (hard_text f) ≡ length (terms_text f) + 1
text_of_terms_length f z = rw (text_of_terms f z) (length-append (terms_text f) (ascii "\n"))
