-- The listing of a configuration, byte by byte. Document 01: "`variables` is n, `lines` the count; a line is weight, colon, terms. Variables in a term
-- ascend, joined by `*`. Terms are joined by ` + `, mask 0 is written `1`; the weight is decimal, with `-` in front if negative, and one space follows
-- the colon. .. Every line ends in a newline byte." Document 02, Ask 1: "With k hard polynomials, k above 0, the listing gains a line `hard k` after
-- `lines` (part of number 0), then the hard polynomials in entry order, each its terms alone or `0`."
use Rattle.std.specs.Prelude.{cond, List, [], ◌∷◌, ◌++◌, map, ℕ, zero, suc, ◌+◌, ◌/◌, ◌%◌, ltb, eqb, ℤ, pos, negsuc, length, get_or}
use Rattle.configuration.specs.Configuration.{Line, line}
use Rattle.listing.specs.Words.{letter, ascii}

-- ---- numbers in decimal: at most k + 1 digits, which for k = 19 is every number below 10^20
abbrev pub decimal_digit : ℕ → ℕ
decimal_digit n = letter "0" + n

unfoldable pub decimal_in : ℕ → ℕ → List ℕ
decimal_in zero n = decimal_digit (n % 10) ∷ []
decimal_in (suc k) n = cond (ltb n 10) (decimal_digit n ∷ []) (decimal_in k (n / 10) ++ (decimal_digit (n % 10) ∷ []))

abbrev pub decimal : ℕ → List ℕ
decimal n = decimal_in 19 n

abbrev pub weight_text : ℤ → List ℕ
weight_text (pos n) = decimal n
weight_text (negsuc n) = ascii "-" ++ decimal (suc n)

-- ---- texts with something between each two
unfoldable pub joined : List ℕ → List (List ℕ) → List ℕ
joined between [] = []
joined between (x ∷ []) = x
joined between (x ∷ (y ∷ xs)) = x ++ between ++ joined between (y ∷ xs)

-- ---- terms: the variable of number i, and the variables of a mask of d bits, the first of which has the number i
abbrev pub name_text : ℕ → List ℕ
name_text i = ascii "x" ++ decimal i

unfoldable pub names_from : ℕ → ℕ → ℕ → List (List ℕ)
names_from zero i m = []
names_from (suc d) i m = let rest = names_from d (suc i) (m / 2) in cond (eqb (m % 2) 1) (name_text i ∷ rest) rest

-- the variables of a term
abbrev pub names_text : ℕ → List ℕ
names_text t = joined (ascii "*") (names_from 32 1 t)

unfoldable pub term_text : ℕ → List ℕ
term_text t = cond (eqb t 0) (ascii "1") (names_text t)

-- the terms of a polynomial
abbrev pub terms_text : List ℕ → List ℕ
terms_text f = joined (ascii " + ") (map term_text f)

-- ---- a line, a hard polynomial, and the lines of the header
unfoldable pub line_text : Line → List ℕ
line_text (line f w) = weight_text w ++ ascii ": " ++ terms_text f ++ ascii "\n"

unfoldable pub hard_text : List ℕ → List ℕ
hard_text [] = ascii "0\n"
hard_text (t ∷ f) = terms_text (t ∷ f) ++ ascii "\n"

-- without hard polynomials there is no such line
unfoldable pub hard_line : ℕ → List ℕ
hard_line zero = []
hard_line (suc k) = ascii "hard " ++ decimal (suc k) ++ ascii "\n"

-- of n variables, c weighted lines and k hard polynomials
unfoldable pub header_text : ℕ → ℕ → ℕ → List ℕ
header_text n c k = ascii "variables " ++ decimal n ++ ascii "\nlines " ++ decimal c ++ ascii "\n" ++ hard_line k

-- ---- "Number 0 gives two header lines, numbers 1 up the lines in order." and of k hard polynomials: "Line numbers 1 to k then mean them"
-- the texts of the numbers from 1 on
abbrev pub texts_behind : List (List ℕ) → List Line → List (List ℕ)
texts_behind H L = map hard_text H ++ map line_text L

-- the text of a number
unfoldable pub text_of : ℕ → ℕ → List (List ℕ) → List Line → List ℕ
text_of zero n H L = header_text n (length L) (length H)
text_of (suc i) n H L = get_or (texts_behind H L) i []

-- the whole listing: the header, and these texts one after the other
unfoldable pub concat : List (List ℕ) → List ℕ
concat [] = []
concat (x ∷ xs) = x ++ concat xs

unfoldable pub listing_of : ℕ → List (List ℕ) → List Line → List ℕ
listing_of n H L = header_text n (length L) (length H) ++ concat (texts_behind H L)
