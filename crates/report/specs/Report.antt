-- What the programs print of their files' bytes. Document 01: "`problem refused R at record K`", "`confirmed W degree D` (claim and degree) or `refused R
-- at record K`", and "the code of the whole listing .. as sixteen lower-case hex digits". Every line ends in a newline byte.
use Rattle.std.specs.Prelude.{cond, List, [], ◌++◌, ℕ, leb, ℤ, length, drop}
use Rattle.io.specs.Digits.{last_digits}
use Rattle.refusal.specs.Refusal.{Refusal}
use Rattle.refusal.specs.Outcome.{Told, answered, refused_at}
use Rattle.configuration.specs.Configuration.{Line}
use Rattle.listing.specs.Words.{ascii}
use Rattle.listing.specs.Listing.{decimal, weight_text, listing_of}
use Rattle.listing.specs.Code.{code_of}
use Rattle.problem.specs.Problem.{file_problem}
use Rattle.derivation.specs.Derivation.{Confirmation, check_derivation}

-- ---- the lines besides the listings
-- a refusal by its number; a detail is not printed
unfoldable pub refusal_text : Refusal → ℕ → List ℕ
refusal_text x k = ascii "refused " ++ decimal x.number ++ ascii " at record " ++ decimal k ++ ascii "\n"

unfoldable pub confirmed_text : ℤ → ℕ → List ℕ
confirmed_text w d = ascii "confirmed " ++ weight_text w ++ ascii " degree " ++ decimal d ++ ascii "\n"

-- a refused filing: "problem " in front; an accepted one prints no such line
abbrev pub filing_text : Told (Unit {0}) → List ℕ
filing_text (answered u) = []
filing_text (refused_at k x) = ascii "problem " ++ refusal_text x k

abbrev pub verdict_text : Told Confirmation → List ℕ
verdict_text (answered c) = confirmed_text c.claim c.degree
verdict_text (refused_at k x) = refusal_text x k

abbrev pub code_text : ℕ → List ℕ
code_text code = last_digits 16 16 code ++ ascii "\n"

-- ---- what the programs print of their files' bytes
-- "A refused filing gives only `problem refused R at record K`."
abbrev pub if_filed : Told (Unit {0}) → List ℕ → List ℕ
if_filed (answered u) text = text
if_filed (refused_at k x) text = filing_text (refused_at k x)

-- the second program: the code of the whole listing
unfoldable pub code_output : List ℕ → List ℕ
code_output s =
    let x = file_problem s in
    if_filed x.told (code_text (code_of x.variables x.hard x.lines))

-- the checking program: "the listing before, the listing after, and the verdict", of a derivation's bytes and a configuration of n variables with its
-- hard list, which is the same in both listings
abbrev pub report_text : List ℕ → ℕ → List (List ℕ) → List Line → List ℕ
report_text t n H L =
    let y = check_derivation t n H L in
    listing_of n H L ++ listing_of y.variables H y.lines ++ verdict_text y.told

unfoldable pub check_output : List ℕ → List ℕ → List ℕ
check_output s t =
    let x = file_problem s in
    if_filed x.told (report_text t x.variables x.hard x.lines)

-- "one above 8,192 bytes gives only the line `problem too long` or `steps too long`, the first if both; lengths are tested before all else"
abbrev pub code_of_file : List ℕ → List ℕ
code_of_file s = cond (leb (length s) 8192) (code_output s) (ascii "problem too long\n")

abbrev pub check_of_files : List ℕ → List ℕ → List ℕ
check_of_files s t = cond (leb (length s) 8192) (cond (leb (length t) 8192) (check_output s t) (ascii "steps too long\n")) (ascii "problem too long\n")

-- ---- a text at the front of a lent area, and its length: the bytes after it stay as they were. An area that has not the room that every such text needs
-- is left as it was, and the length is 0, which is that of no text (ReportLaws.antt).
pub record Given : Type 0 where
  pub area : List ℕ
  pub size : ℕ

abbrev pub given : ℕ → List ℕ → List ℕ → Given
given room text area = cond (leb room (length area)) (record { area = text ++ drop (length text) area; size = length text }) (record { area = area; size = 0 })

-- all that the checking program prints: two listings of at most 145 texts of 8,448 bytes, and a line of 64
abbrev pub check_into : List ℕ → List ℕ → List ℕ → Given
check_into problem steps area = given 2449984 (check_of_files problem steps) area

-- the line that the second program prints
abbrev pub code_into : List ℕ → List ℕ → Given
code_into problem area = given 64 (code_of_file problem) area
