-- The open operations on what callers lend. Each is tests of what is lent, an operation of the crates below on the configuration and the hard list that it holds, and what is left: a
-- refusal of the tests leaves everything as it was and names record 0, else the memory is the image of the lines that the operation makes. The hard list is made by a filing alone.
use Rattle.std.specs.Prelude.{Bool, ◌&&◌, List, [], ◌∷◌, ◌++◌, ℕ, ◌+◌, leb, ℤ, length, drop}
use Rattle.std.specs.declared.result.Result.{Result}
use Rattle.refusal.specs.Outcome.{Outcome, accepted, refused, unless, mapped, Test, test, passing, Told, answered, refused_at, told}
use Rattle.refusal.specs.declared.Refused.{Refused}
use Rattle.configuration.specs.Configuration.{Line}
use Rattle.configuration.specs.Made.{Made}
use Rattle.hard.specs.Hard.{HardArea, hard_of, hard_image, hard_sized, hard_formed}
use Rattle.memory.specs.Memory.{Memory, memory_of, Layout, back_to_back, sized, standing_under, image_under, well_formed_under, standing_of}
use Rattle.memory.specs.declared.Entry.{Entry}
use Rattle.memory.specs.declared.Head.{Head}
use Rattle.calculus.specs.Calculus.{direct_step}
use Rattle.calculus.specs.declared.Rule.{Rule}
use Rattle.calculus.specs.declared.Mode.{Mode}
use Rattle.problem.specs.Problem.{FilingMade, file_problem}
use Rattle.derivation.specs.Derivation.{Confirmation, check_derivation}
use Rattle.listing.specs.Listing.{text_of, listing_of}
use Rattle.listing.specs.Code.{code_of}

-- ---- all that is lent: the memory of a configuration, and beside it the area of the hard list
pub record Lent : Type 0 where
  pub memory : Memory
  pub hard : HardArea

abbrev pub lent_of : Head → List ℕ → List Entry → List ℕ → List ℕ → Lent
lent_of h ts t cs ps = record { memory = memory_of h ts t; hard = record { number = h.hard; counts = cs; places = ps } }

-- a head that tells nothing, and areas with such a head
abbrev pub no_head : Head
no_head = record { variables = 0; lines = 0; hard = 0 }

abbrev pub headless : Lent → Lent
headless x = lent_of no_head x.memory.terms x.memory.table x.hard.counts x.hard.places

abbrev pub lent_sized : Lent → Bool
lent_sized x = sized x.memory && hard_sized x.hard

-- ---- what an operation leaves, and what it tells
pub record Left (A : Type 0) : Type 0 where
  pub lent : Lent
  pub told : Told A

abbrev pub left_of : {A : Type 0} → Lent → Told A → Left A
left_of x t = record { lent = x; told = t }

abbrev pub done : Told (Unit {0})
done = answered tt

-- a step that is taken
abbrev pub stepped : ℕ → List Line → Made (Unit {0})
stepped n L = record { variables = n; lines = L; told = done }

-- a line of a listing that is written into a lent area of bytes, or refused
pub record Written : Type 0 where
  pub area : List ℕ
  pub told : Told ℕ

abbrev pub written_by : List ℕ → Outcome (List ℕ) → Written
written_by area (accepted text) = record { area = text ++ drop (length text) area; told = answered (length text) }
written_by area (refused x) = record { area = area; told = refused_at 0 x }

abbrev pub fitting : List ℕ → List ℕ → Outcome (List ℕ)
fitting area text = unless (leb (length text) (length area)) 14 (accepted text)

-- ---- the operations, in any layout of what is lent
module _ (l : Layout) where
  abbrev pub lent_formed_under : Lent → Bool
  lent_formed_under x = well_formed_under l x.memory && hard_formed x.memory.variables x.hard

  -- "1; 2 lent standing not well formed"
  abbrev pub lent_tests : Lent → List Test
  lent_tests x = test 1 (lent_sized x) ∷ test 2 (lent_formed_under x) ∷ []

  abbrev pub admitted : {A : Type 0} → Lent → Outcome A → Outcome A
  admitted x o = passing (lent_tests x) o

  -- lines over n variables in their memory, and a hard list's area beside it
  abbrev pub lent_with : ℕ → List Line → HardArea → Lent
  lent_with n L a = record { memory = image_under l n L; hard = a }

  -- where x was lent: the image of what the operation makes beside the hard list as it was, or x as it was
  abbrev pub left_by : {A : Type 0} → Lent → Outcome (Made A) → Left A
  left_by x (accepted y) = left_of (lent_with y.variables y.lines x.hard) y.told
  left_by x (refused r) = left_of x (refused_at 0 r)

  -- the same of a filing, which makes the hard list too. "1 .. nothing is written, the record named is 0, n and line count are 0."
  abbrev pub filed_with : FilingMade → Left (Unit {0})
  filed_with y = left_of (lent_with y.variables y.lines (hard_image y.hard)) y.told

  abbrev pub filed_by : Lent → Outcome FilingMade → Left (Unit {0})
  filed_by x (accepted y) = filed_with y
  filed_by x (refused r) = left_of (headless x) (refused_at 0 r)

  -- taking one step
  unfoldable pub step_under : Rule → Mode → List ℕ → List ℕ → ℤ → Lent → Left (Unit {0})
  step_under r d f g w x =
      let n = x.memory.variables in
      left_by x (admitted x (mapped (stepped n) (direct_step (hard_of x.hard) r d f g w n (standing_under l x.memory))))

  -- checking a derivation
  unfoldable pub check_under : List ℕ → Lent → Left Confirmation
  check_under s x = left_by x (admitted x (accepted (check_derivation s x.memory.variables (hard_of x.hard) (standing_under l x.memory))))

  -- filing a problem: lengths alone are tested
  unfoldable pub file_under : List ℕ → Lent → Left (Unit {0})
  file_under s x = filed_by x (unless (lent_sized x) 1 (accepted (file_problem s)))

  -- writing one line. "1, 2, 17 the line number is above the count, 14 the text is longer than the area; all name record 0. Success gives the length and leaves bytes after it
  -- as they were; a refusal writes nothing." Document 02: "17 is a number above k plus the count", k the number of hard polynomials
  unfoldable pub write_under : ℕ → Lent → List ℕ → Written
  write_under number x area =
      let text = text_of number x.memory.variables (hard_of x.hard) (standing_under l x.memory) in
      written_by area (admitted x (unless (leb number (x.hard.number + x.memory.lines)) 17 (fitting area text)))

-- ---- in the layout of code
abbrev pub lent_formed : Lent → Bool
lent_formed x = lent_formed_under back_to_back x

abbrev pub step_in : Rule → Mode → List ℕ → List ℕ → ℤ → Lent → Left (Unit {0})
step_in r d f g w x = step_under back_to_back r d f g w x

abbrev pub check_in : List ℕ → Lent → Left Confirmation
check_in s x = check_under back_to_back s x

abbrev pub file_in : List ℕ → Lent → Left (Unit {0})
file_in s x = file_under back_to_back s x

abbrev pub write_in : ℕ → Lent → List ℕ → Written
write_in number x area = write_under back_to_back number x area

-- ---- the whole listing of what is lent, and its code
abbrev pub listed_in : Lent → List ℕ
listed_in x = listing_of x.memory.variables (hard_of x.hard) (standing_of x.memory)

abbrev pub code_in : Lent → ℕ
code_in x = code_of x.memory.variables (hard_of x.hard) (standing_of x.memory)

-- ---- the paper's words for the answers
abbrev pub told_of_step : Result (Unit {0}) Refused → Told (Unit {0})
told_of_step r = told (λ _. tt) r

abbrev pub told_of_line : Result ℕ Refused → Told ℕ
told_of_line r = told (λ n. n) r
