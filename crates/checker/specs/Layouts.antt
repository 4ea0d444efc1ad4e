-- Document 02, Ask 10: "Prove that the old and new areas hold the same standing after any records and from there answer every operation alike." One theorem of document 01's layout
-- (`memory/specs/OldLayout.antt`) and that of code, over any list of operations, of any length, each given what the one before it left. The hard list lies alike beside both.
use Rattle.std.specs.Prelude.{◌≡◌, refl, List, [], ◌∷◌, ℕ, ◌+◌, T, leb, ℤ, length}
use Rattle.std.proofs.Common.{sym, ap, ap₂, subst, ◌∙◌}
use Rattle.run.specs.BooleanLaws.{is_true}
use Rattle.refusal.specs.Outcome.{Outcome, accepted, refused, unless, mapped, Told}
use Rattle.configuration.specs.Configuration.{Line, is_configuration}
use Rattle.configuration.specs.Made.{Made}
use Rattle.hard.specs.Hard.{is_hard_list, HardArea, hard_of, hard_image, hard_formed}
use Rattle.hard.specs.HardLaws.{formed_list}
use Rattle.memory.specs.Memory.{Memory, Layout, back_to_back, standing_under, IsFaithful}
use Rattle.memory.specs.OldLayout.{in_rows}
use Rattle.memory.specs.LayoutLaws.{well_image, well_configuration}
use Rattle.memory.specs.MemoryLaws.{back_to_back_lem}
use Rattle.memory.specs.OldLayoutLaws.{in_rows_lem}
use Rattle.calculus.specs.Calculus.{direct_step}
use Rattle.calculus.specs.CalculusLaws.{direct_keeps}
use Rattle.calculus.specs.declared.Rule.{Rule}
use Rattle.calculus.specs.declared.Mode.{Mode}
use Rattle.problem.specs.Problem.{file_problem}
use Rattle.problem.specs.ProblemLaws.{filed_configuration, filed_hard}
use Rattle.derivation.specs.Derivation.{Confirmation, check_derivation}
use Rattle.derivation.proofs.DerivationLaws.{check_variables, check_configuration}
use Rattle.listing.specs.Listing.{text_of}
use Rattle.checker.specs.Checker.{Lent, lent_sized, Left, stepped, Written, written_by, fitting, lent_formed_under, lent_with, left_by, step_under, check_under, file_under, write_under}
use Rattle.checker.specs.CheckerLaws.{formed_memory, formed_hard, formed_sized, image_formed, step_well, check_well, write_well, file_sized}
use Rattle.checker.specs.CostRule.{Call, stepping, checking}
use Rattle.hard.specs.HardLaws as H

-- ---- the statement
-- any bytes; any call of one who writes derivations; a line of any number into an area of any bytes
pub data Operation : Type 0 where
  filing : List ℕ → Operation
  calling : Call → Operation
  writing : ℕ → List ℕ → Operation

-- what is told, and of a line of a listing also what the area then holds
abbrev pub Answer : Operation → Type 0
Answer (filing s) = Told (Unit {0})
Answer (calling (stepping r d f g w)) = Told (Unit {0})
Answer (calling (checking s)) = Told Confirmation
Answer (writing i area) = Written

abbrev pub answer_under : (l : Layout) (o : Operation) → Lent → Answer o
answer_under l (filing s) m = (file_under l s m).told
answer_under l (calling (stepping r d f g w)) m = (step_under l r d f g w m).told
answer_under l (calling (checking s)) m = (check_under l s m).told
answer_under l (writing i area) m = write_under l i m area

abbrev pub left_under : Layout → Operation → Lent → Lent
left_under l (filing s) m = (file_under l s m).lent
left_under l (calling (stepping r d f g w)) m = (step_under l r d f g w m).lent
left_under l (calling (checking s)) m = (check_under l s m).lent
left_under l (writing i area) m = m

-- what is lent is well formed in a layout, and holds the lines L over n variables and the hard list's area a
pub record HoldsIn (l : Layout) (n : ℕ) (L : List Line) (a : HardArea) (m : Lent) : Type 0 where
  pub well : T (lent_formed_under l m)
  pub variables : m.memory.variables ≡ n
  pub lines : standing_under l m.memory ≡ L
  pub hard : m.hard ≡ a

-- two that are lent, each in its layout, hold one configuration and one hard list
pub record HoldOne (a b : Layout) (m k : Lent) : Type 0 where
  pub variables : ℕ
  pub lines : List Line
  pub hard : HardArea
  pub first : HoldsIn a variables lines hard m
  pub second : HoldsIn b variables lines hard k

-- an operation answers alike on both, and what it leaves holds one configuration again
abbrev pub IsAlike : Layout → Layout → Lent → Lent → Operation → Type 0
IsAlike a b m k o = (answer_under a o m ≡ answer_under b o k) × HoldOne a b (left_under a o m) (left_under b o k)

abbrev pub AllAlike : Layout → Layout → Lent → Lent → List Operation → Type 0
AllAlike a b m k [] = Unit {0}
AllAlike a b m k (o ∷ os) = IsAlike a b m k o × AllAlike a b (left_under a o m) (left_under b o k) os

pub record OneStanding (a b : Layout) : Type 0 where
  -- each configuration is held by its image in either layout, beside any hard list: no line, no term and no order is lost
  pub images : (n : ℕ) (L : List Line) (x : HardArea) → T (is_configuration n L) → T (hard_formed n x) → HoldsIn a n L x (lent_with a n L x) × HoldsIn b n L x (lent_with b n L x)
  -- two filings of the same bytes, in areas of the right lengths that hold anything
  pub filings : (s : List ℕ) (m k : Lent) → T (lent_sized m) → T (lent_sized k) → IsAlike a b m k (filing s)
  -- all operations on two that hold one configuration and one hard list
  pub operations : (m k : Lent) → HoldOne a b m k → (os : List Operation) → AllAlike a b m k os

-- ---- in one layout
module _ {l : Layout} (q : IsFaithful l) where
  image_held : (n : ℕ) (L : List Line) (x : HardArea) → T (is_configuration n L) → T (hard_formed n x) → HoldsIn l n L x (lent_with l n L x)
  image_held n L x h k = record { well = image_formed q n L x h k; variables = refl; lines = q.back n L h; hard = refl }

  module _ {n : ℕ} {L : List Line} {x : HardArea} {m : Lent} (h : HoldsIn l n L x m) where
    -- an operation on the variables, the lines and the hard list that are held
    held_at : {A : Type 0} (op : ℕ → List Line → HardArea → A) → op m.memory.variables (standing_under l m.memory) m.hard ≡ op n L x
    held_at op = ap₂ (λ (i : ℕ) (M : List Line). op i M m.hard) h.variables h.lines ∙ ap (op n L) h.hard

    held_configuration : T (is_configuration n L)
    held_configuration =
        subst (λ (i : ℕ). T (is_configuration i L)) h.variables
        (subst (λ (M : List Line). T (is_configuration m.memory.variables M)) h.lines (well_configuration l m.memory (formed_memory l m h.well)))

    held_formed : T (hard_formed n x)
    held_formed = subst (λ (i : ℕ). T (hard_formed i x)) h.variables (subst (λ (y : HardArea). T (hard_formed m.memory.variables y)) h.hard (formed_hard l m h.well))

    held_lines : m.hard.number + m.memory.lines ≡ x.number + length L
    held_lines = ap₂ ◌+◌ (ap (λ (y : HardArea). y.number) h.hard) (ap (λ (k : Memory). k.lines) (well_image l m.memory (formed_memory l m h.well)) ∙ ap length h.lines)

    write_held : (i : ℕ) (area : List ℕ) → write_under l i m area ≡ written_by area (unless (leb i (x.number + length L)) 17 (fitting area (text_of i n (hard_of x) L)))
    write_held i area =
        write_well q i m area h.well
        ∙ ap (λ (k : ℕ). written_by area (unless (leb i k) 17 (fitting area (text_of i m.memory.variables (hard_of m.hard) (standing_under l m.memory))))) held_lines
        ∙ held_at (λ v M y. written_by area (unless (leb i (x.number + length L)) 17 (fitting area (text_of i v (hard_of y) M))))

-- ---- in two
-- what an outcome makes can be held, over n variables
abbrev Keeps : {A : Type 0} → ℕ → Outcome (Made A) → Type 0
Keeps n (accepted y) = (y.variables ≡ n) × T (is_configuration n y.lines)
Keeps n (refused r) = Unit {0}

module _ {a b : Layout} (p : IsFaithful a) (q : IsFaithful b) where
  both_held : (n : ℕ) (L : List Line) (x : HardArea) → T (is_configuration n L) → T (hard_formed n x) → HoldOne a b (lent_with a n L x) (lent_with b n L x)
  both_held n L x h k = record { variables = n; lines = L; hard = x; first = image_held p n L x h k; second = image_held q n L x h k }

  -- with the same variables and the same hard list, spelt otherwise
  held_beside : {n i : ℕ} (N : List Line) {x y z : HardArea} → i ≡ n → x ≡ z → y ≡ z → HoldOne a b (lent_with a n N z) (lent_with b n N z) → HoldOne a b (lent_with a i N x) (lent_with b i N y)
  held_beside {n} {i} N {x} {y} {z} e u v h =
      subst (λ (j : ℕ). HoldOne a b (lent_with a j N x) (lent_with b j N y)) (sym e)
      (subst (λ (t : HardArea). HoldOne a b (lent_with a n N t) (lent_with b n N y)) (sym u) (subst (λ (t : HardArea). HoldOne a b (lent_with a n N z) (lent_with b n N t)) (sym v) h))

  -- what an operation tells and leaves
  abbrev SameLeft : {A : Type 0} → Left A → Left A → Type 0
  SameLeft x y = (x.told ≡ y.told) × HoldOne a b x.lent y.lent

  filings_alike : (s : List ℕ) (m k : Lent) → T (lent_sized m) → T (lent_sized k) → SameLeft (file_under a s m) (file_under b s k)
  filings_alike s m k h i =
      let y = file_problem s in
      rw (file_sized a s m (is_true (lent_sized m) h), file_sized b s k (is_true (lent_sized k) i))
      (refl, both_held y.variables y.lines (hard_image y.hard) (filed_configuration s) (H.image_formed y.variables y.hard (filed_hard s)))

  module _ (m k : Lent) (h : HoldOne a b m k) where
    abbrev n : ℕ
    n = h.variables

    abbrev L : List Line
    L = h.lines

    abbrev J : List (List ℕ)
    J = hard_of h.hard

    is_configuration_lem : T (is_configuration n L)
    is_configuration_lem = held_configuration p h.first

    is_formed : T (hard_formed n h.hard)
    is_formed = held_formed p h.first

    is_list : T (is_hard_list n J)
    is_list = formed_list n h.hard is_formed

    outcome_alike : {A : Type 0} (o : Outcome (Made A)) → Keeps n o → SameLeft (left_by a m o) (left_by b k o)
    outcome_alike (accepted y) c = (refl, held_beside y.lines c.0 h.first.hard h.second.hard (both_held n y.lines h.hard c.1 is_formed))
    outcome_alike (refused r) c = (refl, h)

    core_alike : {A : Type 0} (op : ℕ → List Line → HardArea → Outcome (Made A)) → Keeps n (op n L h.hard)
        → SameLeft (left_by a m (op m.memory.variables (standing_under a m.memory) m.hard)) (left_by b k (op k.memory.variables (standing_under b k.memory) k.hard))
    core_alike op c = rw (held_at p h.first op, held_at q h.second op) (outcome_alike (op n L h.hard) c)

    step_alike : (r : Rule) (d : Mode) (f g : List ℕ) (w : ℤ) → SameLeft (step_under a r d f g w m) (step_under b r d f g w k)
    step_alike r d f g w =
        rw (step_well p r d f g w m h.first.well, step_well q r d f g w k h.second.well)
        (core_alike (λ i M y. mapped (stepped i) (direct_step (hard_of y) r d f g w i M)) (go (direct_step J r d f g w n L) refl))
      where
        go : (o : Outcome (List Line)) → direct_step J r d f g w n L ≡ o → Keeps n (mapped (stepped n) o)
        go (accepted N) e = (refl, direct_keeps J r d f g w n L N e is_list is_configuration_lem)
        go (refused y) e = tt

    check_alike : (s : List ℕ) → SameLeft (check_under a s m) (check_under b s k)
    check_alike s =
        rw (check_well p s m h.first.well, check_well q s k h.second.well)
        (core_alike (λ i M y. accepted (check_derivation s i (hard_of y) M)) (check_variables s n J L, check_configuration s n J L is_list is_configuration_lem))

    operation_alike : (o : Operation) → IsAlike a b m k o
    operation_alike (filing s) = filings_alike s m k (formed_sized p m h.first.well) (formed_sized q k h.second.well)
    operation_alike (calling (stepping r d f g w)) = step_alike r d f g w
    operation_alike (calling (checking s)) = check_alike s
    operation_alike (writing i area) = (write_held p h.first i area ∙ sym (write_held q h.second i area), h)

  all_alike : (m k : Lent) → HoldOne a b m k → (os : List Operation) → AllAlike a b m k os
  all_alike m k h [] = tt
  all_alike m k h (o ∷ os) = let e : IsAlike a b m k o = operation_alike m k h o in (e, all_alike (left_under a o m) (left_under b o k) e.1 os)

  one_standing : OneStanding a b
  one_standing = record {
    images = λ n L x h k. (image_held p n L x h k, image_held q n L x h k);
    filings = filings_alike;
    operations = all_alike;
  }

-- ---- document 01's layout and that of code
pub old_and_new : OneStanding in_rows back_to_back
old_and_new = one_standing in_rows_lem back_to_back_lem
