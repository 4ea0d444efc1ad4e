-- Demand 3: nobody who writes derivations can change the cost of a single consistent assignment. One theorem over any list of calls, of any length: a call is a direct step, by any
-- rule, or a check of a derivation, and each gets what the call before it left, the same hard list throughout. It speaks of `step_in` and `check_in`, which the promises of the open
-- operations equate with.
use Rattle.std.specs.Prelude.{◌≡◌, refl, List, [], ◌∷◌, ℕ, T, ℤ, ◌≤ℤ◌, take}
use Rattle.std.proofs.Common.{sym, ap, subst, ◌∙◌}
use Rattle.refusal.specs.Outcome.{Outcome, accepted, refused, mapped}
use Rattle.configuration.specs.Configuration.{Line, cost, is_configuration}
use Rattle.hard.specs.Hard.{is_hard_list, IsAdmissible, HardArea, hard_of}
use Rattle.memory.specs.Memory.{back_to_back, standing_of}
use Rattle.memory.specs.LayoutLaws.{well_configuration}
use Rattle.memory.specs.MemoryLaws.{back_to_back_lem}
use Rattle.calculus.specs.Calculus.{direct_step}
use Rattle.calculus.specs.CalculusLaws.{IsAdmissible-asks, direct_keeps, direct_cost}
use Rattle.calculus.specs.declared.Rule.{Rule}
use Rattle.calculus.specs.declared.Mode.{Mode}
use Rattle.derivation.specs.Derivation.{Confirmation, confirmed, check_derivation}
use Rattle.derivation.proofs.DerivationLaws.{check_variables, check_configuration, check_cost, confirmed_bound}
use Rattle.checker.specs.Checker.{Lent, Left, lent_with, left_by, stepped, lent_formed, step_in, check_in}
use Rattle.checker.specs.CheckerLaws.{formed_memory, formed_hard, held_list, image_formed, step_well, check_well}

-- any rule, mode, operands and amount, right or wrong; any bytes
pub data Call : Type 0 where
  stepping : Rule → Mode → List ℕ → List ℕ → ℤ → Call
  checking : List ℕ → Call

-- what an assignment costs in the configuration that is held
abbrev pub cost_in : Lent → ℕ → ℤ
cost_in x α = cost (standing_of x.memory) α

abbrev pub lent_by : Call → Lent → Lent
lent_by (stepping r d f g w) x = (step_in r d f g w x).lent
lent_by (checking s) x = (check_in s x).lent

-- what is lent is well formed, over as many variables, the hard list is as it was at the start, and so is the cost of every assignment at which every hard polynomial is 0. An
-- assignment of n variables is a mask below 2^n; this holds for every mask.
pub record Kept (start x : Lent) : Type 0 where
  pub well : T (lent_formed x)
  pub variables : x.memory.variables ≡ start.memory.variables
  pub hard : x.hard ≡ start.hard
  pub costs : (α : ℕ) → IsAdmissible (hard_of start.hard) α → cost_in x α ≡ cost_in start α

-- a call that is given x, of a list that began at start. A check keeps the costs whatever part of its bytes is checked, so after each accepted record:
-- "The standing after it is the one that checking only the bytes up to its end leaves". The bound that it confirms is at most every such cost at the start.
abbrev pub IsSafe : Lent → Lent → Call → Type 0
IsSafe start x (stepping r d f g w) = Kept start (step_in r d f g w x).lent
IsSafe start x (checking s) =
    Kept start (check_in s x).lent
    × (((K : ℕ) → Kept start (check_in (take K s) x).lent)
    × ((w : ℤ) (D : ℕ) → (check_in s x).told ≡ confirmed w D → (α : ℕ) → IsAdmissible (hard_of start.hard) α → w ≤ℤ cost_in start α))

abbrev pub AllSafe : Lent → Lent → List Call → Type 0
AllSafe start x [] = Unit {0}
AllSafe start x (c ∷ cs) = IsSafe start x c × AllSafe start (lent_by c x) cs

-- ---- the rule
module _ (start x : Lent) (k : Kept start x) where
  abbrev n : ℕ
  n = x.memory.variables

  abbrev H : List (List ℕ)
  H = hard_of x.hard

  abbrev L : List Line
  L = standing_of x.memory

  list : T (is_hard_list n H)
  list = held_list back_to_back x k.well

  configuration : T (is_configuration n L)
  configuration = well_configuration back_to_back x.memory (formed_memory back_to_back x k.well)

  -- the hard list being the same, so are the assignments
  admissible : (α : ℕ) → IsAdmissible (hard_of start.hard) α → IsAdmissible H α
  admissible α h = subst (λ (a : HardArea). IsAdmissible (hard_of a) α) (sym k.hard) h

  -- the image of a configuration of which no such cost is another
  image_kept : (N : List Line) → T (is_configuration n N) → ((α : ℕ) → IsAdmissible H α → cost N α ≡ cost_in x α) → Kept start (lent_with back_to_back n N x.hard)
  image_kept N h e = record {
    well = image_formed back_to_back_lem n N x.hard h (formed_hard back_to_back x k.well);
    variables = k.variables;
    hard = k.hard;
    costs = λ α a. ap (λ (M : List Line). cost M α) (back_to_back_lem.back n N h) ∙ e α (admissible α a) ∙ k.costs α a;
  }

  step_kept : (r : Rule) (d : Mode) (f g : List ℕ) (w : ℤ) → Kept start (step_in r d f g w x).lent
  step_kept r d f g w = subst (λ (l : Left (Unit {0})). Kept start l.lent) (sym (step_well back_to_back_lem r d f g w x k.well)) (go (direct_step H r d f g w n L) refl)
    where
      go : (o : Outcome (List Line)) → direct_step H r d f g w n L ≡ o → Kept start (left_by back_to_back x (mapped (stepped n) o)).lent
      go (accepted N) e = image_kept N (direct_keeps H r d f g w n L N e list configuration) (λ α a. direct_cost H r d f g w n L N e α (IsAdmissible-asks H r α a))
      go (refused y) e = k

  check_kept : (s : List ℕ) → Kept start (check_in s x).lent
  check_kept s =
      subst (λ (y : Lent). Kept start y)
      (sym (ap (λ (l : Left Confirmation). l.lent) (check_well back_to_back_lem s x k.well) ∙ ap (λ (i : ℕ). lent_with back_to_back i (check_derivation s n H L).lines x.hard) (check_variables s n H L)))
      (image_kept (check_derivation s n H L).lines (check_configuration s n H L list configuration) (check_cost s n H L))

  check_bound : (s : List ℕ) (w : ℤ) (D : ℕ) → (check_in s x).told ≡ confirmed w D → (α : ℕ) → IsAdmissible (hard_of start.hard) α → w ≤ℤ cost_in start α
  check_bound s w D e α a =
      subst (λ (z : ℤ). w ≤ℤ z) (k.costs α a)
      (confirmed_bound s n H L w D (sym (ap (λ (l : Left Confirmation). l.told) (check_well back_to_back_lem s x k.well)) ∙ e) list configuration α (admissible α a))

  safe : (c : Call) → IsSafe start x c
  safe (stepping r d f g w) = step_kept r d f g w
  safe (checking s) = (check_kept s, (λ K. check_kept (take K s), check_bound s))

  Kept-by : (c : Call) → Kept start (lent_by c x)
  Kept-by (stepping r d f g w) = step_kept r d f g w
  Kept-by (checking s) = check_kept s

all_safe : (start x : Lent) (cs : List Call) → Kept start x → AllSafe start x cs
all_safe start x [] k = tt
all_safe start x (c ∷ cs) k = (safe start x k c, all_safe start (lent_by c x) cs (Kept-by start x k c))

pub cost_rule : (x : Lent) → T (lent_formed x) → (cs : List Call) → AllSafe x x cs
cost_rule x h cs = all_safe x x cs (record { well = h; variables = refl; hard = refl; costs = λ α a. refl })
