-- Document 02, Ask 11, of the operation: "SUM adds nothing to signed PROD. A solver house writes only PROD; document 004 says nothing is lost in the signed mode. .. signed SUM of f and g with w leaves
-- the same weights as PROD of f + g by f with −w, PROD of f by g with w, and PROD of g by f with w. .. for the operation, where each of the four steps is within its limits." Document 004, Lemma 4.5:
-- "the SUM rule can simulate the PROD rule and vice versa"; its proof stands in `calculus/specs/Simulation.antt`. Two theorems of direct steps on what is lent, whatever it holds: what is not well
-- formed takes no step.
use Rattle.std.specs.Prelude.{◌≡◌, List, [], ◌∷◌, ℕ, T, ℤ, neg_ℤ}
use Rattle.std.proofs.Common.{sym, ap, subst, ◌∙◌}
use Rattle.run.specs.BooleanLaws.{of_true}
use Rattle.refusal.specs.Outcome.{Outcome, accepted, mapped}
use Rattle.polynomial.specs.Polynomial.{sum_of}
use Rattle.configuration.specs.Configuration.{Line, add_all, IsInOrder, is_configuration}
use Rattle.configuration.specs.ConfigurationLaws.{fit_ordered}
use Rattle.hard.specs.Hard.{hard_of}
use Rattle.memory.specs.Memory.{Memory, back_to_back, standing_of}
use Rattle.memory.specs.LayoutLaws.{well_image, well_configuration, well_parts}
use Rattle.memory.specs.MemoryLaws.{back_to_back_lem}
use Rattle.calculus.specs.Calculus.{changes, direct_step}
use Rattle.calculus.specs.CalculusLaws.{direct_keeps}
use Rattle.calculus.specs.Simulation.{Application, apply, by_sum, by_prods, applied, AllAccepted}
use Rattle.calculus.proofs.SimulationLaws.{sum_by_prods, sum_accepted}
use Rattle.calculus.specs.TestsLaws.{direct_decided}
use Rattle.calculus.specs.declared.Rule.{Rule}
use Rattle.calculus.specs.declared.Rule.TheVariants.{Sum, Prod}
use Rattle.calculus.specs.declared.Mode.TheVariants.{Signed}
use Rattle.checker.specs.Checker.{Lent, Left, lent_with, left_by, done, stepped, lent_formed, step_in}
use Rattle.checker.specs.CheckerLaws.{formed_memory, formed_hard, held_list, image_formed, step_well}
use Rattle.checker.specs.StepTests.{step_decided}

-- ---- the statement
-- what direct steps in signed mode leave, one after the other: each is given what the one before left
abbrev pub lent_left : List Application → Lent → Lent
lent_left [] m = m
lent_left (apply r f g w ∷ more) m = lent_left more (step_in r Signed f g w m).lent

-- each of them answers with success
abbrev pub AllTaken : List Application → Lent → Type 0
AllTaken [] m = Unit {0}
AllTaken (apply r f g w ∷ more) m = ((step_in r Signed f g w m).told ≡ done) × AllTaken more (step_in r Signed f g w m).lent

-- ---- one step that is taken: what is lent is well formed, the step is taken on its lines, and leaves the image of a configuration
module _ (r : Rule) (f g : List ℕ) (w : ℤ) (m : Lent) (e : (step_in r Signed f g w m).told ≡ done) where
  abbrev n : ℕ
  n = m.memory.variables

  abbrev H : List (List ℕ)
  H = hard_of m.hard

  abbrev L : List Line
  L = standing_of m.memory

  abbrev M : List Line
  M = add_all (changes H r f g w) L

  taken_well : T (lent_formed m)
  taken_well = of_true ((step_decided r Signed f g w m).if_taken e).1.0

  taken_directly : direct_step H r Signed f g w n L ≡ accepted M
  taken_directly = (direct_decided H r Signed f g w L n).if_passed ((step_decided r Signed f g w m).if_taken e).1.1

  taken_image : (step_in r Signed f g w m).lent ≡ lent_with back_to_back n M m.hard
  taken_image = ap (λ (l : Left (Unit {0})). l.lent) ((step_decided r Signed f g w m).if_passed ((step_decided r Signed f g w m).if_taken e))

  taken_configuration : T (is_configuration n M)
  taken_configuration = direct_keeps H r Signed f g w n L M taken_directly (held_list back_to_back m taken_well)
      (well_configuration back_to_back m.memory (formed_memory back_to_back m taken_well))

-- ---- steps that are all taken: so they are on the lines, and leave the image of what these become, beside the hard list
all_taken : (s : List Application) (m : Lent) → T (lent_formed m) → AllTaken s m → (let n = m.memory.variables in let H = hard_of m.hard in let L = standing_of m.memory in
    AllAccepted H n s L × (lent_left s m ≡ lent_with back_to_back n (applied H s L) m.hard))
unfolding applied
all_taken [] m h a = (tt, ap (λ (k : Memory). record { memory = k; hard = m.hard }) (well_image back_to_back m.memory (formed_memory back_to_back m h)))
all_taken (apply r f g w ∷ more) m h a =
    let image = taken_image r f g w m a.0 in
    let fits = taken_configuration r f g w m a.0 in
    let held = back_to_back_lem.back n M fits in
    let rest = all_taken more (lent_with back_to_back n M m.hard) (image_formed back_to_back_lem n M m.hard fits (formed_hard back_to_back m h)) (subst (AllTaken more) image a.1) in (
      (taken_directly r f g w m a.0, subst (AllAccepted H n more) held rest.0),
      ap (lent_left more) image ∙ rest.1 ∙ ap (λ (N : List Line). lent_with back_to_back n (applied H more N) m.hard) held,
    )
  where
    n : ℕ
    n = m.memory.variables

    H : List (List ℕ)
    H = hard_of m.hard

    M : List Line
    M = add_all (changes H r f g w) (standing_of m.memory)

-- ---- the theorems
module _ (f g : List ℕ) (w : ℤ) (m : Lent) (a : AllTaken (by_prods f g w) m) where
  prods_well : T (lent_formed m)
  prods_well = taken_well Prod (sum_of f g) f (neg_ℤ w) m a.0

  prods_ordered : IsInOrder (standing_of m.memory)
  prods_ordered = fit_ordered m.memory.variables (standing_of m.memory) (well_parts back_to_back m.memory (formed_memory back_to_back m prods_well)).fit

-- where SUM and each of the PRODs is taken, both ways leave the same: head, term area, line table and hard list
pub sum_from_prods : (f g : List ℕ) (w : ℤ) (m : Lent) → AllTaken (by_sum f g w) m → AllTaken (by_prods f g w) m
    → lent_left (by_sum f g w) m ≡ lent_left (by_prods f g w) m
sum_from_prods f g w m b a =
    let h = prods_well f g w m a in
    (all_taken (by_sum f g w) m h b).1
    ∙ ap (λ (N : List Line). lent_with back_to_back m.memory.variables N m.hard) (sum_by_prods (hard_of m.hard) f g w (standing_of m.memory) (prods_ordered f g w m a))
    ∙ sym (all_taken (by_prods f g w) m h a).1

-- where the PRODs are taken, so is SUM. Not the other way round: what a PROD leaves on the way may be beyond the limits, as worked examples show.
pub sum_taken : (f g : List ℕ) (w : ℤ) (m : Lent) → AllTaken (by_prods f g w) m → AllTaken (by_sum f g w) m
sum_taken f g w m a =
    let h = prods_well f g w m a in
    let n = m.memory.variables in
    let accepts = (sum_accepted (hard_of m.hard) f g w n (standing_of m.memory) (prods_ordered f g w m a) (all_taken (by_prods f g w) m h a).0).0 in
    (ap (λ (l : Left (Unit {0})). l.told) (step_well back_to_back_lem Sum Signed f g w m h ∙ ap onto accepts), tt)
  where
    onto : Outcome (List Line) → Left (Unit {0})
    onto o = left_by back_to_back m (mapped (stepped m.memory.variables) o)
