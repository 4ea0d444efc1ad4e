-- What an operation makes where what is lent passes its tests, and where it does not. What it leaves holds what it made: the image of a configuration is well formed, and its lines
-- are read back as they were.
use Rattle.std.specs.Prelude.{◌≡◌, true, false, List, [], ◌∷◌, ℕ, ◌+◌, T, leb, ℤ}
use Rattle.std.proofs.Math.Path.{refl, ap}
use Rattle.std.proofs.Common.{◌∙◌, arith}
use Rattle.run.specs.BooleanLaws.{is_true, left, right, both}
use Rattle.refusal.specs.Refusal.{Refusal, numbered}
use Rattle.refusal.specs.Outcome.{Outcome, accepted, refused, unless, mapped, Test, test_for, passing, Told, answered, refused_at}
use Rattle.configuration.specs.Configuration.{Line, is_configuration}
use Rattle.hard.specs.Hard.{is_hard_list, HardArea, hard_of, hard_sized, hard_formed}
use Rattle.hard.specs.HardLaws.{formed_list}
use Rattle.memory.specs.Memory.{Layout, sized, standing_under, well_formed_under, IsFaithful}
use Rattle.memory.specs.LayoutLaws.{image_well, well_sized}
use Rattle.calculus.specs.Calculus.{direct_step}
use Rattle.calculus.specs.declared.Rule.{Rule}
use Rattle.calculus.specs.declared.Mode.{Mode}
use Rattle.problem.specs.Problem.{file_problem}
use Rattle.derivation.specs.Derivation.{check_derivation}
use Rattle.listing.specs.Listing.{text_of}
use Rattle.checker.specs.Checker.{Lent, headless, lent_sized, left_of, stepped, written_by, fitting, lent_formed_under, lent_tests, admitted, lent_with, left_by, filed_with, step_under, check_under, file_under, write_under}

-- ---- tests in front of what is made of an outcome
passing-mapped : {A B : Type 0} (h : A → B) (ts : List Test) (o : Outcome A) → passing ts (mapped h o) ≡ mapped h (passing ts o)
passing-mapped h [] o = refl
passing-mapped h (test_for x true ∷ ts) o = passing-mapped h ts o
passing-mapped h (test_for x false ∷ ts) o = refl

-- an answer is no refusal
pub not_refusal : {A : Type 0} {p : A} {k : ℕ} {x : Refusal} → answered p ≡ refused_at k x → ⊥
not_refusal e = let z : ◌≡◌ {A = ℕ} 0 1 = cc in let i : ⊥ = omega arith in i

pub same_refusal : {A : Type 0} {j k : ℕ} {x y : Refusal} → ◌≡◌ {A = Told A} (refused_at j x) (refused_at k y) → (j ≡ k) × (x ≡ y)
same_refusal e = (cc, cc)

-- ---- what is lent is refused, or it is not
module _ (l : Layout) {A : Type 0} (x : Lent) (o : Outcome A) where
  pub not_sized : lent_sized x ≡ false → admitted l x o ≡ refused (numbered 1)
  not_sized h = rw h

  pub not_formed : lent_sized x ≡ true → lent_formed_under l x ≡ false → admitted l x o ≡ refused (numbered 2)
  not_formed h k = rw (h, k)

-- the parts of what is well formed, and both together
module _ (l : Layout) (x : Lent) where
  pub formed_memory : T (lent_formed_under l x) → T (well_formed_under l x.memory)
  formed_memory h = left (well_formed_under l x.memory) (hard_formed x.memory.variables x.hard) h

  pub formed_hard : T (lent_formed_under l x) → T (hard_formed x.memory.variables x.hard)
  formed_hard h = right (well_formed_under l x.memory) (hard_formed x.memory.variables x.hard) h

  pub both_formed : T (well_formed_under l x.memory) → T (hard_formed x.memory.variables x.hard) → T (lent_formed_under l x)
  both_formed h k = both (well_formed_under l x.memory) (hard_formed x.memory.variables x.hard) h k

  -- the hard list that it holds
  pub held_list : T (lent_formed_under l x) → T (is_hard_list x.memory.variables (hard_of x.hard))
  held_list h = formed_list x.memory.variables x.hard (formed_hard h)

pub formed_sized : {l : Layout} (q : IsFaithful l) (x : Lent) → T (lent_formed_under l x) → T (lent_sized x)
formed_sized {l} q x h =
    both (sized x.memory) (hard_sized x.hard) (well_sized l q x.memory (formed_memory l x h))
    (left (hard_sized x.hard) _ (formed_hard l x h))

pub admitted_well : {l : Layout} (q : IsFaithful l) {A : Type 0} (x : Lent) (o : Outcome A) → T (lent_formed_under l x) → admitted l x o ≡ o
admitted_well {l} q x o h = rw (is_true (lent_sized x) (formed_sized q x h), is_true (lent_formed_under l x) h)

-- a configuration and a hard list that can be held, in their images
pub image_formed : {l : Layout} (q : IsFaithful l) (n : ℕ) (L : List Line) (a : HardArea) → T (is_configuration n L) → T (hard_formed n a) → T (lent_formed_under l (lent_with l n L a))
image_formed {l} q n L a h k = both_formed l (lent_with l n L a) (image_well l q n L h) k

-- ---- the operations
module _ (l : Layout) where
  pub step_admitted : (r : Rule) (d : Mode) (f g : List ℕ) (w : ℤ) (x : Lent) → (let n = x.memory.variables in
      step_under l r d f g w x ≡ left_by l x (mapped (stepped n) (admitted l x (direct_step (hard_of x.hard) r d f g w n (standing_under l x.memory)))))
  unfolding step_under
  step_admitted r d f g w x =
      let n = x.memory.variables in
      ap (left_by l x) (passing-mapped (stepped n) (lent_tests l x) (direct_step (hard_of x.hard) r d f g w n (standing_under l x.memory)))

  module _ (s : List ℕ) (x : Lent) where
    pub check_admitted : check_under l s x ≡ left_by l x (admitted l x (accepted (check_derivation s x.memory.variables (hard_of x.hard) (standing_under l x.memory))))
    unfolding check_under
    check_admitted = refl

    pub file_sized : lent_sized x ≡ true → file_under l s x ≡ filed_with l (file_problem s)
    unfolding file_under
    file_sized h = rw h

    pub file_unsized : lent_sized x ≡ false → file_under l s x ≡ left_of (headless x) (refused_at 0 (numbered 1))
    unfolding file_under
    file_unsized h = rw h

module _ {l : Layout} (q : IsFaithful l) where
  pub step_well : (r : Rule) (d : Mode) (f g : List ℕ) (w : ℤ) (x : Lent) → T (lent_formed_under l x) → (let n = x.memory.variables in
      step_under l r d f g w x ≡ left_by l x (mapped (stepped n) (direct_step (hard_of x.hard) r d f g w n (standing_under l x.memory))))
  step_well r d f g w x h =
      let n = x.memory.variables in
      step_admitted l r d f g w x
      ∙ ap (λ (o : Outcome (List Line)). left_by l x (mapped (stepped n) o)) (admitted_well q x (direct_step (hard_of x.hard) r d f g w n (standing_under l x.memory)) h)

  pub check_well : (s : List ℕ) (x : Lent) → T (lent_formed_under l x)
      → (let y = check_derivation s x.memory.variables (hard_of x.hard) (standing_under l x.memory) in check_under l s x ≡ left_of (lent_with l y.variables y.lines x.hard) y.told)
  check_well s x h =
      check_admitted l s x ∙ ap (left_by l x) (admitted_well q x (accepted (check_derivation s x.memory.variables (hard_of x.hard) (standing_under l x.memory))) h)

  pub write_well : (i : ℕ) (x : Lent) (area : List ℕ) → T (lent_formed_under l x) → (let text = text_of i x.memory.variables (hard_of x.hard) (standing_under l x.memory) in
      write_under l i x area ≡ written_by area (unless (leb i (x.hard.number + x.memory.lines)) 17 (fitting area text)))
  unfolding write_under
  write_well i x area h =
      let text = text_of i x.memory.variables (hard_of x.hard) (standing_under l x.memory) in
      ap (written_by area) (admitted_well q x (unless (leb i (x.hard.number + x.memory.lines)) 17 (fitting area text)) h)
