-- What an operation leaves of what is opened.
use mathlib.Core.Path.{◌≡◌, refl, sym, ap, ap₂, subst, ◌∙◌}
use mathlib.Core.Bool.{Bool, true, false, ◌&&◌, true≢false}
use mathlib.Core.List.{List, [], ◌++◌}
use Prim.Native.Nat.{ℕ, ◌+◌, ◌≤◌, ◌<◌}
use native.Mathlib.Omega.{arith}
use lib.Dec.{T, leb, eqb, eqb→eq}
use lib.IntN.{ℤ}
use lib.ListN.{length, drop}
use borrow.Author.Tests.{eq-eqb, le-leb, lt-leb}
use Rattle.std.specs.declared.result.Result.{Result}
use Rattle.std.specs.declared.result.Result.TheVariants.{Ok, Err}
use Rattle.run.specs.BooleanLaws.{of_true, left}
use Rattle.refusal.specs.Refusal.{numbered, refusal_of}
use Rattle.refusal.specs.Outcome.{Outcome, accepted, unless, mapped, Reached, nothing, refused_for, after, Told, answered, refused_at}
use Rattle.refusal.specs.OutcomeLaws.{after-refused, after-accepted, unless_fails, unless_passes}
use Rattle.refusal.specs.TestsLaws.{nothing_found}
use Rattle.refusal.specs.declared.Reason.{Reason}
use Rattle.configuration.specs.Configuration.{Line, weights_fit, is_configuration}
use Rattle.configuration.specs.Made.{Made}
use Rattle.hard.specs.Hard.{is_hard_list, HardArea, hard_image, hard_sized}
use Rattle.hard.specs.HardLaws.{formed_number}
use Rattle.memory.specs.Memory.{Memory, back_to_back, image_of, standing_of, well_formed}
use Rattle.memory.specs.Places.{used_by, ClearFrom}
use Rattle.memory.specs.LayoutLaws.{well_image, well_configuration, well_parts}
use Rattle.memory.specs.MemoryLaws.{back_to_back_lem, well_clear}
use Rattle.calculus.specs.Calculus.{operand_tests, direct_step, step}
use Rattle.calculus.specs.CalculusLaws.{operands_passed}
use Rattle.calculus.specs.declared.Rule.{Rule}
use Rattle.calculus.specs.declared.Mode.{Mode}
use Rattle.step.specs.Stepping.{Finds, IsOperand}
use Rattle.step.specs.SteppingLaws.{polynomial_operand}
use Rattle.problem.specs.Problem.{file_problem}
use Rattle.derivation.specs.Derivation.{Confirmation, check_derivation}
use Rattle.listing.specs.Listing.{text_of}
use Rattle.checker.specs.Checker.{Lent, headless, lent_sized, Left, left_of, lent_with, left_by, filed_with, done, stepped, Written, written_by, fitting, step_in, check_in, file_in, write_in}
use Rattle.checker.specs.CheckerLaws.{formed_memory, formed_hard, held_list, step_well, check_well, write_well, file_sized, file_unsized}
use Rattle.checker.specs.Opened.{IsOpened}

-- ---- the operands of a step
pub operands_fit : (n : ℕ) (f g : List ℕ) (told : Result (Unit {0}) Reason) (u : Unit {0}) → Finds (operand_tests n f g) told → told ≡ Ok u → IsOperand f × IsOperand g
operands_fit n f g told u found e =
    let p = operands_passed n f g (nothing_found {A = List Line} [] (operand_tests n f g) (Ok u) (rw e at found) refl) in
    (polynomial_operand n f p.0, polynomial_operand n g p.1)

-- ---- what is lent is well formed, and its lines are read
module _ {x : Lent} {H : List (List ℕ)} {L : List Line} (o : IsOpened x H L) where
  pub memory_opened : T (well_formed x.memory)
  memory_opened = formed_memory back_to_back x o.formed

  pub lines_opened : {M : List Line} → M ≡ standing_of x.memory → IsOpened x H M
  lines_opened e = record { formed = o.formed; hard = o.hard; lines = e }

module _ {x : Lent} {H : List (List ℕ)} {L : List Line} (o : IsOpened x H L) where
  pub weights_opened : T (weights_fit L)
  weights_opened = subst (λ (M : List Line). T (weights_fit M)) (sym o.lines) (well_parts back_to_back x.memory (formed_memory back_to_back x o.formed)).weights

  pub clear_opened : ClearFrom (used_by x.memory.table) x.memory.terms
  clear_opened = well_clear x.memory (formed_memory back_to_back x o.formed)

  pub list_opened : T (is_hard_list x.memory.variables H)
  list_opened = subst (λ (K : List (List ℕ)). T (is_hard_list x.memory.variables K)) (sym o.hard) (held_list back_to_back x o.formed)

  pub configuration_opened : T (is_configuration x.memory.variables L)
  configuration_opened =
      subst (λ (M : List Line). T (is_configuration x.memory.variables M)) (sym o.lines) (well_configuration back_to_back x.memory (formed_memory back_to_back x o.formed))

  -- ---- a check
  pub checked_left : (s : List ℕ) (N : List Line) (told : Told Confirmation)
      → record { variables = x.memory.variables; lines = N; told = told } ≡ check_derivation s x.memory.variables H L
      → (m : Memory) → m ≡ image_of x.memory.variables N → left_of (record { memory = m; hard = x.hard }) told ≡ check_in s x
  checked_left s N told made m closed =
      ap (λ (k : Memory). left_of (record { memory = k; hard = x.hard }) told) closed
      ∙ ap (λ (y : Made Confirmation). left_of (lent_with back_to_back y.variables y.lines x.hard) y.told) (made ∙ rw (o.hard, o.lines) refl)
      ∙ sym (check_well back_to_back_lem s x o.formed)

  -- ---- a step
  module _ (r : Rule) (d : Mode) (f g : List ℕ) (w : ℤ) where
    abbrev outcome : Outcome (List Line)
    outcome = direct_step H r d f g w x.memory.variables L

    abbrev onto : Outcome (List Line) → Left (Unit {0})
    onto p = left_by back_to_back x (mapped (stepped x.memory.variables) p)

    step_opened : onto outcome ≡ step_in r d f g w x
    step_opened = rw (o.hard, o.lines) (sym (step_well back_to_back_lem r d f g w x o.formed))

    -- the tests of the operands stand in front of it
    module _ (told : Result (Unit {0}) Reason) (found : Finds (operand_tests x.memory.variables f g) told) where
      pub misfit_left : (reason : Reason) → told ≡ Err reason → left_of x (refused_at 0 (refusal_of reason)) ≡ step_in r d f g w x
      unfolding direct_step
      misfit_left reason e = ap onto (rw e at (found (step H r d f g w L))) ∙ step_opened

      pub fit_left : (u : Unit {0}) → told ≡ Ok u → {p : Reached (List Line)} → p ≡ after L (step H r d f g w L) → p ≡ after L outcome
      unfolding direct_step
      fit_left u e k = k ∙ ap (after L) (rw e at (found (step H r d f g w L)))

    pub refused_left : (reason : Reason) (N : List Line) → ◌≡◌ {A = Reached (List Line)} (record { reached = N; stop = refused_for (refusal_of reason) }) (after L outcome)
        → left_of x (refused_at 0 (refusal_of reason)) ≡ step_in r d f g w x
    refused_left reason N made = ap onto (sym (after-refused L N (refusal_of reason) outcome made).0) ∙ step_opened

    pub taken_left : (N : List Line) (m : Memory) → ◌≡◌ {A = Reached (List Line)} (record { reached = N; stop = nothing }) (after L outcome)
        → m ≡ image_of x.memory.variables N → left_of (record { memory = m; hard = x.hard }) done ≡ step_in r d f g w x
    taken_left N m made closed =
        ap (λ (k : Memory). left_of (record { memory = k; hard = x.hard }) done) closed
        ∙ ap onto (sym (after-accepted L N outcome made)) ∙ step_opened

  -- ---- a line
  module _ (i : ℕ) (area : List ℕ) where
    abbrev text : List ℕ
    text = text_of i x.memory.variables H L

    -- how many numbers there are
    pub last_opened : length H + length L ≡ x.hard.number + x.memory.lines
    last_opened =
        let h = ap length o.hard ∙ formed_number x.memory.variables x.hard (formed_hard back_to_back x o.formed) in
        let l = ap length o.lines ∙ sym (ap (λ (m : Memory). m.lines) (well_image back_to_back x.memory (formed_memory back_to_back x o.formed))) in
        omega (arith, h, l)

    abbrev by : Outcome (List ℕ) → Written
    by p = written_by area p

    write_opened : by (unless (leb i (length H + length L)) 17 (fitting area text)) ≡ write_in i x area
    write_opened = rw (last_opened, o.hard, o.lines) (sym (write_well back_to_back_lem i x area o.formed))

    pub beyond_left : length H + length L < i → record { area = area; told = refused_at 0 (numbered 17) } ≡ write_in i x area
    beyond_left h = ap by (unless_fails (leb i (length H + length L)) (numbered 17) (fitting area text) (lt-leb i (length H + length L) h)) ∙ write_opened

    module _ (h : i ≤ length H + length L) where
      fitting_left : by (fitting area text) ≡ write_in i x area
      fitting_left = ap by (unless_passes (leb i (length H + length L)) (numbered 17) (fitting area text) (fitting area text) (le-leb i (length H + length L) h) refl) ∙ write_opened

      pub short_left : length area < length text → record { area = area; told = refused_at 0 (numbered 14) } ≡ write_in i x area
      short_left s = ap by (unless_fails (leb (length text) (length area)) (numbered 14) (accepted text) (lt-leb (length text) (length area) s)) ∙ fitting_left

      pub written_left : length text ≤ length area → record { area = text ++ drop (length text) area; told = answered (length text) } ≡ write_in i x area
      written_left s = ap by (unless_passes (leb (length text) (length area)) (numbered 14) (accepted text) (accepted text) (le-leb (length text) (length area) s) refl) ∙ fitting_left

-- ---- a filing
module _ (x : Lent) where
  -- the lengths beside that of the line table, as code tests them
  abbrev pub others : Bool
  others = eqb (length x.memory.terms) 8192 && (eqb (length x.hard.counts) 16 && eqb (length x.hard.places) 1024)

  all_lengths : length x.memory.table ≡ 128 → lent_sized x ≡ others
  all_lengths h = go (eqb (length x.memory.terms) 8192) (eqb (length x.memory.table) 128) (hard_sized x.hard) (eq-eqb (length x.memory.table) 128 h)
    where
      go : (a b c : Bool) → b ≡ true → ((a && b) && c) ≡ (a && c)
      go true true c e = refl
      go true false c e = absurd (true≢false (sym e))
      go false b c e = refl

  -- where they are as they must be
  pub terms_fit : others ≡ true → length x.memory.terms ≡ 8192
  terms_fit h = eqb→eq (length x.memory.terms) 8192 (left (eqb (length x.memory.terms) 8192) (eqb (length x.hard.counts) 16 && eqb (length x.hard.places) 1024) (of_true h))

  pub unsized_left : (s : List ℕ) → length x.memory.table ≡ 128 → others ≡ false → left_of (headless x) (refused_at 0 (numbered 1)) ≡ file_in s x
  unsized_left s t h = sym (file_unsized back_to_back s x (all_lengths t ∙ h))

  pub filed_left : (s : List ℕ) → length x.memory.table ≡ 128 → others ≡ true → (n : ℕ) (N : List Line) (H : List (List ℕ)) (told : Told (Unit {0}))
      → record { variables = n; hard = H; lines = N; told = told } ≡ file_problem s → (m : Memory) (a : HardArea) → m ≡ image_of n N → a ≡ hard_image H
      → left_of (record { memory = m; hard = a }) told ≡ file_in s x
  filed_left s t h n N H told made m a e k =
      ap₂ (λ (l : Memory) (b : HardArea). left_of (record { memory = l; hard = b }) told) e k
      ∙ ap (filed_with back_to_back) made
      ∙ sym (file_sized back_to_back s x (all_lengths t ∙ h))
