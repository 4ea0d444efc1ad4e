-- `on_record` meets its contract: each kind is the record of its letter, and any other is misplaced.
use Rattle.std.proofs.Common.{◌≡◌, refl, sym, ap, ◌∙◌, get_or}
use Rattle.std.specs.Prelude.{Some, None, Err}
use Rattle.refusal.specs.declared.Reason.TheVariants.{Misplaced}
use Rattle.derivation.specs.Held.{kind_of, state_in}
use Rattle.derivation.specs.declared.kind.Kind.{Kind}
use Rattle.derivation.specs.declared.kind.Kind.TheVariants as K
use Rattle.derivation.proofs.Letters.{as_kind}
use Rattle.derivation.proofs.Records.{as_step, as_hard, degree_left}
use Rattle.derivation.proofs.checking.Checking.on_record.Goals as goal
use Rattle.derivation.proofs.checking.Checking.on_record.Goals.{In-Some}

is_kind : (c : goal.In-Some) → (x : Kind) → c.in-Some.kind ≡ x → kind_of (get_or c.args.bytes.now c.args.at 0) ≡ Some x
is_kind c x e = sym c.kind_of.ensures ∙ c.in-Some.is ∙ ap (λ (k : Kind). Some k) e

pub returns-in_default-clause-does : goal.returns-in_default-clause-does
returns-in_default-clause-does c =
    let a = c.args in
    as_kind a.variables a.hard.now a.bytes.now a.at None (sym c.kind_of.ensures ∙ c.in_default.is) _ (state_in a.self.now a.lines.now) (Err Misplaced) (λ k. refl)

pub returns-in-Term-clause-does : goal.returns-in-Term-clause-does
returns-in-Term-clause-does c =
    let a = c.args in
    as_kind a.variables a.hard.now a.bytes.now a.at (Some K.Term) (is_kind (goal.at.returns-in-Term-clause-does c).In-Some _ c.in-Term.is) _ _ _ (c.on_term.ensures.does a.lines.now)

pub returns-in-Choice-clause-does : goal.returns-in-Choice-clause-does
returns-in-Choice-clause-does c =
    let a = c.args in
    as_kind a.variables a.hard.now a.bytes.now a.at (Some K.Choice) (is_kind (goal.at.returns-in-Choice-clause-does c).In-Some _ c.in-Choice.is) _ _ _ (c.on_choice.ensures.does a.at a.lines.now)

pub returns-in-Step-clause-does : goal.returns-in-Step-clause-does
returns-in-Step-clause-does c =
    let a = c.args in
    let r = c.in-Step.rule in
    as_kind a.variables a.hard.now a.bytes.now a.at (Some (K.Step r)) (is_kind (goal.at.returns-in-Step-clause-does c).In-Some _ c.in-Step.is) _ _ _
    (as_step a.hard.now a.bytes.now a.at _ _ _ r c.step_ask.result c.step_ask.ensures (c.take.ensures.does a.at))

pub returns-in-Step-clause-degree : goal.returns-in-Step-clause-degree
returns-in-Step-clause-degree c =
    let a = c.args in
    let k = c.take in
    degree_left a.hard.now c.step_ask.result 9 a.self.now k.new.self a.lines.now k.new.lines k.result k.ensures.does c.requires.met k.ensures.degree k.ensures.kept

pub returns-in-Hard-clause-does : goal.returns-in-Hard-clause-does
returns-in-Hard-clause-does c =
    let a = c.args in
    as_kind a.variables a.hard.now a.bytes.now a.at (Some K.Hard) (is_kind (goal.at.returns-in-Hard-clause-does c).In-Some _ c.in-Hard.is) _ _ _
    (as_hard a.hard.now a.bytes.now a.at _ _ _ c.hard_ask.result c.hard_ask.ensures (c.take-in-Hard.ensures.does a.at))

pub returns-in-Hard-clause-degree : goal.returns-in-Hard-clause-degree
returns-in-Hard-clause-degree c =
    let a = c.args in
    let k = c.take-in-Hard in
    degree_left a.hard.now c.hard_ask.result 10 a.self.now k.new.self a.lines.now k.new.lines k.result k.ensures.does c.requires.met k.ensures.degree k.ensures.kept

pub returns-in-Claim-clause-does : goal.returns-in-Claim-clause-does
returns-in-Claim-clause-does c =
    let a = c.args in
    as_kind a.variables a.hard.now a.bytes.now a.at (Some K.Claim) (is_kind (goal.at.returns-in-Claim-clause-does c).In-Some _ c.in-Claim.is) _ _ _ c.on_claim.ensures.does

pub returns-in-Start-clause-does : goal.returns-in-Start-clause-does
returns-in-Start-clause-does c =
    let a = c.args in
    as_kind a.variables a.hard.now a.bytes.now a.at (Some (K.Start c.in-Start.mode)) (is_kind (goal.at.returns-in-Start-clause-does c).In-Some _ c.in-Start.is) _ _ _ (c.on_mode.ensures.does a.at a.lines.now)
