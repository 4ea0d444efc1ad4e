use Rattle.std.proofs.Common.{ap, ap₂, sym, ◌∙◌, Bool, not, ◌&&◌, List, ℕ}
use Rattle.std.specs.Option.{is_some}
use Rattle.configuration.specs.Configuration.{some}
use Rattle.walk.proofs.Adds.{held_none}
use Rattle.problem.specs.Held.{Entered}
use Rattle.problem.proofs.filing.Filing.is_complete.Goals as goal

pub returns-then-is_some : goal.returns-then-is_some
returns-then-is_some c L H =
    let w = c.self.inside.work in
    held_none w.count w.terms c.self.invariant.area
    ∙ ap₂ (λ (b : Bool) (f : List ℕ). b && not (some f)) ((sym (sym c.is_some.ensures ∙ c.if-is_some.true)) ∙ ap (λ (e : Entered). is_some e.variables) c.self.view_is) (ap (λ (e : Entered). e.work) c.self.view_is)
