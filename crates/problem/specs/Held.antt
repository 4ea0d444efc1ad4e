-- How code holds a filing while it reads: the number of variables once V has come, and the work polynomial; the lines and the hard list lie beside it.
use Rattle.std.specs.Prelude.{List, ℕ, Option, is_some, unwrap_or}
use Rattle.configuration.specs.Configuration.{Line}
use Rattle.problem.specs.Problem.{State}

pub record Entered : Type 0 where
  pub variables : Option ℕ
  pub work : List ℕ

-- what the accepted records made
abbrev pub state_in : Entered → List Line → List (List ℕ) → State
state_in e L H = record {
  started = is_some e.variables;
  variables = unwrap_or e.variables 0;
  work = e.work;
  holding = record { lines = L; hard = H };
}
