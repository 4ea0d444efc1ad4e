-- What an operation makes: the number of variables, the lines that it leaves, and what it tells.
use Rattle.std.specs.Prelude.{List, ℕ}
use Rattle.refusal.specs.Outcome.{Told}
use Rattle.configuration.specs.Configuration.{Line}

pub record Made (A : Type 0) : Type 0 where
  pub variables : ℕ
  pub lines : List Line
  pub told : Told A
