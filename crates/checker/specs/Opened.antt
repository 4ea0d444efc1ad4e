-- What code learns of what is lent: its lines and its hard list where it is well formed, or which of its tests fails first.
use Rattle.std.specs.Prelude.{◌≡◌, List, ℕ, T}
use Rattle.refusal.specs.Refusal.{refusal_of}
use Rattle.refusal.specs.Tests.{FirstFailed}
use Rattle.refusal.specs.declared.Refused.{Refused}
use Rattle.configuration.specs.Configuration.{Line}
use Rattle.hard.specs.Hard.{hard_of}
use Rattle.memory.specs.Memory.{back_to_back, standing_of}
use Rattle.checker.specs.Checker.{Lent, lent_tests, lent_formed}

pub record IsOpened (x : Lent) (H : List (List ℕ)) (L : List Line) : Type 0 where
  pub formed : T (lent_formed x)
  pub hard : H ≡ hard_of x.hard
  pub lines : L ≡ standing_of x.memory

pub record IsUnfit (x : Lent) (r : Refused) : Type 0 where
  pub lent : r.record ≡ 0
  pub first : FirstFailed (refusal_of r.reason) (lent_tests back_to_back x)
