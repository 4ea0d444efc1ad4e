-- `compare` meets its contract. The invariant: what is left of both is ordered as the whole.
use Rattle.std.proofs.Common.{◌≡◌, length, drop}
use Rattle.polynomial.specs.Polynomial.{order_of}
use Rattle.polynomial.proofs.order.compare.Given as goal

abbrev pub invariant-loop-a : goal.invariant-loop-a
invariant-loop-a l = order_of (drop (length l.yielded) l.f) (drop (length l.yielded) l.g) ≡ order_of l.f l.g
