-- The bound of a term, as code tests it.
use mathlib.Core.Path.{◌≡◌, sym}
use mathlib.Core.Bool.{true}
use Prim.Native.Nat.{ℕ, ◌^◌, ◌≤◌, ◌<◌}
use native.Mathlib.Omega.{arith}
use lib.Dec.{ltb}
use lib.Pow.{pow_mono}
use borrow.Author.Tests.{lt-ltb}

pub always_below : (n t : ℕ) → 32 ≤ n → t < 2 ^ 32 → true ≡ ltb t (2 ^ n)
always_below n t h k = sym (lt-ltb t (2 ^ n) (omega (arith, pow_mono {i = 32} {j = n} h)))
