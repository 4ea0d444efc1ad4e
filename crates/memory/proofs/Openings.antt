-- Lines that stand in order and are short: so do those at the front, and the one behind them.
use Rattle.std.proofs.Common.{◌≤◌, List, [], ◌∷◌, ◌++◌, ℕ, ℤ, length}
use Rattle.configuration.specs.Configuration.{Line, line, IsBehind, IsInOrder}
use Rattle.configuration.specs.LineLaws.{IsShort}

behind_front : (g : List ℕ) (A : List Line) (f : List ℕ) (w : ℤ) (R : List Line) → IsBehind g (A ++ line f w ∷ R) → IsBehind g (A ++ line f w ∷ [])
behind_front g [] f w R b = (b.0, tt)
behind_front g (line h v ∷ A) f w R b = (b.0, behind_front g A f w R b.1)

pub ordered_front : (A : List Line) (f : List ℕ) (w : ℤ) (R : List Line) → IsInOrder (A ++ line f w ∷ R) → IsInOrder (A ++ line f w ∷ [])
ordered_front [] f w R r = (r.0, (r.1.0, (tt, tt)))
ordered_front (line g u ∷ A) f w R r = (r.0, (r.1.0, (behind_front g A f w R r.1.1.0, ordered_front A f w R r.1.1.1)))

pub short_next : (A : List Line) (f : List ℕ) (w : ℤ) (R : List Line) → IsShort (A ++ line f w ∷ R) → length f ≤ 64
short_next [] f w R s = s.0
short_next (line g u ∷ A) f w R s = short_next A f w R s.1
