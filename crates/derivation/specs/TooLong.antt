-- What a derivation's record tells that is refused with 7 (document 02, Ask 6): a step its results, M 65.
use Rattle.std.specs.Prelude.{◌≡◌, ◌⊎◌, List, ℕ, ◌+◌, get_or}
use Rattle.calculus.specs.Tests.{LongResult}
use Rattle.calculus.specs.declared.Rule.TheVariants.{Sum, Prod, Hard}
use Rattle.record.specs.Letters.{letter_m, letter_s, letter_p, letter_e}
use Rattle.record.specs.Record.{number_at}
use Rattle.walk.specs.Walk.{Progress}
use Rattle.derivation.specs.Derivation.{State}

-- k is told of the record after the progress p: of an M, or of a step of f with the work polynomial, where H is the hard list
abbrev pub LongRecord : List (List ℕ) → List ℕ → Progress State → ℕ → Type 0
LongRecord H s p k =
    let kind = get_or s p.at 0 in
    let f = p.state.first in
    let g = p.state.work in
    ((kind ≡ letter_m) × (k ≡ 65))
    ⊎ (((kind ≡ letter_s) × LongResult H Sum f g k)
    ⊎ (((kind ≡ letter_p) × LongResult H Prod f g k)
    ⊎ ((kind ≡ letter_e) × LongResult H (Hard (number_at 1 s (p.at + 1))) f g k)))
