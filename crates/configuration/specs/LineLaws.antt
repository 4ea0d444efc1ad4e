-- Laws of lines and their polynomials: a polynomial of n variables is at most 64 terms below 2 ^ n in written order; what every line has; lines that fit; what the limits
-- let through; and the parts of a configuration.
use Rattle.std.specs.Prelude.{◌≡◌, refl, Bool, false, ◌&&◌, List, [], ◌∷◌, ◌++◌, ℕ, zero, suc, ◌^◌, ◌≤◌, T, leb, ltb, ℤ, pos, negsuc, ◌+ℤ◌, length, take}
use Rattle.std.proofs.Common.{sym, true≢false, arith, leb→le, le→leb, ltb→lt, lt→ltb, pow_mono}
use Rattle.refusal.specs.Outcome.{accepted, unless}
use Rattle.refusal.specs.OutcomeLaws.{same_accepted, unless_taken}
use Rattle.run.specs.BooleanLaws.{is_true, of_true, both, left, right}
use Rattle.run.specs.Run.{sorted, IsSorted}
use Rattle.run.specs.RunLaws.{holds_sorted, sorted_holds}
use Rattle.term.specs.Term.{before}
use Rattle.polynomial.specs.Polynomial.{IsBelow, RunBelow}
use Rattle.polynomial.specs.PolynomialLaws.{written}
use Rattle.configuration.specs.Weight.{is_negative}
use Rattle.configuration.specs.Configuration.{Line, line, Every, below, is_polynomial, lines_fit, weights_fit, is_configuration}
use Rattle.configuration.specs.ConfigurationLaws.{fit_every}
use Rattle.configuration.specs.Limits.{within}

-- ---- polynomials of n variables
pub below_holds : (n : ℕ) (f : List ℕ) → T (below n f) → IsBelow n f
unfolding below
below_holds n [] h = tt
below_holds n (t ∷ f) h = (ltb→lt t (2 ^ n) (left (ltb t (2 ^ n)) (below n f) h), below_holds n f (right (ltb t (2 ^ n)) (below n f) h))

pub holds_below : (n : ℕ) (f : List ℕ) → IsBelow n f → T (below n f)
unfolding below
holds_below n [] h = tt
holds_below n (t ∷ f) h = both (ltb t (2 ^ n)) (below n f) (lt→ltb t (2 ^ n) h.0) (holds_below n f h.1)

pub polynomial_short : (n : ℕ) (f : List ℕ) → T (is_polynomial n f) → length f ≤ 64
polynomial_short n f h = leb→le (length f) 64 (left (leb (length f) 64) (below n f && sorted before f) h)

pub polynomial_below : (n : ℕ) (f : List ℕ) → T (is_polynomial n f) → IsBelow n f
polynomial_below n f h = below_holds n f (left (below n f) (sorted before f) (right (leb (length f) 64) (below n f && sorted before f) h))

pub polynomial_sorted : (n : ℕ) (f : List ℕ) → T (is_polynomial n f) → IsSorted before f
polynomial_sorted n f h = sorted_holds before written f (right (below n f) (sorted before f) (right (leb (length f) 64) (below n f && sorted before f) h))

pub polynomial_is : (n : ℕ) (f : List ℕ) → T (leb (length f) 64) → IsBelow n f → IsSorted before f → T (is_polynomial n f)
polynomial_is n f l b o =
    both (leb (length f) 64) (below n f && sorted before f) l (both (below n f) (sorted before f) (holds_below n f b) (holds_sorted before written f o))

pub none_polynomial : (n : ℕ) → T (is_polynomial n [])
none_polynomial n = polynomial_is n [] tt tt tt

-- a polynomial of n variables is one of more
wider : (m n : ℕ) (f : List ℕ) → m ≤ n → IsBelow m f → IsBelow n f
wider m n [] l b = tt
wider m n (t ∷ f) l b = (omega (arith, b.0, pow_mono {i = m} {j = n} l), wider m n f l b.1)

pub polynomial_run : (m n : ℕ) (f : List ℕ) → m ≤ n → T (is_polynomial m f) → RunBelow n f
polynomial_run m n f l h = (wider m n f l (polynomial_below m f h), polynomial_sorted m f h)

-- ---- signs
pub sum_sign : (a b : ℤ) → is_negative a ≡ false → is_negative b ≡ false → is_negative (a +ℤ b) ≡ false
sum_sign (pos a) (pos b) h k = refl
sum_sign (pos a) (negsuc b) h k = absurd (true≢false k)
sum_sign (negsuc a) b h k = absurd (true≢false h)

-- ---- every line
module _ (P : List ℕ → Type 0) where
  pub Every-append : (L M : List Line) → Every P L → Every P M → Every P (L ++ M)
  Every-append [] M a b = b
  Every-append (line f w ∷ L) M a b = (a.0, Every-append L M a.1 b)

  pub Every-take : (k : ℕ) (L : List Line) → Every P L → Every P (take k L)
  Every-take zero L a = tt
  Every-take (suc k) [] a = tt
  Every-take (suc k) (line f w ∷ L) a = (a.0, Every-take k L a.1)

  -- what follows from it, polynomial by polynomial
  pub Every-map : (Q : List ℕ → Type 0) → ((f : List ℕ) → P f → Q f) → (L : List Line) → Every P L → Every Q L
  Every-map Q h [] a = tt
  Every-map Q h (line f w ∷ L) a = (h f a.0, Every-map Q h L a.1)

-- every polynomial has at most 64 terms
abbrev pub IsShort : List Line → Type 0
IsShort L = Every (λ f. length f ≤ 64) L

-- ---- lines that fit
pub fits_short : (n : ℕ) (L : List Line) → T (lines_fit n L) → IsShort L
fits_short n L h = Every-map (λ f. T (is_polynomial n f)) (λ f. length f ≤ 64) (polynomial_short n) L (fit_every n L h)

-- ---- the limits
-- what the limits let through is what came to them, and within them
pub within-accepted : (N M : List Line) → within N ≡ accepted M → (M ≡ N) × ((length N ≤ 128) × T (weights_fit N))
unfolding within
within-accepted N M e =
    let a : _ = unless_taken (leb (length N) 128) _ (unless (weights_fit N) 11 (accepted N)) e in
    let b : _ = unless_taken (weights_fit N) _ (accepted N) a.1 in
    (sym (same_accepted b.1), (leb→le (length N) 128 (of_true a.0), of_true b.0))

pub accepted-within : (N : List Line) → length N ≤ 128 → T (weights_fit N) → within N ≡ accepted N
unfolding within
accepted-within N l w = rw (is_true (leb (length N) 128) (le→leb (length N) 128 l), is_true (weights_fit N) w)

-- ---- the parts of a configuration
pub record IsConfiguration (n : ℕ) (L : List Line) : Type 0 where
  pub variables : n ≤ 32
  pub room : length L ≤ 128
  pub fit : T (lines_fit n L)
  pub weights : T (weights_fit L)

pub configuration_parts : (n : ℕ) (L : List Line) → T (is_configuration n L) → IsConfiguration n L
configuration_parts n L t =
    let a : Bool = leb n 32 in
    let b : Bool = leb (length L) 128 in
    let c : Bool = lines_fit n L in
    let d : Bool = weights_fit L in
    let u : T (b && (c && d)) = right a (b && (c && d)) t in
    let v : T (c && d) = right b (c && d) u in
    record { variables = leb→le n 32 (left a (b && (c && d)) t); room = leb→le (length L) 128 (left b (c && d) u); fit = left c d v; weights = right c d v }

pub parts_configuration : (n : ℕ) (L : List Line) → IsConfiguration n L → T (is_configuration n L)
parts_configuration n L h =
    let c : Bool = lines_fit n L in
    let d : Bool = weights_fit L in
    both (leb n 32) (leb (length L) 128 && (c && d)) (le→leb n 32 h.variables)
    (both (leb (length L) 128) (c && d) (le→leb (length L) 128 h.room) (both c d h.fit h.weights))

-- its polynomials have at most 64 terms
pub configuration_short : {n : ℕ} {L : List Line} → IsConfiguration n L → IsShort L
configuration_short {n} {L} h = fits_short n L h.fit

-- lines that fit make one if the limits let them through
pub within_configuration : (n : ℕ) (N M : List Line) → n ≤ 32 → T (lines_fit n N) → within N ≡ accepted M → T (is_configuration n M)
within_configuration n N M v h e =
    let w : _ = within-accepted N M e in
    rw w.0 (parts_configuration n N (record { variables = v; room = w.1.0; fit = h; weights = w.1.1 }))
