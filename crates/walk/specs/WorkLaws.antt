-- Laws of the record M: what an accepted term passed and what it makes, a polynomial again; that it lies in the bytes, and that no byte after it matters; and that a term too many
-- is told as 65.
use Rattle.std.specs.Prelude.{◌≡◌, Bool, List, [], ◌∷◌, T, leb, ltb, length, take}
use Rattle.std.proofs.Math.Path.{ap₂}
use Prim.Native.Nat.{ℕ, ◌+◌, ◌^◌, ◌≤◌, ◌<◌}
use Rattle.std.proofs.Common.{arith, leb→le, ltb→lt}
use Rattle.refusal.specs.Refusal.{Refusal}
use Rattle.refusal.specs.Outcome.{Outcome, accepted, refused, unless, passing}
use Rattle.refusal.specs.Tests.{TellsTerms}
use Rattle.refusal.specs.TestsLaws.{tells_unless}
use Rattle.polynomial.specs.Polynomial.{sum_of}
use Rattle.polynomial.specs.PolynomialLaws.{sum_ordered, sum_below}
use Rattle.polynomial.specs.LengthLaws.{sum_length}
use Rattle.configuration.specs.Configuration.{is_polynomial}
use Rattle.configuration.specs.Limits.{short}
use Rattle.configuration.specs.LimitsLaws.{tells_short}
use Rattle.configuration.specs.LineLaws.{polynomial_below, polynomial_is}
use Rattle.record.specs.Record.{whole, number_at}
use Rattle.record.specs.RecordLaws.{number_take, whole-take}
use Rattle.walk.specs.Work.{term_added}
use Rattle.walk.specs.WalkLaws.{unless_ind, IfAccepted}

-- a term added to a polynomial makes a polynomial, if there is room
pub term_sum : (n t : ℕ) (f : List ℕ) → t < 2 ^ n → T (leb (length (sum_of (t ∷ []) f)) 64) → T (is_polynomial n f) → T (is_polynomial n (sum_of (t ∷ []) f))
term_sum n t f h k p = polynomial_is n (sum_of (t ∷ []) f) k (sum_below n (t ∷ []) f (h, tt) (polynomial_below n f p)) (sum_ordered (t ∷ []) f)

module _ (n : ℕ) (s : List ℕ) (at : ℕ) (f : List ℕ) where
  pub term_ind : (P : Outcome (List ℕ) → Type 0) → ((x : Refusal) → P (refused x))
      → (T (whole 4 s at) → number_at 4 s at < 2 ^ n → T (leb (length (sum_of (number_at 4 s at ∷ []) f)) 64) → P (accepted (sum_of (number_at 4 s at ∷ []) f)))
      → P (term_added n s at f)
  unfolding term_added
  term_ind P nay yea =
      let t : ℕ = number_at 4 s at in
      unless_ind P (whole 4 s at) _ nay (λ h. unless_ind P (ltb t (2 ^ n)) _ nay (λ i. unless_ind P (leb (length (sum_of (t ∷ []) f)) 64) _ nay (λ j.
      yea h (ltb→lt t (2 ^ n) i) j)))

  pub term_polynomial : (g : List ℕ) → T (is_polynomial n f) → term_added n s at f ≡ accepted g → T (is_polynomial n g)
  term_polynomial g h e = rw e at (term_ind (λ r. IfAccepted (λ g. T (is_polynomial n g)) r) (λ x. tt) (λ i j k. term_sum n (number_at 4 s at) f j k h))

  -- an accepted term lies in the bytes
  pub term_inside : (g : List ℕ) → term_added n s at f ≡ accepted g → at + 4 ≤ length s
  term_inside g e = rw e at (term_ind (λ r. IfAccepted (λ g. at + 4 ≤ length s) r) (λ x. tt) (λ i j k. leb→le (at + 4) (length s) i))

  pub term_take : (K : ℕ) → K ≤ length s → at + 4 ≤ K → term_added n (take K s) at f ≡ term_added n s at f
  unfolding term_added
  term_take K l h = ap₂ (λ (b : Bool) (t : ℕ). unless b 3 (unless (ltb t (2 ^ n)) 6 (passing (short (sum_of (t ∷ []) f) ∷ []) (accepted (sum_of (t ∷ []) f)))))
      (whole-take 4 at K s h l) (number_take 4 at K s h)

  -- "for M it is 65" (document 02, Ask 6)
  pub term_tells : length f ≤ 64 → TellsTerms (λ k. k ≡ 65) (term_added n s at f)
  unfolding term_added
  term_tells h =
      let t : ℕ = number_at 4 s at in
      tells_unless (λ k. k ≡ 65) (whole 4 s at) 3 _ tt (λ i.
      tells_unless (λ k. k ≡ 65) (ltb t (2 ^ n)) 6 _ tt (λ j.
      tells_short (λ k. k ≡ 65) (sum_of (t ∷ []) f) _ (λ l. omega (arith, sum_length (t ∷ []) f)) (λ l. tt)))
