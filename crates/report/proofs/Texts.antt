-- The texts of the lines in the order in which they are written, their lengths, and the texts by value.
use mathlib.Core.Path.{◌≡◌, ap, ap₂, ◌∙◌}
use mathlib.Core.List.{List}
use Prim.Native.Nat.{ℕ, ◌+◌, ◌≤◌}
use native.Mathlib.Omega.{arith}
use lib.IntN.{ℤ}
use lib.ListN.{length, take, length-append}
use Rattle.std.specs.declared.result.Result.{Result}
use Rattle.std.specs.declared.result.Result.TheVariants.{Ok, Err}
use Rattle.listing.specs.Listing.{decimal, weight_text}
use Rattle.listing.specs.ListingLaws.{decimal_short, decimal_digits, weight_short}
use Rattle.listing.specs.Writing.{overwritten}
use Rattle.listing.specs.declared.text.Writer.{Writer}
use Rattle.listing.specs.Writer.{Wrote}
use Rattle.listing.proofs.Writes.{written_front}
use Rattle.report.specs.Report.{refusal_text, confirmed_text, filing_text, verdict_text}
use Rattle.refusal.specs.Refusal.{Refusal, refusal_of}
use Rattle.refusal.specs.declared.Refused.{Refused}
use Rattle.refusal.proofs.RefusalLaws.{number_most}
use Rattle.problem.specs.Problem.{told_of_filing}
use Rattle.derivation.specs.Derivation.{told_of_check}
use Rattle.derivation.specs.declared.Confirmed.{Confirmed}

-- ---- how long they are, and that 64 bytes hold every line
pub refusal_length : (x : Refusal) (k : ℕ) → length (refusal_text x k) ≡ length (decimal x.number) + length (decimal k) + 20
unfolding refusal_text
refusal_length x k = simp length-append (omega arith)

pub confirmed_length : (w : ℤ) (d : ℕ) → length (confirmed_text w d) ≡ length (weight_text w) + length (decimal d) + 19
unfolding confirmed_text
confirmed_length w d = simp length-append (omega arith)

pub refusal_short : (x : Refusal) (k : ℕ) → x.number ≤ 19 → length (refusal_text x k) ≤ 42
refusal_short x k h = omega (arith, refusal_length x k, decimal_digits 1 x.number (omega arith) (omega arith), decimal_short k)

pub confirmed_short : (w : ℤ) (d : ℕ) → length (confirmed_text w d) ≤ 60
confirmed_short w d = omega (arith, confirmed_length w d, weight_short w, decimal_short d)

pub filing_short : (a : Result (Unit {0}) Refused) → length (filing_text (told_of_filing a)) ≤ 64
filing_short (Ok u) = omega arith
filing_short (Err r) = omega (arith, refusal_short (refusal_of r.reason) r.record (number_most r.reason))

pub verdict_short : (a : Result Confirmed Refused) → length (verdict_text (told_of_check a)) ≤ 64
verdict_short (Ok c) = omega (arith, confirmed_short c.claim c.degree)
verdict_short (Err r) = omega (arith, refusal_short (refusal_of r.reason) r.record (number_most r.reason))

-- ---- a text by value: what a writer put at the front of an area
pub by_value : {a b : Writer} {x : List ℕ} (bytes : List ℕ) → a.at ≡ 0 → Wrote a b x → bytes ≡ b.out.now → take b.at bytes ≡ x
by_value {a} {b} {x} bytes z w e =
    let n : b.at ≡ length x = omega (arith, w.end) in
    ap₂ take n (e ∙ w.bytes ∙ ap (λ (i : ℕ). overwritten a.out.now i x) z) ∙ written_front a.out.now x
