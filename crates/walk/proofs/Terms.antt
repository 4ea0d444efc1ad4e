-- The record M in code: its refusals in their order, and the sum that is kept.
use mathlib.Core.Path.{◌≡◌}
use mathlib.Core.Bool.{true, false}
use mathlib.Core.List.{List, [], ◌∷◌}
use Prim.Native.Nat.{ℕ, ◌^◌, ◌<◌, ◌≤◌}
use lib.Dec.{leb, ltb}
use lib.ListN.{length}
use borrow.Author.Tests.{lt-leb, le-leb}
use Rattle.refusal.specs.Refusal.{numbered, too_long}
use Rattle.refusal.specs.Outcome.{Stop, nothing, refused_for, Reached, after}
use Rattle.polynomial.specs.Polynomial.{sum_of}
use Rattle.record.specs.Record.{whole, number_at, mask_in}
use Rattle.std.specs.declared.option.Option.TheVariants.{Some, None}
use Rattle.record.proofs.Bodies.{mask_cut, mask_whole}
use Rattle.walk.specs.Work.{term_added}

abbrev stopped : List ℕ → Stop → Reached (List ℕ)
stopped f x = record { reached = f; stop = x }

module _ (n : ℕ) (s : List ℕ) (at : ℕ) (f : List ℕ) where
  abbrev told : Reached (List ℕ)
  told = after f (term_added n s at f)

  pub cut_short : mask_in s at ≡ None → stopped f (refused_for (numbered 3)) ≡ told
  unfolding term_added
  cut_short e = rw (mask_cut s at e)

  module _ (m : ℕ) (e : mask_in s at ≡ Some m) where
    is_whole : whole 4 s at ≡ true
    is_whole = (mask_whole s at m e).0

    is_number : number_at 4 s at ≡ m
    is_number = (mask_whole s at m e).1

    pub unknown : ltb m (2 ^ n) ≡ false → stopped f (refused_for (numbered 6)) ≡ told
    unfolding term_added
    unknown k = rw (is_whole, is_number, k)

    module _ (k : ltb m (2 ^ n) ≡ true) where
      pub too_long_lem : (r : ℕ) → r ≡ length (sum_of (m ∷ []) f) → 64 < r → stopped f (refused_for (too_long r)) ≡ told
      unfolding term_added
      too_long_lem r z l =
          let h : leb (length (sum_of (m ∷ []) f)) 64 ≡ false = lt-leb _ 64 (rw z at l) in
          rw (is_whole, is_number, k, h, z)

      pub added : length (sum_of (m ∷ []) f) ≤ 64 → stopped (sum_of (m ∷ []) f) nothing ≡ told
      unfolding term_added
      added l =
          let h : leb (length (sum_of (m ∷ []) f)) 64 ≡ true = le-leb _ 64 l in
          rw (is_whole, is_number, k, h)
