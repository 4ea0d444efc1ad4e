-- The walk over the records as code goes it, whatever the reader: one record further, and where it ends.
use mathlib.Core.Path.{◌≡◌, sym, ap, ◌∙◌}
use mathlib.Core.List.{List}
use Prim.Native.Nat.{ℕ, suc, ◌-◌, ◌≤◌, ◌<◌}
use native.Mathlib.Omega.{arith}
use lib.ListN.{length}
use Rattle.refusal.specs.Refusal.{Refusal}
use Rattle.refusal.specs.Outcome.{nothing, refused_for, Reached, after}
use Rattle.refusal.specs.OutcomeLaws.{after-accepted, after-refused}
use Rattle.walk.specs.Walk.{Progress, Reader, over, walk}
use Rattle.walk.specs.WalkLaws.{stops, steps, refuses, IsLocal}

module _ {S : Type 0} (R : Reader S) (s : List ℕ) where
  -- what is left to walk from a progress on gives the whole
  abbrev pub Leads : Reached (Progress S) → Progress S → Type 0
  Leads w q = walk R (length s - q.records) s q ≡ w

  pub begins : (w : Reached (Progress S)) (q : Progress S) → q.records ≡ 0 → walk R (length s) s q ≡ w → Leads w q
  begins w q e h =
      let k : length s - q.records ≡ length s = omega arith in
      ap (λ (k : ℕ). walk R k s q) k ∙ h

  pub ends : (w : Reached (Progress S)) (q : Progress S) → length s ≤ q.at → Leads w q → over R q ≡ w
  ends w q l h = sym (stops R (length s - q.records) s q l) ∙ h

  -- ---- one record, and what its answer says
  module _ (q r : Progress S) where
    module _ (L : IsLocal R) (e : ◌≡◌ {A = Reached (Progress S)} (record { reached = r; stop = nothing }) (after q (R.on_record s q))) where
      pub inside : (q.at < r.at) × (r.at ≤ length s) × (r.records ≡ suc q.records)
      inside = L.inside s q r (after-accepted q r (R.on_record s q) e)

      pub next_leads : (w : Reached (Progress S)) → q.records ≤ q.at → q.at < length s → Leads w q → Leads w r
      next_leads w c l h =
          let more : length s - q.records ≡ suc (length s - suc q.records) = omega arith in
          ap (λ (k : ℕ). walk R (length s - k) s r) inside.2
          ∙ sym (steps R (length s - suc q.records) s q r l (after-accepted q r (R.on_record s q) e)) ∙ (rw more at h)

    module _ (x : Refusal) (e : ◌≡◌ {A = Reached (Progress S)} (record { reached = r; stop = refused_for x }) (after q (R.on_record s q))) where
      pub unmoved : r ≡ q
      unmoved = (after-refused q r x (R.on_record s q) e).1

      pub ends_refused : (w : Reached (Progress S)) → q.records ≤ q.at → q.at < length s → Leads w q → record { reached = r; stop = refused_for x } ≡ w
      ends_refused w c l h =
          let more : length s - q.records ≡ suc (length s - suc q.records) = omega arith in
          ap (λ (p : Progress S). record { reached = p; stop = refused_for x }) unmoved
          ∙ sym (refuses R (length s - suc q.records) s q x l (after-refused q r x (R.on_record s q) e).0) ∙ (rw more at h)
