-- The walk over the records as code goes it: what holds before each turn, and what is told where it ends.
use mathlib.Core.Path.{◌≡◌, refl, sym, ap, ap₂, subst}
use mathlib.Core.List.{List}
use Prim.Native.Nat.{ℕ, suc, ◌+◌, ◌≤◌, ◌<◌, max}
use native.Mathlib.Numerals.{add-one}
use native.Mathlib.Omega.{arith}
use lib.Dec.{T}
use lib.IntN.{ℤ}
use lib.ListN.{length}
use Rattle.std.specs.declared.option.Option.{Option}
use Rattle.std.specs.declared.option.Option.TheVariants.{Some, None}
use Rattle.std.specs.Option.{option_map, ok_or}
use Rattle.refusal.specs.declared.Reason.TheVariants.{Unfinished}
use Rattle.derivation.specs.declared.Confirmed.{Confirmed}
use Rattle.std.specs.declared.result.Result.{Result}
use Rattle.std.specs.declared.result.Result.TheVariants.{Ok, Err}
use Rattle.refusal.specs.Outcome.{accepted, nothing, refused_for, Reached, after, refused_at}
use Rattle.refusal.specs.OutcomeLaws.{after-accepted}
use Rattle.refusal.specs.Refusal.{refusal_of}
use Rattle.refusal.specs.declared.Reason.{Reason}
use Rattle.refusal.specs.declared.Refused.{Refused}
use Rattle.configuration.specs.Configuration.{Line, is_configuration}
use Rattle.configuration.specs.LineLaws.{polynomial_run, configuration_parts}
use Rattle.configuration.specs.Made.{Made}
use Rattle.hard.specs.Hard.{is_hard_list, hard_at}
use Rattle.hard.specs.HardLaws.{hard_polynomial}
use Rattle.walk.specs.Walk.{Progress, past, over}
use Rattle.walk.specs.Held.{progress_at, Does}
use Rattle.walk.proofs.Leads.{Leads, begins, ends, inside, next_leads, ends_refused}
use Rattle.derivation.specs.Derivation.{State, on_record, checking, degree_in, derivation_degree, Confirmation, told_of_check}
use Rattle.derivation.specs.Held.{Begun, state_in, opening, IsUsable}
use Rattle.derivation.proofs.DerivationLaws.{IsSound, IsSound-fresh, IsSound-record, walked, made_by}
use Rattle.derivation.proofs.DegreeLaws.{lines_run}
use Rattle.derivation.proofs.RefusedLaws.{checking_local}
use Rattle.derivation.proofs.Degrees.{Meets, Meets-start, Meets-next, meets_end}

-- ---- what a step asks
usable : (n : ℕ) (H : List (List ℕ)) → T (is_hard_list n H) → (x : State) → IsSound n x → IsUsable H x
usable n H a x o = let k : _ = configuration_parts n x.lines o.configuration in (
  k.weights,
  (polynomial_run n 32 x.first k.variables o.operand).0,
  (polynomial_run n 32 x.work k.variables o.polynomial).0,
  lines_run n x.lines o.configuration,
  λ i. (polynomial_run n 32 (hard_at H i) k.variables (hard_polynomial n i H a)).0,
)

-- what is still to be walked gives the whole, x, and so do the degrees that are still to be met, D
pub record Walks (n : ℕ) (H : List (List ℕ)) (s : List ℕ) (D : ℕ) (x : Reached (Progress State)) (at k : ℕ) (b : Begun) (L : List Line) : Type 0 where
  pub sound : IsSound n (state_in b L)
  pub usable_now : IsUsable H (state_in b L)
  pub within : at ≤ length s
  pub counted : k ≤ at
  pub met : degree_in L ≤ b.degree
  pub leads : Leads (checking n H) s x (progress_at at k (state_in b L))
  pub meets : Meets n H s D b.degree (progress_at at k (state_in b L))

-- before the first record
pub starts : (n : ℕ) (H : List (List ℕ)) (s : List ℕ) (L : List Line) → T (is_hard_list n H) → T (is_configuration n L)
    → Walks n H s (derivation_degree s n H L) (walked s n H L) 0 0 (opening L) L
starts n H s L a c = record {
  sound = IsSound-fresh n L c;
  usable_now = usable n H a (state_in (opening L) L) (IsSound-fresh n L c);
  within = omega arith;
  counted = omega arith;
  met = omega arith;
  leads = begins (checking n H) s (walked s n H L) (progress_at 0 0 (state_in (opening L) L)) refl refl;
  meets = Meets-start n H s L;
}

module _ (n : ℕ) (H : List (List ℕ)) (s : List ℕ) (D : ℕ) (x : Reached (Progress State)) (at k : ℕ) (b : Begun) (L : List Line)
    (inv : Walks n H s D x at k b L) where
  abbrev here : Progress State
  here = progress_at at k (state_in b L)

  -- one record
  module _ (h : at < length s) (r : Result ℕ Reason) (c : Begun) (M : List Line) (d : Does (on_record n H s) at (state_in b L) r (state_in c M)) where
    module _ (size : ℕ) (e : r ≡ Ok size) where
      abbrev next : Progress State
      next = past here size (state_in c M)

      told : ◌≡◌ {A = Reached (Progress State)} (record { reached = next; stop = nothing }) (after here (on_record n H s here))
      told = rw e at (d k)

      lies : (at < at + size) × (at + size ≤ length s) × (suc k ≡ suc k)
      lies = inside (checking n H) s here next (checking_local n H) told

      pub record_fits : (at < at + size) × (at + size ≤ length s)
      record_fits = (lies.0, lies.1)

      pub goes_on : T (is_hard_list n H) → c.degree ≡ max b.degree (degree_in M) → Walks n H s D x (at + size) (k + 1) c M
      goes_on a m =
          let e : on_record n H s here ≡ accepted next = after-accepted here next (on_record n H s here) told in
          let o : IsSound n (state_in c M) = IsSound-record n H a s here next e inv.sound in
          rw (add-one k) (record {
            sound = o;
            usable_now = usable n H a (state_in c M) o;
            within = lies.1;
            counted = omega (arith, lies, inv.counted);
            met = omega (arith, m);
            leads = next_leads (checking n H) s here next (checking_local n H) told x inv.counted h inv.leads;
            meets = subst (λ (j : ℕ). Meets n H s D j next) (sym m) (Meets-next n H s D b.degree here inv.meets next inv.counted h e refl);
          })

    pub refused_there : (reason : Reason) → r ≡ Err reason
        → ◌≡◌ {A = Made Confirmation} (record { variables = n; lines = M; told = refused_at (k + 1) (refusal_of reason) }) (made_by n D x)
    refused_there reason e =
        let q : Progress State = record { at = at; records = k; state = state_in c M } in
        let told : ◌≡◌ {A = Reached (Progress State)} (record { reached = q; stop = refused_for (refusal_of reason) }) (after here (on_record n H s here)) = rw e at (d k) in
        rw (add-one k) (ap (made_by n D) (ends_refused (checking n H) s here q (refusal_of reason) told x inv.counted h inv.leads))

  -- the end of the bytes
  module _ (h : length s ≤ at) where
    told_over : made_by n b.degree (over (checking n H) here) ≡ made_by n D x
    told_over = ap₂ (made_by n) (meets_end n H s D b.degree here inv.meets h) (ends (checking n H) s x here h inv.leads)

    pub ends_there : (o : Option Confirmed) → o ≡ option_map (λ w. record { claim = w; degree = b.degree }) b.claim → (e : Refused) → e.record ≡ k + 1 → e.reason ≡ Unfinished
        → ◌≡◌ {A = Made Confirmation} (record { variables = n; lines = L; told = told_of_check (ok_or o e) }) (made_by n D x)
    ends_there o i e j y = go b.claim refl
      where
        go : (w : Option ℤ) → b.claim ≡ w → ◌≡◌ {A = Made Confirmation} (record { variables = n; lines = L; told = told_of_check (ok_or o e) }) (made_by n D x)
        go None h = rw (i, h, j, y, add-one k) (rw h at told_over)
        go (Some w) h = rw (i, h) (rw h at told_over)
