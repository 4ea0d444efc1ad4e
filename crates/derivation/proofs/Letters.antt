-- What a record of each kind does is what a record of its letter does.
use mathlib.Core.Path.{◌≡◌, refl, sym, ap, ◌∙◌}
use mathlib.Core.Bool.{Bool, true, false, cond}
use mathlib.Core.List.{List}
use Prim.Native.Nat.{ℕ}
use lib.Dec.{eqb}
use lib.ListN.{get_or}
use Rattle.refusal.specs.Refusal.{numbered}
use Rattle.refusal.specs.Outcome.{Outcome, refused, after}
use Rattle.refusal.specs.declared.Reason.{Reason}
use Rattle.std.specs.declared.result.Result.{Result}
use Rattle.walk.specs.Held.{progress_at, Does}
use Rattle.calculus.specs.declared.Rule.TheVariants.{Sum, Prod}
use Rattle.calculus.specs.declared.Mode.TheVariants.{Plain, Signed}
use Rattle.record.specs.Letters.{letter_n, letter_z, letter_m, letter_k, letter_s, letter_p, letter_e, letter_b}
use Rattle.walk.specs.Walk.{Progress}
use Rattle.derivation.specs.Derivation.{State, on_mode, on_term, on_choice, on_step, on_hard, on_claim, on_record}
use Rattle.derivation.specs.Held.{kind_of}
use Rattle.derivation.specs.declared.kind.Kind.{Kind}
use Rattle.derivation.specs.declared.kind.Kind.TheVariants.{Start, Term, Choice, Step, Hard, Claim}
use Rattle.std.specs.declared.option.Option.{Option}
use Rattle.std.specs.declared.option.Option.TheVariants.{Some, None}

module _ (n : ℕ) (H : List (List ℕ)) (s : List ℕ) (p : Progress State) where
  abbrev pub on_kind : Option Kind → Outcome (Progress State)
  on_kind (Some (Start d)) = on_mode d p
  on_kind (Some Term) = on_term n s p
  on_kind (Some Choice) = on_choice p
  on_kind (Some (Step r)) = on_step H r s p
  on_kind (Some Hard) = on_hard H s p
  on_kind (Some Claim) = on_claim s p
  on_kind None = refused (numbered 4)

  of_kind : on_record n H s p ≡ on_kind (kind_of (get_or s p.at 0))
  unfolding on_record
  of_kind = go (eqb kind letter_n) (eqb kind letter_z) (eqb kind letter_m) (eqb kind letter_k) (eqb kind letter_s) (eqb kind letter_p) (eqb kind letter_e) (eqb kind letter_b)
    where
      kind : ℕ
      kind = get_or s p.at 0

      go : (a b c d e f g h : Bool)
          → cond a (on_mode Plain p) (cond b (on_mode Signed p) (cond c (on_term n s p) (cond d (on_choice p)
          (cond e (on_step H Sum s p) (cond f (on_step H Prod s p) (cond g (on_hard H s p) (cond h (on_claim s p) (refused (numbered 4)))))))))
          ≡ on_kind (cond a (Some (Start Plain)) (cond b (Some (Start Signed)) (cond c (Some Term) (cond d (Some Choice)
          (cond e (Some (Step Sum)) (cond f (Some (Step Prod)) (cond g (Some Hard) (cond h (Some Claim) None))))))))
      go true b c d e f g h = refl
      go false true c d e f g h = refl
      go false false true d e f g h = refl
      go false false false true e f g h = refl
      go false false false false true f g h = refl
      go false false false false false true g h = refl
      go false false false false false false true h = refl
      go false false false false false false false true = refl
      go false false false false false false false false = refl

  pub is_kind : (k : Option Kind) → kind_of (get_or s p.at 0) ≡ k → on_record n H s p ≡ on_kind k
  is_kind k e = of_kind ∙ ap on_kind e

-- the same of what code leaves
pub as_kind : (n : ℕ) (H : List (List ℕ)) (s : List ℕ) (at : ℕ) (k : Option Kind) → kind_of (get_or s at 0) ≡ k → (x y : State) (r : Result ℕ Reason)
    → Does (λ p. on_kind n H s p k) at x r y → Does (on_record n H s) at x r y
as_kind n H s at k e x y r d i = d i ∙ ap (after (progress_at at i x)) (sym (is_kind n H s (progress_at at i x) k e))
