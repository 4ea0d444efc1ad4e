-- Of two derivations where one continues the other the degree does not fall. Nothing follows an accepted claim, so a confirmed derivation is continued from where its claim
-- stands, its last 9 bytes; the claim changes no line, and the degree is that of the bytes before it.
use Rattle.std.specs.Prelude.{◌≡◌, ◌⊎◌, Bool, cond, not, ◌&&◌, leb, ℤ}
use Rattle.std.proofs.Math.Path.{refl, ap}
use Rattle.std.proofs.Common.{sym, subst, inl, inr}
use Rattle.std.proofs.Math.Bool.{true, false}
use mathlib.Core.List.{List, [], ◌++◌}
use Prim.Native.Nat.{ℕ, zero, suc, ◌+◌, ◌≤◌, ◌<◌, max}
use native.Mathlib.Omega.{arith}
use Rattle.std.proofs.Math.Dec.{T, nleb→lt}
use Rattle.std.proofs.Math.ListN.{length, length-append}
use Rattle.std.proofs.Math.Seq.{take-append_seam}
use Rattle.refusal.specs.Outcome.{Outcome, accepted, refused}
use Rattle.run.specs.BooleanLaws.{not_both}
use Rattle.configuration.specs.Configuration.{Line, some}
use Rattle.walk.specs.Walk.{Progress, begun, next, over, walk, onward, gathered}
use Rattle.walk.specs.WalkLaws.{IfAccepted, walk_ind, gathers}
use Rattle.derivation.specs.Derivation.{State, fresh, going, on_record, checking, largest, degree_in, left_after, derivation_degree, confirmed, check_derivation}
use Rattle.derivation.proofs.DerivationLaws.{record_ind, reached, confirmed_degree, confirmed_closed}
use Rattle.derivation.proofs.RefusedLaws.{record_more, checking_local}
use Rattle.derivation.proofs.DegreeLaws.{degree_ahead, degree_end}
use Rattle.run.specs.BooleanLaws as B

-- ---- more bytes
longer : (n : ℕ) (H : List (List ℕ)) (s t : List ℕ) (k j : ℕ) (p : Progress State) → k ≤ j → degree_ahead n H k s p ≤ degree_ahead n H j (s ++ t) p
unfolding gathered largest
longer n H s t zero j p h = omega arith
longer n H s t (suc k) zero p h = let z : ⊥ = omega arith in absurd z
longer n H s t (suc k) (suc j) p h = go (leb (length s) p.at) refl (on_record n H s p) refl (λ q. longer n H s t k j q (omega arith))
  where
    go : (b : Bool) → leb (length s) p.at ≡ b → (r : Outcome (Progress State)) → on_record n H s p ≡ r
        → ((q : Progress State) → degree_ahead n H k s q ≤ degree_ahead n H j (s ++ t) q)
        → largest degree_in (cond b [] (onward (λ q. left_after s p q ++ gathered (checking n H) left_after k s q) r)) ≤ degree_ahead n H (suc j) (s ++ t) p
    go true a r e rest = omega arith
    go false a (accepted q) e rest =
        let l : p.at < length (s ++ t) = omega (arith, nleb→lt (length s) p.at (rw a tt), length-append s t) in
        rw (gathers (checking n H) left_after j (s ++ t) p q l (record_more n H s t p q e)) (omega (arith, rest q))
    go false a (refused y) e rest = omega arith

-- whatever the bytes are
pub continued_degree : (s t : List ℕ) (n : ℕ) (H : List (List ℕ)) (L : List Line) → derivation_degree s n H L ≤ derivation_degree (s ++ t) n H L
unfolding derivation_degree largest
continued_degree s t n H L = omega (arith, longer n H s t (length s) (length (s ++ t)) (begun (fresh L)) (omega (arith, length-append s t)))

-- so it is at least that of what checking the bytes up to any place leaves: document 01's standing after an accepted record is left by the bytes up to its end
pub prefix_degree : (s t : List ℕ) (n : ℕ) (H : List (List ℕ)) (L : List Line) → degree_in (check_derivation s n H L).lines ≤ derivation_degree (s ++ t) n H L
prefix_degree s t n H L = omega (arith, degree_end s n H L, continued_degree s t n H L)

-- ---- the claim
-- an accepted claim takes 9 bytes and leaves the lines as they were
record Claimed (p q : Progress State) : Type 0 where
  ends : q.at ≡ p.at + 9
  lines : q.state.lines ≡ p.state.lines
  started : T q.state.started
  closed : T q.state.closed

claim_or_not : (n : ℕ) (H : List (List ℕ)) (s : List ℕ) (p q : Progress State) → on_record n H s p ≡ accepted q → (q.state.closed ≡ p.state.closed) ⊎ Claimed p q
claim_or_not n H s p q e =
    let x : State = p.state in
    rw e at (record_ind n H s p (IfAccepted (λ q. (q.state.closed ≡ p.state.closed) ⊎ Claimed p q))
    (λ k. tt) (λ d l h. inl refl) (λ g h e. inl refl) (λ l h. inl refl) (λ r w size L h z i e. inl refl)
    (λ w h i j k l. inr (record {
      ends = refl;
      lines = refl;
      started = B.left x.started (not x.closed) (B.left (going x) (not x.chosen && not (some x.work)) h);
      closed = tt;
    })))

-- no record is accepted after it
none_follows : (n : ℕ) (H : List (List ℕ)) (s : List ℕ) (p q : Progress State) → T p.state.started → T p.state.closed → on_record n H s p ≡ accepted q → ⊥
none_follows n H s p q b c e =
    let x : State = p.state in
    let over : T (going x) → ⊥ = λ h. not_both x.closed c (B.right x.started (not x.closed) h) in
    rw e at (record_ind n H s p (IfAccepted (λ q. ⊥))
    (λ k. tt) (λ d l h. not_both x.started b h) (λ g h e. over h) (λ l h. over (B.left (going x) (not x.chosen) h))
    (λ r w size L h z i e. over (B.left (going x) x.chosen h)) (λ w h i j k l. over (B.left (going x) (not x.chosen && not (some x.work)) h)))

none_met : (n : ℕ) (H : List (List ℕ)) (s : List ℕ) (k : ℕ) (p : Progress State) → T p.state.started → T p.state.closed → gathered (checking n H) left_after k s p ≡ []
unfolding gathered
none_met n H s zero p b c = refl
none_met n H s (suc k) p b c = go (leb (length s) p.at) (on_record n H s p) refl
  where
    go : (b : Bool) (r : Outcome (Progress State)) → on_record n H s p ≡ r → cond b [] (onward (λ q. left_after s p q ++ gathered (checking n H) left_after k s q) r) ≡ []
    go true r e = refl
    go false (accepted q) e = absurd (none_follows n H s p q b c e)
    go false (refused y) e = refl

-- ---- bytes that end with 9 more, where a claim is reached
module _ (n : ℕ) (H : List (List ℕ)) (s c : List ℕ) (l : length c ≡ 9) where
  abbrev all : List ℕ
  all = s ++ c

  abbrev Open : Progress State → Type 0
  Open p = T (not p.state.closed)

  stays_open : (p q : Progress State) → q.state.closed ≡ p.state.closed → Open p → Open q
  stays_open p q f o = subst (λ (b : Bool). T (not b)) (sym f) o

  -- up to the claim there is room for it
  room : (k : ℕ) (p : Progress State) → Open p → T (walk (checking n H) k all p).reached.state.closed → p.at + 9 ≤ length all
  room = walk_ind (checking n H) {A = ℕ} (λ s p q. []) (λ p F C. Open p → T F.reached.state.closed → p.at + 9 ≤ length all) all
      (λ p o d. absurd (not_both p.state.closed d o)) (λ p m e o d. absurd (not_both p.state.closed d o))
      (λ p q F C e rest o d. go p q e (claim_or_not n H all p q e) o (λ u. rest u d))
    where
      go : (p q : Progress State) → on_record n H all p ≡ accepted q → (q.state.closed ≡ p.state.closed) ⊎ Claimed p q → Open p → (Open q → q.at + 9 ≤ length all)
          → p.at + 9 ≤ length all
      go p q e (inl f) o rest = omega (arith, ((checking_local n H).inside all p q e).0, rest (stays_open p q f o))
      go p q e (inr f) o rest = omega (arith, f.ends, ((checking_local n H).inside all p q e).1)

  -- a record before it is a record of s
  record_less : (p q : Progress State) → on_record n H all p ≡ accepted q → q.at ≤ length s → on_record n H s p ≡ accepted q
  record_less p q e h =
      subst (λ (z : List ℕ). on_record n H z p ≡ accepted q) (take-append_seam s c)
      ((checking_local n H).prefix all p q (length s) (omega (arith, length-append s c)) h e)

  -- what one record and all that follows it meet
  one_more : (k j : ℕ) (p q : Progress State) → length s ≤ p.at + j → on_record n H all p ≡ accepted q → (q.state.closed ≡ p.state.closed) ⊎ Claimed p q → Open p
      → T (walk (checking n H) k all q).reached.state.closed
      → ((i : ℕ) → length s ≤ q.at + i → Open q → degree_ahead n H k all q ≤ max (degree_in q.state.lines) (degree_ahead n H i s q))
      → max (degree_in q.state.lines) (degree_ahead n H k all q) ≤ max (degree_in p.state.lines) (degree_ahead n H j s p)
  unfolding largest
  one_more k zero p q h e (inl f) o d rest =
      let z : ⊥ = omega (arith, room k q (stays_open p q f o) d, ((checking_local n H).inside all p q e).0, length-append s c, l) in
      absurd z
  one_more k (suc i) p q h e (inl f) o d rest =
      let u : Open q = stays_open p q f o in
      let a : p.at < q.at = ((checking_local n H).inside all p q e).0 in
      let b : q.at ≤ length s = omega (arith, room k q u d, length-append s c, l) in
      rw (gathers (checking n H) left_after i s p q (omega arith) (record_less p q e b)) (omega (arith, rest i (omega arith) u))
  one_more k j p q h e (inr f) o d rest = omega (arith, ap degree_in f.lines, ap (largest degree_in) (none_met n H all k q f.started f.closed))

  -- what is met in all the bytes is met before the claim
  before_claim : (k j : ℕ) (p : Progress State) → length s ≤ p.at + j → Open p → T (walk (checking n H) k all p).reached.state.closed
      → degree_ahead n H k all p ≤ max (degree_in p.state.lines) (degree_ahead n H j s p)
  unfolding walk gathered largest
  before_claim zero j p h o d = omega arith
  before_claim (suc k) j p h o d = go (leb (length all) p.at) (on_record n H all p) refl d (λ q i m u v. before_claim k i q m u v)
    where
      go : (b : Bool) (r : Outcome (Progress State)) → on_record n H all p ≡ r
          → T (cond b (over (checking n H) p) (next p (λ q. walk (checking n H) k all q) r)).reached.state.closed
          → ((q : Progress State) (i : ℕ) → length s ≤ q.at + i → Open q → T (walk (checking n H) k all q).reached.state.closed
          → degree_ahead n H k all q ≤ max (degree_in q.state.lines) (degree_ahead n H i s q))
          → largest degree_in (cond b [] (onward (λ q. left_after all p q ++ gathered (checking n H) left_after k all q) r)) ≤ max (degree_in p.state.lines) (degree_ahead n H j s p)
      go true r e v rest = omega arith
      go false (accepted q) e v rest = one_more k j p q h e (claim_or_not n H all p q e) o v (λ i m u. rest q i m u v)
      go false (refused y) e v rest = omega arith

pub claim_degree : (s c : List ℕ) (n : ℕ) (H : List (List ℕ)) (L : List Line) → length c ≡ 9 → T (reached (s ++ c) n H L).closed
    → derivation_degree (s ++ c) n H L ≡ derivation_degree s n H L
unfolding derivation_degree largest
claim_degree s c n H L l d = omega (arith, continued_degree s c n H L, before_claim n H s c l (length (s ++ c)) (length s) (begun (fresh L)) (omega arith) tt d)

-- of two confirmed derivations, one of which has the bytes of the other up to its claim and goes on in some way, it does not have the smaller degree
pub continued_confirmed : (s c t : List ℕ) (n : ℕ) (H : List (List ℕ)) (L : List Line) (v w : ℤ) (D E : ℕ) → length c ≡ 9
    → (check_derivation (s ++ c) n H L).told ≡ confirmed v D → (check_derivation (s ++ t) n H L).told ≡ confirmed w E → D ≤ E
continued_confirmed s c t n H L v w D E l a b = omega (
  arith,
  confirmed_degree (s ++ c) n H L v D a,
  claim_degree s c n H L l (confirmed_closed (s ++ c) n H L v D a),
  continued_degree s t n H L,
  confirmed_degree (s ++ t) n H L w E b,
)
