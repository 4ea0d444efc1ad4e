-- Laws of the walk over records, whatever the reader: induction over the accepted records; one turn; and for a reader whose records lie in the bytes and
-- depend on no byte after them: what a refusal means, and that the first accepted records, alone, are walked through to their end.
use Rattle.std.specs.Prelude.{◌≡◌, Bool, cond, T, take}
use Rattle.std.proofs.Math.Path.{refl, sym, ap}
use Rattle.std.proofs.Common.{◌∙◌, leb→le, le→leb, length-take-le}
use Rattle.std.proofs.Math.Logic.{inl, inr}
use Rattle.std.proofs.Math.Bool.{true, false}
use mathlib.Core.List.{List, [], ◌++◌}
use Prim.Native.Nat.{ℕ, zero, suc, ◌+◌, ◌≤◌, ◌<◌}
use native.Mathlib.Omega.{arith}
use Rattle.std.proofs.Math.Dec.{leb, nleb→lt}
use Rattle.std.proofs.Math.ListN.{length}
use Rattle.refusal.specs.Refusal.{Refusal, numbered}
use Rattle.refusal.specs.Outcome.{Outcome, accepted, refused, unless_for, mapped, Stop, nothing, refused_for, Reached, refused_at}
use Rattle.refusal.specs.Tests.{TellsTerms}
use Rattle.refusal.specs.TestsLaws.{terms_told}
use Rattle.run.specs.BooleanLaws.{is_true, is_false, of_true}
use Rattle.walk.specs.Walk.{Progress, begun, Reader, next, over, walk, read_all, accepted_bytes, RefusedNext, verdict, onward, gathered}

-- ---- one outcome
-- what holds of every refusal, and of what follows a test that holds, holds behind the test
pub unless_ind : {A : Type 0} (P : Outcome A → Type 0) (b : Bool) (x : Refusal) {r : Outcome A} → ((x : Refusal) → P (refused x)) → (T b → P r) → P (unless_for b x r)
unless_ind P true x nay yea = yea tt
unless_ind P false x nay yea = nay x

pub mapped_ind : {A B : Type 0} (P : Outcome B → Type 0) (h : A → B) (r : Outcome A) → ((x : Refusal) → P (refused x))
    → ((q : A) → r ≡ accepted q → P (accepted (h q))) → P (mapped h r)
mapped_ind P h (accepted q) nay yea = yea q refl
mapped_ind P h (refused x) nay yea = nay x

-- what holds of what was accepted
abbrev pub IfAccepted : {A : Type 0} → (A → Type 0) → Outcome A → Type 0
IfAccepted Q (accepted q) = Q q
IfAccepted Q (refused x) = Unit {0}

module _ {S : Type 0} (R : Reader S) where
  -- ---- all records: what holds where a walk ends or is refused, and is carried back by each accepted record, holds of it and what it gathers
  pub walk_ind : {A : Type 0} (give : List ℕ → Progress S → Progress S → List A) (Q : Progress S → Reached (Progress S) → List A → Type 0) (s : List ℕ)
      → ((p : Progress S) → Q p (over R p) [])
      → ((p : Progress S) (x : Refusal) → R.on_record s p ≡ refused x → Q p (record { reached = p; stop = refused_for x }) [])
      → ((p q : Progress S) (F : Reached (Progress S)) (C : List A) → R.on_record s p ≡ accepted q → Q q F C → Q p F (give s p q ++ C))
      → (k : ℕ) (p : Progress S) → Q p (walk R k s p) (gathered R give k s p)
  unfolding walk gathered
  walk_ind give Q s at_end at_refusal back zero p = at_end p
  walk_ind give Q s at_end at_refusal back (suc k) p = go (leb (length s) p.at) (R.on_record s p) refl (λ q. walk_ind give Q s at_end at_refusal back k q)
    where
      go : (b : Bool) (r : Outcome (Progress S)) → R.on_record s p ≡ r → ((q : Progress S) → Q q (walk R k s q) (gathered R give k s q))
          → Q p (cond b (over R p) (next p (λ q. walk R k s q) r)) (cond b [] (onward (λ q. give s p q ++ gathered R give k s q) r))
      go true r e rest = at_end p
      go false (accepted q) e rest = back p q (walk R k s q) (gathered R give k s q) e (rest q)
      go false (refused x) e rest = at_refusal p x e

  -- what every accepted record keeps holds where a walk ends or is refused
  pub walk_keeps : (Q : Progress S → Type 0) (s : List ℕ) → ((p q : Progress S) → R.on_record s p ≡ accepted q → Q p → Q q)
      → (k : ℕ) (p : Progress S) → Q p → Q (walk R k s p).reached
  walk_keeps Q s keeps = walk_ind {A = ℕ} (λ s p q. []) (λ p F C. Q p → Q F.reached) s (λ p h. h) (λ p x e h. h) (λ p q F C e rest h. rest (keeps p q e h))

  -- a walk that nothing stops reaches a state that is complete
  pub walk_complete : (k : ℕ) (s : List ℕ) (p : Progress S) → (walk R k s p).stop ≡ nothing → T (R.complete (walk R k s p).reached.state)
  walk_complete k s = walk_ind {A = ℕ} (λ s p q. []) (λ p F C. F.stop ≡ nothing → T (R.complete F.reached.state)) s
      (λ p e. go (R.complete p.state) e) (λ p x d e. absurd (stopped e)) (λ p q F C e rest. rest) k
    where
      stopped : {x : Refusal} → refused_for x ≡ nothing → ⊥
      stopped e = let z : ◌≡◌ {A = ℕ} 0 1 = cc in omega arith

      go : (b : Bool) → cond b nothing (refused_for (numbered 15)) ≡ nothing → T b
      go true e = tt
      go false e = absurd (stopped e)

  -- ---- one turn
  pub stops : (j : ℕ) (s : List ℕ) (p : Progress S) → length s ≤ p.at → walk R j s p ≡ over R p
  unfolding walk
  stops zero s p h = refl
  stops (suc j) s p h = rw (is_true (leb (length s) p.at) (le→leb (length s) p.at h))

  more : (s : List ℕ) (p : Progress S) → p.at < length s → leb (length s) p.at ≡ false
  more s p h = is_false (leb (length s) p.at) (λ t. omega (arith, leb→le (length s) p.at t))

  pub steps : (j : ℕ) (s : List ℕ) (p q : Progress S) → p.at < length s → R.on_record s p ≡ accepted q → walk R (suc j) s p ≡ walk R j s q
  unfolding walk
  steps j s p q h e = rw (more s p h, e)

  pub refuses : (j : ℕ) (s : List ℕ) (p : Progress S) (x : Refusal) → p.at < length s → R.on_record s p ≡ refused x
      → walk R (suc j) s p ≡ record { reached = p; stop = refused_for x }
  unfolding walk
  refuses j s p x h e = rw (more s p h, e)

  module _ {A : Type 0} (give : List ℕ → Progress S → Progress S → List A) (j : ℕ) (s : List ℕ) (p : Progress S) where
    pub gathers_none : length s ≤ p.at → gathered R give j s p ≡ []
    unfolding gathered
    gathers_none h = go j
      where
        go : (j : ℕ) → gathered R give j s p ≡ []
        go zero = refl
        go (suc j) = rw (is_true (leb (length s) p.at) (le→leb (length s) p.at h))

    pub gathers : (q : Progress S) → p.at < length s → R.on_record s p ≡ accepted q → gathered R give (suc j) s p ≡ give s p q ++ gathered R give j s q
    unfolding gathered
    gathers q h e = rw (more s p h, e)

  -- a record that is refused is passed in no number of turns
  stays : (j : ℕ) (s : List ℕ) (p : Progress S) (x : Refusal) → p.at < length s → R.on_record s p ≡ refused x → (walk R j s p).reached ≡ p
  unfolding walk
  stays zero s p x h e = refl
  stays (suc j) s p x h e = ap (λ (w : Reached (Progress S)). w.reached) (refuses j s p x h e)

  -- a walk of more turns passes through where a walk of fewer comes
  pub passes : (i k : ℕ) (s : List ℕ) (p : Progress S) → (walk R (k + i) s p).reached ≡ (walk R i s (walk R k s p).reached).reached
  unfolding walk
  passes i zero s p = let e : 0 + i ≡ i = omega arith in ap (λ (n : ℕ). (walk R n s p).reached) e
  passes i (suc k) s p =
      let d : suc k + i ≡ suc (k + i) = omega arith in
      ap (λ (n : ℕ). (walk R n s p).reached) d ∙ go (leb (length s) p.at) refl (R.on_record s p) refl (λ q. passes i k s q)
    where
      go : (b : Bool) → leb (length s) p.at ≡ b → (r : Outcome (Progress S)) → R.on_record s p ≡ r
          → ((q : Progress S) → (walk R (k + i) s q).reached ≡ (walk R i s (walk R k s q).reached).reached)
          → (cond b (over R p) (next p (λ q. walk R (k + i) s q) r)).reached ≡ (walk R i s (cond b (over R p) (next p (λ q. walk R k s q) r)).reached).reached
      go true a r e rest = sym (ap (λ (x : Reached (Progress S)). x.reached) (stops i s p (leb→le (length s) p.at (of_true a))))
      go false a (accepted q) e rest = rest q
      go false a (refused x) e rest = sym (stays i s p x (nleb→lt (length s) p.at (rw a tt)) e)

  -- ---- what a refusal means: the end of the bytes before all was complete, or the record where the walk stopped, for its own reason
  over_refused : (p : Progress S) (x : Refusal) → (over R p).stop ≡ refused_for x → x ≡ numbered 15
  over_refused p x e = go (R.complete p.state) e
    where
      go : (b : Bool) → cond b nothing (refused_for (numbered 15)) ≡ refused_for x → x ≡ numbered 15
      go true d = let z : ◌≡◌ {A = ℕ} 0 1 = cc in let i : ⊥ = omega arith in absurd i
      go false d = cc

-- ---- where a record ends, if it is accepted; one that is the same in the first K bytes, if it ends there, is accepted in them
abbrev pub Ends : {S : Type 0} → ℕ → Outcome (Progress S) → Type 0
Ends n r = IfAccepted (λ q. q.at ≡ n) r

pub same_outcome : {S : Type 0} (n K : ℕ) (r t : Outcome (Progress S)) (q : Progress S) → Ends n r → (n ≤ K → t ≡ r) → q.at ≤ K → r ≡ accepted q → t ≡ accepted q
same_outcome n K r t q a h l e =
    let d : q.at ≡ n = rw e at a in
    h (omega arith) ∙ e

-- ---- an accepted record takes bytes that are there, counts as one, and is the same where no byte after it is there
pub record IsLocal {S : Type 0} (R : Reader S) : Type 0 where
  pub inside : (s : List ℕ) (p q : Progress S) → R.on_record s p ≡ accepted q → (p.at < q.at) × (q.at ≤ length s) × (q.records ≡ suc p.records)
  pub prefix : (s : List ℕ) (p q : Progress S) (K : ℕ) → K ≤ length s → q.at ≤ K → R.on_record s p ≡ accepted q → R.on_record (take K s) p ≡ accepted q

module _ {S : Type 0} (R : Reader S) (L : IsLocal R) where
  pub at_within : (k : ℕ) (s : List ℕ) (p : Progress S) → p.at ≤ length s → (walk R k s p).reached.at ≤ length s
  at_within k s p h = walk_keeps R (λ q. q.at ≤ length s) s (λ a b e g. (L.inside s a b e).1) k p h

  pub refused_record : (k : ℕ) (s : List ℕ) (p : Progress S) (x : Refusal) → length s ≤ p.at + k → (walk R k s p).stop ≡ refused_for x
      → RefusedNext R s (walk R k s p).reached x
  unfolding walk
  refused_record zero s p x h e = inl (omega arith, over_refused R p x e)
  refused_record (suc k) s p x h e = go (leb (length s) p.at) refl (R.on_record s p) refl (λ q l d. refused_record k s q x l d) e
    where
      go : (b : Bool) → leb (length s) p.at ≡ b → (r : Outcome (Progress S)) → R.on_record s p ≡ r
          → ((q : Progress S) → length s ≤ q.at + k → (walk R k s q).stop ≡ refused_for x → RefusedNext R s (walk R k s q).reached x)
          → (cond b (over R p) (next p (λ q. walk R k s q) r)).stop ≡ refused_for x → RefusedNext R s (cond b (over R p) (next p (λ q. walk R k s q) r)).reached x
      go true a r f rest d = inl (leb→le (length s) p.at (of_true a), over_refused R p x d)
      go false a (accepted q) f rest d = rest q (omega (arith, (L.inside s p q f).0)) d
      go false a (refused y) f rest d = inr (nleb→lt (length s) p.at (rw a tt), cc)

  -- as many turns as there are accepted records, or fewer, accept just so many
  pub turns_records : (k j : ℕ) (s : List ℕ) (p : Progress S) → k + p.records ≤ (walk R j s p).reached.records → (walk R k s p).reached.records ≡ k + p.records
  unfolding walk
  turns_records zero j s p h = omega arith
  turns_records (suc k) zero s p h = let x : ⊥ = omega arith in absurd x
  turns_records (suc k) (suc j) s p h = go (leb (length s) p.at) (R.on_record s p) refl (λ q l. turns_records k j s q l) h
    where
      go : (b : Bool) (r : Outcome (Progress S)) → R.on_record s p ≡ r
          → ((q : Progress S) → k + q.records ≤ (walk R j s q).reached.records → (walk R k s q).reached.records ≡ k + q.records)
          → suc k + p.records ≤ (cond b (over R p) (next p (λ q. walk R j s q) r)).reached.records
          → (cond b (over R p) (next p (λ q. walk R k s q) r)).reached.records ≡ suc k + p.records
      go true r e rest l = let x : ⊥ = omega arith in absurd x
      go false (accepted q) e rest l = let d : q.records ≡ suc p.records = (L.inside s p q e).2 in rest q (omega arith) ∙ omega arith
      go false (refused y) e rest l = let x : ⊥ = omega arith in absurd x

  -- ---- the bytes up to where a walk comes give the same walk, and end there
  -- from a progress on, with as many turns as bytes are left
  abbrev Comes : List ℕ → Progress S → Reached (Progress S) → Type 0
  Comes s p F = (p.at ≤ F.reached.at) × ((j K : ℕ) → K ≤ length s → F.reached.at ≡ K → K ≤ p.at + j → walk R j (take K s) p ≡ over R F.reached)

  Comes-here : (s : List ℕ) (p : Progress S) (F : Reached (Progress S)) → F.reached ≡ p → Comes s p F
  Comes-here s p F e = rw e (omega arith, λ j K l a f. stops R j (take K s) p (omega (arith, length-take-le K s l)))

  Comes-back : (s : List ℕ) (p q : Progress S) (F : Reached (Progress S)) → R.on_record s p ≡ accepted q → Comes s q F → Comes s p F
  Comes-back s p q F e rest =
      let d : p.at < q.at = (L.inside s p q e).0 in
      (omega (arith, d, rest.0), λ j K l a f. go d rest.0 K l a j f)
    where
      go : p.at < q.at → q.at ≤ F.reached.at → (K : ℕ) → K ≤ length s → F.reached.at ≡ K → (j : ℕ) → K ≤ p.at + j → walk R j (take K s) p ≡ over R F.reached
      go d g K l a zero f = let x : ⊥ = omega arith in absurd x
      go d g K l a (suc i) f =
          steps R i (take K s) p q (omega (arith, length-take-le K s l)) (L.prefix s p q K l (omega arith) e) ∙ rest.1 i K l a (omega arith)

  comes : (s : List ℕ) (k : ℕ) (p : Progress S) → Comes s p (walk R k s p)
  comes s = walk_ind R {A = ℕ} (λ s p q. []) (λ p F C. Comes s p F) s (λ p. Comes-here s p (over R p) refl)
      (λ p x e. Comes-here s p (record { reached = p; stop = refused_for x }) refl) (λ p q F C e rest. Comes-back s p q F e rest)

  -- wherever a walk comes in some number of turns, the bytes up to there are read to their end, and no record among them is refused
  pub records_prefix : (k : ℕ) (s : List ℕ) (x : S) → read_all R (take (walk R k s (begun x)).reached.at s) x ≡ over R (walk R k s (begun x)).reached
  records_prefix k s x =
      let K : ℕ = (walk R k s (begun x)).reached.at in
      let l : K ≤ length s = at_within k s (begun x) (omega arith) in
      (comes s k (begun x)).1 (length (take K s)) K l refl (omega (arith, length-take-le K s l))

  pub accepted_bytes_lem : (s : List ℕ) (x : S) → read_all R (accepted_bytes R s x) x ≡ over R (read_all R s x).reached
  accepted_bytes_lem s x = records_prefix (length s) s x

-- ---- what refusal 7 tells is what the record tells that comes next: the end of the bytes is 15
pub next_tells : {S : Type 0} (R : Reader S) (Q : ℕ → Type 0) (s : List ℕ) (p : Progress S) (x : Refusal) → RefusedNext R s p x → TellsTerms Q (R.on_record s p) → x.number ≡ 7
    → Q x.detail
next_tells R Q s p x (inl e) h z = let i : ⊥ = omega (arith, ap (λ (y : Refusal). y.number) e.1) in absurd i
next_tells R Q s p x (inr e) h z = terms_told Q (R.on_record s p) x h e.1 z

-- ---- what is told tells how far the walk came, and what stopped it
pub told_refused : {A : Type 0} (r : ℕ) (p : A) (t : Stop) (K : ℕ) (x : Refusal) → verdict r p t ≡ refused_at K x → (K ≡ suc r) × (t ≡ refused_for x)
told_refused r p nothing K x e = let z : ◌≡◌ {A = ℕ} 0 1 = cc in let y : ⊥ = omega arith in absurd y
told_refused r p (refused_for y) K x e = (cc, cc)
