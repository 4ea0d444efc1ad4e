-- What each record does, by the tests that it fails or passes in their order, as code has found them.
use mathlib.Core.Path.{◌≡◌, refl, sym, ap, ap₂, ◌∙◌}
use mathlib.Core.Bool.{Bool, true, false, cond, not, ◌&&◌}
use mathlib.Core.List.{List, [], ◌∷◌}
use Prim.Native.Nat.{ℕ, suc, ◌+◌, ◌^◌, ◌≤◌, ◌<◌}
use native.Mathlib.Omega.{arith}
use lib.Dec.{leb, ltb}
use lib.IntN.{ℤ}
use lib.ListN.{length, get_or}
use borrow.Author.Tests.{lt-leb, le-leb, lt-ltb, ne_eqb}
use Rattle.refusal.specs.Refusal.{Refusal, numbered, too_long}
use Rattle.refusal.specs.Outcome.{Outcome, accepted, refused, unless, passing, mapped, nothing, refused_for, Told, refused_at}
use Rattle.refusal.specs.OutcomeLaws.{unless_fails, unless_passes}
use Rattle.polynomial.specs.Polynomial.{clause_of, terms_of, measured_of}
use Rattle.polynomial.specs.declared.Measured.{Measured}
use Rattle.configuration.specs.Limits.{short}
use Rattle.record.specs.Letters.{letter_v, letter_m, letter_w, letter_c, letter_h}
use Rattle.record.specs.Record.{whole, number_at, signed_at, byte_in, amount_in, clause_in}
use Rattle.walk.specs.Walk.{Progress, past, verdict}
use Rattle.walk.specs.Work.{term_added}
use Rattle.polynomial.specs.PolynomialLaws.{terms_of_lem}
use Rattle.problem.specs.Item.{weighted, hard, Holding}
use Rattle.problem.specs.ItemLaws.{joined}
use Rattle.problem.specs.Problem.{State, having, weight_fits, with_item, on_variables, on_term, on_weight, on_clause, on_hard, on_record, filed}
use Rattle.record.proofs.Bodies.{byte_cut, byte_whole, amount_cut, amount_whole, clause_cut, clause_whole}
use Rattle.record.specs.declared.Clause.{Clause}
use Rattle.std.specs.declared.option.Option.TheVariants.{Some, None}

-- ---- out of place
module _ (s : List ℕ) (q : Progress State) where
  pub second : q.state.started ≡ true → refused (numbered 4) ≡ on_variables s q
  second e = unless_fails (not q.state.started) _ _ (ap not e)

  module _ (e : q.state.started ≡ false) where
    pub term_early : refused (numbered 4) ≡ on_term s q
    term_early = unless_fails q.state.started _ _ e

    pub weight_early : refused (numbered 4) ≡ on_weight s q
    weight_early = unless_fails q.state.started _ _ e

    pub clause_early : refused (numbered 4) ≡ on_clause s q
    clause_early = unless_fails q.state.started _ _ e

-- ---- H
module _ (q : Progress State) where
  pub hard_early : q.state.started ≡ false → refused (numbered 4) ≡ on_hard q
  hard_early e = unless_fails q.state.started _ _ e

  module _ (e : q.state.started ≡ true) where
    abbrev listed : ℕ
    listed = length q.state.holding.hard

    abbrev with_held : Holding → Progress State
    with_held x = past q 1 (having [] x q.state)

    pub hard_full : listed ≡ 16 → refused (numbered 18) ≡ on_hard q
    hard_full k = unless_passes q.state.started _ _ _ e (ap (mapped with_held) (unless_fails (ltb listed 16) _ _ (ap (λ (n : ℕ). ltb n 16) k)))

    pub hard_in_lem : listed < 16 → accepted (with_held (joined (hard q.state.work) q.state.holding)) ≡ on_hard q
    hard_in_lem l = unless_passes q.state.started _ _ _ e (ap (mapped with_held) (unless_passes (ltb listed 16) _ _ _ (lt-ltb listed 16 l) refl))

-- ---- V
module _ (s : List ℕ) (q : Progress State) (e : q.state.started ≡ false) where
  pub variables_cut : byte_in s (q.at + 1) ≡ None → refused (numbered 3) ≡ on_variables s q
  variables_cut k = unless_passes (not q.state.started) _ _ _ (ap not e) (unless_fails (whole 1 s (q.at + 1)) _ _ (byte_cut s (q.at + 1) k))

  module _ (v : ℕ) (k : byte_in s (q.at + 1) ≡ Some v) where
    read : (whole 1 s (q.at + 1) ≡ true) × (number_at 1 s (q.at + 1) ≡ v)
    read = byte_whole s (q.at + 1) v k

    pub too_many : 32 < v → refused (numbered 5) ≡ on_variables s q
    too_many l =
        unless_passes (not q.state.started) _ _ _ (ap not e) (unless_passes (whole 1 s (q.at + 1)) _ _ _ read.0
        (unless_fails (leb (number_at 1 s (q.at + 1)) 32) _ _ (lt-leb (number_at 1 s (q.at + 1)) 32 (rw read.1 l))))

    pub variables_set : v ≤ 32 → accepted (past q 2 (record { started = true; variables = v; work = q.state.work; holding = q.state.holding })) ≡ on_variables s q
    variables_set l =
        unless_passes (not q.state.started) _ _ _ (ap not e) (unless_passes (whole 1 s (q.at + 1)) _ _ _ read.0
        (unless_passes (leb (number_at 1 s (q.at + 1)) 32) _ _ _ (le-leb (number_at 1 s (q.at + 1)) 32 (rw read.1 l))
        (ap (λ (n : ℕ). accepted (past q 2 (record { started = true; variables = n; work = q.state.work; holding = q.state.holding }))) (sym read.1))))

-- ---- M
module _ (s : List ℕ) (q : Progress State) (e : q.state.started ≡ true) where
  abbrev sum : Outcome (List ℕ)
  sum = term_added q.state.variables s (q.at + 1) q.state.work

  abbrev with_work : List ℕ → Progress State
  with_work f = past q 5 (having f q.state.holding q.state)

  pub term_not : (x : Refusal) → sum ≡ refused x → refused x ≡ on_term s q
  term_not x k = unless_passes q.state.started _ _ _ e (ap (mapped with_work) (sym k))

  pub term_kept : (g : List ℕ) → sum ≡ accepted g → accepted (with_work g) ≡ on_term s q
  term_kept g k = unless_passes q.state.started _ _ _ e (ap (mapped with_work) (sym k))

  -- ---- W
  pub weight_cut : amount_in s (q.at + 1) ≡ None → refused (numbered 3) ≡ on_weight s q
  weight_cut k = unless_passes q.state.started _ _ _ e (unless_fails (whole 8 s (q.at + 1)) _ _ (amount_cut s (q.at + 1) k))

  module _ (v : ℤ) (k : amount_in s (q.at + 1) ≡ Some v) where
    amount_read : (whole 8 s (q.at + 1) ≡ true) × (signed_at s (q.at + 1) ≡ v)
    amount_read = amount_whole s (q.at + 1) v k

    pub weight_out : weight_fits v ≡ false → refused (numbered 8) ≡ on_weight s q
    weight_out l =
        unless_passes q.state.started _ _ _ e (unless_passes (whole 8 s (q.at + 1)) _ _ _ amount_read.0
        (unless_fails (weight_fits (signed_at s (q.at + 1))) _ _ (ap weight_fits amount_read.1 ∙ l)))

    pub weight_in : weight_fits v ≡ true → with_item q 9 [] (weighted q.state.work v) ≡ on_weight s q
    weight_in l =
        unless_passes q.state.started _ _ _ e (unless_passes (whole 8 s (q.at + 1)) _ _ _ amount_read.0
        (unless_passes (weight_fits (signed_at s (q.at + 1))) _ _ _ (ap weight_fits amount_read.1 ∙ l)
        (ap (λ (w : ℤ). with_item q 9 [] (weighted q.state.work w)) (sym amount_read.1))))

  -- ---- C
  pub clause_short : clause_in s (q.at + 1) ≡ None → refused (numbered 3) ≡ on_clause s q
  clause_short k = unless_passes q.state.started _ _ _ e (unless_fails (whole 16 s (q.at + 1)) _ _ (clause_cut s (q.at + 1) k))

  module _ (b : Clause) (k : clause_in s (q.at + 1) ≡ Some b) where
    abbrev known : ℕ → Bool
    known t = ltb t (2 ^ q.state.variables)

    -- what follows the test of the body
    abbrev rest : ℕ → ℕ → ℤ → Outcome (Progress State)
    rest x y v =
        unless (known x && known y) 6 (unless (weight_fits v) 8 (passing (short (clause_of x y) ∷ [])
        (with_item q 17 q.state.work (weighted (clause_of x y) v))))

    clause_read : (whole 16 s (q.at + 1) ≡ true) × ((number_at 4 s (q.at + 1) ≡ b.plain) × (number_at 4 s (q.at + 1 + 4) ≡ b.negated) × (signed_at s (q.at + 1 + 8) ≡ b.weight))
    clause_read = clause_whole s (q.at + 1) b k

    on_rest : (r : Outcome (Progress State)) → r ≡ rest b.plain b.negated b.weight → r ≡ on_clause s q
    on_rest r h =
        let i : q.at + 1 + 4 ≡ q.at + 5 = omega arith in
        let j : q.at + 1 + 8 ≡ q.at + 9 = omega arith in
        let y_is : number_at 4 s (q.at + 5) ≡ b.negated = rw i at clause_read.1.1 in
        let v_is : signed_at s (q.at + 9) ≡ b.weight = rw j at clause_read.1.2 in
        unless_passes q.state.started _ _ _ e (unless_passes (whole 16 s (q.at + 1)) _ _ _ clause_read.0
        (h ∙ sym (ap (λ (t : ℕ). rest t b.negated b.weight) clause_read.1.0) ∙ sym (ap₂ (λ (t : ℕ) (w : ℤ). rest (number_at 4 s (q.at + 1)) t w) y_is v_is)))

    pub plain_unknown : known b.plain ≡ false → refused (numbered 6) ≡ on_clause s q
    plain_unknown i = on_rest _ (unless_fails (known b.plain && known b.negated) _ _ (rw i))

    module _ (i : known b.plain ≡ true) where
      pub negated_unknown : known b.negated ≡ false → refused (numbered 6) ≡ on_clause s q
      negated_unknown j = on_rest _ (unless_fails (known b.plain && known b.negated) _ _ (rw (i, j)))

      module _ (j : known b.negated ≡ true) where
        all_known : (known b.plain && known b.negated) ≡ true
        all_known = rw (i, j)

        pub clause_out : weight_fits b.weight ≡ false → refused (numbered 8) ≡ on_clause s q
        clause_out l = on_rest _ (unless_passes (known b.plain && known b.negated) _ _ _ all_known (unless_fails (weight_fits b.weight) _ _ l))

        module _ (l : weight_fits b.weight ≡ true) where
          pub clause_long : (r : ℕ) → r ≡ length (clause_of b.plain b.negated) → 64 < r → refused (too_long r) ≡ on_clause s q
          clause_long r z m =
              on_rest _ (unless_passes (known b.plain && known b.negated) _ _ _ all_known (unless_passes (weight_fits b.weight) _ _ _ l (rw z (unless_fails (leb (length (clause_of b.plain b.negated)) 64) _ _ (lt-leb _ 64 (rw z at m))))))

          pub clause_in_lem : length (clause_of b.plain b.negated) ≤ 64 → with_item q 17 q.state.work (weighted (clause_of b.plain b.negated) b.weight) ≡ on_clause s q
          clause_in_lem m =
              on_rest _ (unless_passes (known b.plain && known b.negated) _ _ _ all_known (unless_passes (weight_fits b.weight) _ _ _ l (unless_passes (leb (length (clause_of b.plain b.negated)) 64) _ _ _ (le-leb _ 64 m) refl)))

-- the polynomial of a clause that is not too long
pub measured_terms : (l : List ℕ) (o : Measured) → o ≡ measured_of l → o.length ≤ 64 → (terms_of o.polynomial ≡ l) × (length l ≤ 64)
measured_terms l o e h =
    let k : length l ≤ 64 = rw e at h in
    (terms_of_lem l o.polynomial (ap (λ (o : Measured). o.polynomial) e ∙ rw (le-leb (length l) 64 k)), k)

-- ---- by its kind
module _ (s : List ℕ) (q : Progress State) where
  abbrev kind : ℕ
  kind = get_or s q.at 0

  pub is_variables : kind ≡ letter_v → on_variables s q ≡ on_record s q
  unfolding on_record
  is_variables e = rw e

  pub is_term : kind ≡ letter_m → on_term s q ≡ on_record s q
  unfolding on_record
  is_term e = rw e

  pub is_weight : kind ≡ letter_w → on_weight s q ≡ on_record s q
  unfolding on_record
  is_weight e = rw e

  pub is_clause : kind ≡ letter_c → on_clause s q ≡ on_record s q
  unfolding on_record
  is_clause e = rw e

  pub is_hard : kind ≡ letter_h → on_hard q ≡ on_record s q
  unfolding on_record
  is_hard e = rw e

  pub no_kind : (kind ≡ letter_v → ⊥) → (kind ≡ letter_m → ⊥) → (kind ≡ letter_w → ⊥) → (kind ≡ letter_c → ⊥) → (kind ≡ letter_h → ⊥)
      → refused (numbered 4) ≡ on_record s q
  unfolding on_record
  no_kind a b c d e = rw (ne_eqb kind letter_v a, ne_eqb kind letter_m b, ne_eqb kind letter_w c, ne_eqb kind letter_c d, ne_eqb kind letter_h e)

-- ---- the end: the answer, whether V came and whether the work polynomial is empty
abbrev pub ending : ℕ → Bool → Bool → Told (Unit {0})
ending k b c = verdict k tt (cond (b && c) nothing (refused_for (numbered 15)))

pub no_start : (k : ℕ) (b c : Bool) → b ≡ false → refused_at (k + 1) (numbered 15) ≡ ending k b c
no_start k b c e = let one : k + 1 ≡ suc k = omega arith in rw (e, one)

pub work_left : (k : ℕ) (b c : Bool) → b ≡ true → c ≡ false → refused_at (k + 1) (numbered 15) ≡ ending k b c
work_left k b c e d = let one : k + 1 ≡ suc k = omega arith in rw (e, d, one)

pub all_filed : (k : ℕ) (b c : Bool) → b ≡ true → c ≡ true → filed ≡ ending k b c
all_filed k b c e d = rw (e, d)
