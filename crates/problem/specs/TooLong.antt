-- What a filing's record tells that is refused with 7. Document 02, Ask 6: "For a clause the number is 2 to the power of its distinct plain literals, for M it is 65".
use Rattle.std.specs.Prelude.{◌≡◌, refl, ◌⊎◌, not, ◌&&◌, List, [], ℕ, ◌+◌, ◌^◌, ◌≤◌, ◌<◌, T, leb, ltb, eqb, length, get_or}
use Rattle.std.proofs.Common.{ap, inl, inr, ltb→lt, eqb→eq, pow_mono}
use Rattle.std.proofs.Math.Decide.{dec_le}
use native.Mathlib.Omega.{arith}
use Rattle.std.specs.Int.Bits.{bit_and}
use Rattle.std.proofs.lemmas.Nat.{ones-le}
use Rattle.run.specs.BooleanLaws.{cond_ind}
use Rattle.refusal.specs.Tests.{TellsTerms, TermsOf}
use Rattle.refusal.specs.TestsLaws.{tells_unless, tells_mapped, tells_more}
use Rattle.refusal.specs.Refusal.{Refusal}
use Rattle.refusal.specs.Outcome.{refused_at}
use Rattle.term.specs.Term.{degree_of}
use Rattle.polynomial.specs.Polynomial.{ZERO, clause_of}
use Rattle.polynomial.specs.ClauseLaws.{clause_both_ways, clause_length}
use Rattle.configuration.specs.Configuration.{add}
use Rattle.configuration.specs.Limits.{within}
use Rattle.configuration.specs.LimitsLaws.{tells_short, tells_within}
use Rattle.configuration.specs.LineLaws.{polynomial_short, configuration_parts}
use Rattle.record.specs.Letters.{letter_v, letter_m, letter_w, letter_c, letter_h}
use Rattle.record.specs.Record.{whole, number_at, signed_at}
use Rattle.walk.specs.Walk.{Progress, begun, past, read_all}
use Rattle.walk.specs.Work.{term_added}
use Rattle.walk.specs.WalkLaws.{next_tells}
use Rattle.walk.specs.WorkLaws.{term_tells}
use Rattle.problem.specs.Item.{Item, weighted, hard, take_in}
use Rattle.problem.specs.Problem.{State, having, weight_fits, with_item, on_term, on_weight, on_clause, on_record, filing, empty, file_problem}
use Rattle.problem.specs.ProblemLaws.{IsSound, IsSound-empty, IsSound-filing}
use Rattle.problem.specs.RefusedLaws.{refused_first}
use Rattle.run.specs.BooleanLaws as B

-- k is told of the clause of these literals, which has no variable both ways
pub record LongClause (plain negated k : ℕ) : Type 0 where
  pub apart : bit_and plain negated ≡ 0
  pub power : k ≡ 2 ^ degree_of plain
  pub terms : TermsOf (clause_of plain negated) (2 ^ 32) k

-- k is told of the record after the progress p: of an M or of a C
abbrev pub LongEntry : List ℕ → Progress State → ℕ → Type 0
LongEntry s p k =
    ((get_or s p.at 0 ≡ letter_m) × (k ≡ 65))
    ⊎ ((get_or s p.at 0 ≡ letter_c) × LongClause (number_at 4 s (p.at + 1)) (number_at 4 s (p.at + 5)) k)

-- a clause that is too long has no variable both ways, since it would be 0
clause_over : (a b : ℕ) → a < 2 ^ 32 → b < 2 ^ 32 → 64 < length (clause_of a b) → LongClause a b (length (clause_of a b))
clause_over a b ha hb l = go (dec_le (bit_and a b) 0)
  where
    go : Dec (bit_and a b ≤ 0) → LongClause a b (length (clause_of a b))
    go (yes h) =
        let e : bit_and a b ≡ 0 = omega arith in
        let z : length (clause_of a b) ≡ 2 ^ degree_of a = clause_length a b ha hb e in
        record { apart = e; power = z; terms = record { exact = refl; over = l; within = rw z (pow_mono {i = degree_of a} {j = 32} (ones-le 32 a ha)) } }
    go (no h) =
        let z : clause_of a b ≡ [] = clause_both_ways a b ha hb (λ e. let i : ⊥ = omega (arith, h) in i) in
        let n : ⊥ = omega (arith, ap length z) in
        absurd n

module _ (s : List ℕ) (p : Progress State) (o : IsSound p.state) where
  abbrev kind : ℕ
  kind = get_or s p.at 0

  abbrev x : State
  x = p.state

  abbrev Q : ℕ → Type 0
  Q = LongEntry s p

  terms : T (eqb kind letter_m) → TellsTerms Q (on_term s p)
  terms h =
      tells_unless Q x.started 4 _ tt (λ i.
      tells_mapped Q (λ f. past p 5 (having f x.holding x)) (term_added x.variables s (p.at + 1) x.work)
      (tells_more (λ k. k ≡ 65) Q (term_added x.variables s (p.at + 1) x.work) (λ k e. inl (eqb→eq kind letter_m h, e))
      (term_tells x.variables s (p.at + 1) x.work (polynomial_short x.variables x.work o.polynomial))))

  -- the limits tell no number of terms
  items : (size : ℕ) (work : List ℕ) (i : Item) → TellsTerms Q (with_item p size work i)
  items size work i = tells_mapped Q (λ y. past p size (having work y x)) (take_in i x.holding) (go i)
    where
      go : (i : Item) → TellsTerms Q (take_in i x.holding)
      go (weighted f w) = tells_mapped Q (λ L. record { lines = L; hard = x.holding.hard }) (within (add f w x.holding.lines)) (tells_within Q (add f w x.holding.lines))
      go (hard f) = tells_unless Q (ltb (length x.holding.hard) 16) 18 _ tt (λ h. tt)

  weights : TellsTerms Q (on_weight s p)
  weights =
      tells_unless Q x.started 4 _ tt (λ h. tells_unless Q (whole 8 s (p.at + 1)) 3 _ tt (λ h. tells_unless Q (weight_fits (signed_at s (p.at + 1))) 8 _ tt (λ h.
      items 9 ZERO (weighted x.work (signed_at s (p.at + 1))))))

  -- a mask of the variables has 32 bits
  known : (a : ℕ) → T (ltb a (2 ^ x.variables)) → a < 2 ^ 32
  known a h =
      let l : a < 2 ^ x.variables = ltb→lt a (2 ^ x.variables) h in
      omega (arith, l, pow_mono {i = x.variables} {j = 32} (configuration_parts x.variables x.holding.lines o.configuration).variables)

  clauses : T (eqb kind letter_c) → TellsTerms Q (on_clause s p)
  clauses h =
      let a : ℕ = number_at 4 s (p.at + 1) in
      let b : ℕ = number_at 4 s (p.at + 5) in
      let m : ℕ = 2 ^ x.variables in
      tells_unless Q x.started 4 _ tt (λ i. tells_unless Q (whole 16 s (p.at + 1)) 3 _ tt (λ i. tells_unless Q (ltb a m && ltb b m) 6 _ tt (λ j.
      tells_unless Q (weight_fits (signed_at s (p.at + 9))) 8 _ tt (λ i. tells_short Q (clause_of a b) _
      (λ l. inr (eqb→eq kind letter_c h, clause_over a b (known a (B.left (ltb a m) (ltb b m) j)) (known b (B.right (ltb a m) (ltb b m) j)) l))
      (λ l. items 17 x.work (weighted (clause_of a b) (signed_at s (p.at + 9))))))))

  pub record_tells : TellsTerms Q (on_record s p)
  unfolding on_record
  record_tells =
      cond_ind (eqb kind letter_v) (TellsTerms Q)
      (λ h. tells_unless Q (not x.started) 4 _ tt (λ i. tells_unless Q (whole 1 s (p.at + 1)) 3 _ tt (λ i. tells_unless Q (leb (number_at 1 s (p.at + 1)) 32) 5 _ tt (λ i. tt)))) (λ h.
      cond_ind (eqb kind letter_m) (TellsTerms Q) terms (λ h.
      cond_ind (eqb kind letter_w) (TellsTerms Q) (λ h. weights) (λ h.
      cond_ind (eqb kind letter_c) (TellsTerms Q) clauses (λ h.
      cond_ind (eqb kind letter_h) (TellsTerms Q) (λ h. tells_unless Q x.started 4 _ tt (λ i. items 1 ZERO (hard x.work)))
      (λ h e. let i : ⊥ = omega arith in absurd i)))))

-- of a whole filing: the record after those that are accepted
pub filing_tells : (s : List ℕ) (K : ℕ) (x : Refusal) → (file_problem s).told ≡ refused_at K x → x.number ≡ 7 → LongEntry s (read_all filing s empty).reached x.detail
filing_tells s K x e = let p : Progress State = (read_all filing s empty).reached in
    next_tells filing (LongEntry s p) s p x (refused_first s K x e) (record_tells s p (IsSound-filing (length s) s (begun empty) IsSound-empty))
