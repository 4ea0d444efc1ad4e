-- Same problem, one listing (demand 2): two filings of one problem leave the same head and the same content of every area, and so have the same listing and code, whatever lent areas
-- they were made in. One problem: as many variables, every polynomial function other than 0 has the same total weight among the entries of both, and the hard polynomials are the same
-- in the same order. It speaks of `file_in`, which the promise of the open `file_problem` equates with.
use Rattle.std.specs.Prelude.{◌≡◌, refl, Bool, true, false, List, ℕ}
use Rattle.std.proofs.Common.{sym, ap, ◌∙◌}
use Rattle.polynomial.specs.Polynomial.{ZERO}
use Rattle.configuration.specs.Configuration.{total}
use Rattle.memory.specs.Memory.{back_to_back}
use Rattle.problem.specs.Problem.{filed, file_problem}
use Rattle.problem.specs.Item.{weighted_items, hard_items}
use Rattle.problem.specs.Entries.{entries, agrees, Permuted}
use Rattle.problem.specs.ProblemLaws.{same_problem, permuted}
use Rattle.checker.specs.Checker.{Lent, lent_sized, Left, filed_with, file_in, listed_in, code_in}
use Rattle.checker.specs.CheckerLaws.{not_refusal, file_sized, file_unsized}

-- what can be seen of a filing: its answer, head and areas, its listing, its code
pub record OneFiling (a b : Left (Unit {0})) : Type 0 where
  pub left : a ≡ b
  pub listing : listed_in a.lent ≡ listed_in b.lent
  pub code : code_in a.lent ≡ code_in b.lent

seen : (a b : Left (Unit {0})) → a ≡ b → OneFiling a b
seen a b e = record {
  left = e;
  listing = ap (λ (x : Left (Unit {0})). listed_in x.lent) e;
  code = ap (λ (x : Left (Unit {0})). code_in x.lent) e;
}

accepted_filing : (s : List ℕ) (x : Lent) → (file_in s x).told ≡ filed → file_in s x ≡ filed_with back_to_back (file_problem s)
accepted_filing s x e = go (lent_sized x) refl
  where
    go : (b : Bool) → lent_sized x ≡ b → file_in s x ≡ filed_with back_to_back (file_problem s)
    go true h = file_sized back_to_back s x h
    go false h = absurd (not_refusal (sym e ∙ ap (λ (y : Left (Unit {0})). y.told) (file_unsized back_to_back s x h)))

-- the number of variables that a filing leaves
abbrev pub variables_of : Left (Unit {0}) → ℕ
variables_of a = a.lent.memory.variables

-- if every polynomial function other than 0 has the same total weight among the entries of both, and the hard ones are the same in the same order
pub one_listing : (s t : List ℕ) (x y : Lent) → (file_in s x).told ≡ filed → (file_in t y).told ≡ filed → variables_of (file_in s x) ≡ variables_of (file_in t y)
    → ((f : List ℕ) → agrees (variables_of (file_in s x)) f ZERO ≡ false
    → total (agrees (variables_of (file_in s x)) f) (weighted_items (entries s)) ≡ total (agrees (variables_of (file_in s x)) f) (weighted_items (entries t)))
    → hard_items (entries s) ≡ hard_items (entries t)
    → OneFiling (file_in s x) (file_in t y)
one_listing s t x y es et e h k =
    let a : file_in s x ≡ filed_with back_to_back (file_problem s) = accepted_filing s x es in
    let b : file_in t y ≡ filed_with back_to_back (file_problem t) = accepted_filing t y et in
    let n : variables_of (file_in s x) ≡ (file_problem s).variables = ap variables_of a in
    let m : variables_of (file_in t y) ≡ (file_problem t).variables = ap variables_of b in
    let p : file_problem s ≡ file_problem t =
    same_problem s t (sym (ap (λ (z : Left (Unit {0})). z.told) a) ∙ es) (sym (ap (λ (z : Left (Unit {0})). z.told) b) ∙ et) (sym n ∙ e ∙ m) (rw n at h) k in
    seen (file_in s x) (file_in t y) (a ∙ ap (filed_with back_to_back) p ∙ sym b)

-- in particular the entries may come in any order, but that the hard ones keep theirs
pub permuted_listing : (s t : List ℕ) (x y : Lent) → (file_in s x).told ≡ filed → (file_in t y).told ≡ filed → variables_of (file_in s x) ≡ variables_of (file_in t y)
    → Permuted (entries s) (entries t) → OneFiling (file_in s x) (file_in t y)
permuted_listing s t x y es et e h =
    let p : _ = permuted s t (variables_of (file_in s x)) h in
    one_listing s t x y es et e p.0 p.1
