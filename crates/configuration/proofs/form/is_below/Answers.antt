-- `is_below` meets its contract: every term passes the test.
use Rattle.std.proofs.Common.{◌^◌, ◌&&◌, ltb, refl, sym, ◌∙◌, rules, tests}
use Rattle.std.specs.List.{list_all}
use Rattle.std.proofs.lemmas.Iterator.{YieldsList-from_slice}
use Rattle.std.proofs.lemmas.Iterator.Search.{all_from_yields_List}
use Rattle.std.proofs.lemmas.List.Recursion.{same_from_clauses}
use Rattle.configuration.specs.Configuration.{below}
use Rattle.configuration.proofs.form.is_below.Goals as goal

pub returns : goal.returns
unfolding below
returns c =
    let a = c.args in
    all_from_yields_List (λ t. ltb t (2 ^ a.variables)) _ _ c.all.result c.all.ensures.ran (YieldsList-from_slice a.terms.now cc) (λ x b q k. search (rules, tests))
    ∙ sym (same_from_clauses (below a.variables) (list_all (λ t. ltb t (2 ^ a.variables))) (λ t b. ltb t (2 ^ a.variables) && b) refl (λ _ _. refl) (λ _ _. refl) a.terms.now)
