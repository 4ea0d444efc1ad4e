-- `product_keys` meets its contract: at most 64 terms with at most 64 make at most 4096 products, and a table for 12 variables has a place for each subset.
use mathlib.Core.Path.{refl}
use Prim.Native.Nat.{◌*◌, ◌^◌, ◌≤◌}
use native.Mathlib.Omega.{arith}
use lib.ListN.{length}
use lib.Pow.{pow_mono}
use Rattle.term.specs.Term.{degree_of}
use Rattle.mask.specs.FewLaws.{most_few}
use Rattle.polynomial.proofs.Keys.{IsBelow-each, product_keys, table_keys}
use Rattle.polynomial.proofs.plus.product_keys.Goals as goal
use Rattle.polynomial.proofs.plus.product_keys.Goals.{After-slice_known-2-1, After-table-then-degree-most_variables-1, Then-degree-most_variables}

-- ---- where a table is made: the variables in which the products differ are few, and it has room for their subsets
few : (c : goal.Then-degree-most_variables) → degree_of c.varying-mask.result ≤ 12
few c =
    let a = c.args in
    omega (arith, c.if-degree-most_variables.true, c.degree.ensures, c.most_variables.ensures, most_few (length a.q.now * length a.h.now))

room : (c : goal.Then-degree-most_variables) → 2 ^ degree_of c.varying-mask.result ≤ 2 ^ 12
room c = pow_mono {i = degree_of c.varying-mask.result} {j = 12} (few c)

pub odd_subsets-count-requires : goal.odd_subsets-count-requires
odd_subsets-count-requires c =
    (c.requires.0, c.requires.1, few (goal.at.odd_subsets-count-requires c).Then-degree-most_variables, room (goal.at.odd_subsets-count-requires c).Then-degree-most_variables, room (goal.at.odd_subsets-count-requires c).Then-degree-most_variables, refl)

pub returns-then-degree-most_variables-clause-numbers : goal.returns-then-degree-most_variables-clause-numbers
returns-then-degree-most_variables-clause-numbers c =
    let k = c.ordered_keys in
    let o = c.odd_subsets-count in
    let v = c.varying-mask in
    let d = c.common-fixed in
    let a = c.args in
    table_keys d.result v.result 4096 a.q.now a.h.now _ d.ensures v.ensures (omega (arith, v.type_inv)) (room (goal.at.returns-then-degree-most_variables-clause-numbers c).Then-degree-most_variables) o.ensures.masks
    _ (omega (arith, d.type_inv)) k.ensures.numbers

pub returns-clause-numbers : goal.returns-clause-numbers
returns-clause-numbers c =
    let k = c.ordered_products in
    let a = c.args in
    let below_q = IsBelow-each a.q.now (λ i h. omega (arith, c.type_inv.q i)) in
    let below_h = IsBelow-each a.h.now (λ i h. omega (arith, c.type_inv.h i)) in
    product_keys a.q.now a.h.now _ below_q below_h k.ensures.numbers
