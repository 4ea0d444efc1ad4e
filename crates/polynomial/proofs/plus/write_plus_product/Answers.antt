-- `write_plus_product` meets its contract: few products of terms have a product that fits; and h q is q h.
use mathlib.Core.Path.{◌≡◌, ap}
use mathlib.Core.List.{[]}
use Prim.Native.Nat.{◌≤◌}
use native.Mathlib.Omega.{arith}
use lib.ListN.{take}
use Rattle.polynomial.specs.LengthLaws.{product_length}
use Rattle.polynomial.specs.Polynomial.{sum_of, product_of}
use Rattle.polynomial.specs.PolynomialLaws.{exact}
use Rattle.polynomial.proofs.Keys.{Answered-same}
use Rattle.polynomial.proofs.plus.write_plus_product.Goals as goal
use Rattle.polynomial.proofs.plus.write_plus_product.Goals.{After-product-then-q-h-le64-1, After-product-then-q-h-le64-2-1, After-write_product-n}

-- few products have few terms, and these are in front
few : (c : goal.After-write_product-n) → c.write_product-n.result ≤ 64
few c =
    let a = c.args in
    omega (arith, c.write_product-n.ensures.size, product_length a.q.now a.h.now)

multiplied : (c : goal.After-write_product-n) → (let a = c.args in let w = c.write_product-n in take w.result w.new.out ≡ product_of a.q.now a.h.now)
multiplied c =
    let a = c.args in
    (exact [] (product_of a.q.now a.h.now) _ _ _ tt (c.write_product-n.ensures.size, c.write_product-n.ensures.product)).1 (few c)

pub returns-then-q-h-le64 : goal.returns-then-q-h-le64
returns-then-q-h-le64 c =
    let e = ap (sum_of c.args.f.now) (multiplied (goal.at.returns-then-q-h-le64 c).After-write_product-n) in
    let a = Answered-same _ _ c.args.out.now _ _ e (c.write_sum.ensures.size, c.write_sum.ensures.sum) in
    record { size = a.0; sum = a.1 }
