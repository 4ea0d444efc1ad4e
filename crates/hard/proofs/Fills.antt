-- A run that is filled part by part: a number, then the counts, then the places.
use Rattle.std.proofs.Common.{◌≡◌, ap, ap₂, ◌∙◌, List, [], ◌∷◌, ◌++◌, ℕ, ◌-◌, ◌≤◌, arith, append-nil, length, set, take, drop, length-append}
use Rattle.std.proofs.Math.Seq.{take_at, drop_at}
use lib.ListN.{drop_of_length-le}

module _ (cs ps : List ℕ) (k : ℕ) (c : length cs ≡ 16) where
  abbrev counted : List ℕ → List ℕ
  counted rs = take 1 (set rs 0 k) ++ (cs ++ drop 16 (drop 1 (set rs 0 k)))

  pub gathered : (rs : List ℕ) → length rs ≡ 1041 → take 17 (counted rs) ++ (ps ++ drop (length (counted rs) - 17) (drop 17 (counted rs))) ≡ k ∷ (cs ++ ps)
  gathered [] l = absurd (omega (arith, l))
  gathered (r ∷ rs) l =
      let rest = drop 16 rs in
      let n = length (counted (r ∷ rs)) - 17 in
      let b : length rest ≤ n = omega (arith, length-append cs rest, c) in
      ap₂ (λ (s t : List ℕ). k ∷ (s ++ (ps ++ drop n t))) (take_at cs rest 16 c) (drop_at cs rest 16 c)
      ∙ ap (λ (t : List ℕ). k ∷ (cs ++ (ps ++ t))) (drop_of_length-le rest {i = n} b)
      ∙ ap (λ (s : List ℕ). k ∷ (cs ++ s)) (append-nil ps)
