-- The steps of the test 'well formed' of a hard list, over plain lists: one row and the rest, and what is behind the last.
use Rattle.std.proofs.Common.{◌≡◌, sym, ap, ◌∙◌, Bool, true, false, ◌&&◌, List, ℕ, suc, ◌+◌, ◌-◌, ◌*◌, ◌<◌, add-one, arith, length, get_or, take, drop, drop-cons, drop-drop, length-drop}
use Rattle.std.proofs.Math.Seq.{take_all}
use Rattle.configuration.specs.Area.{zeros}
use Rattle.hard.specs.Hard.{row_formed, rows_formed}

module _ (n k i : ℕ) (cs ps : List ℕ) (whole : Bool) (inv : rows_formed n (k - i) (drop i cs) (drop (64 * i) ps) ≡ whole) where
  -- the test of a row of w places
  module _ (w : ℕ) (e : w ≡ 64) (h : i < k) (l : i < length cs) (b : Bool) (t : b ≡ row_formed n (get_or cs i 0) (take w (drop (64 * i) ps))) where
    next_row : whole ≡ (b && rows_formed n (k - (i + 1)) (drop (i + 1) cs) (drop (64 * (i + 1)) ps))
    unfolding rows_formed
    next_row =
        let a : k - i ≡ suc (k - (i + 1)) = omega arith in
        let p : 64 * i + 64 ≡ 64 * (i + 1) = omega arith in
        sym inv ∙ rw (t, e, a, drop-cons cs i 0 l, drop-drop 64 (64 * i) ps, p, add-one i)

    pub row_bad : b ≡ false → false ≡ whole
    row_bad x = sym (rw x at next_row)

    pub row_good : b ≡ true → rows_formed n (k - (i + 1)) (drop (i + 1) cs) (drop (64 * (i + 1)) ps) ≡ whole
    row_good x = sym (rw x at next_row)

  -- the tests of what is behind the last row
  module _ (e : i ≡ k) (x : Bool) (s : x ≡ zeros (take (length cs - k) (drop k cs))) where
    ended : (x && zeros (drop (64 * k) ps)) ≡ whole
    unfolding rows_formed
    ended =
        let z : k - k ≡ 0 = omega arith in
        let c : x ≡ zeros (drop k cs) = s ∙ ap zeros (take_all (length cs - k) (drop k cs) (omega (arith, length-drop k cs))) in
        ap (λ (b : Bool). b && zeros (drop (64 * k) ps)) c ∙ rw (e, z) at inv

    pub end_bad : x ≡ false → x ≡ whole
    end_bad f = f ∙ rw f at ended

    pub end_good : (y : Bool) → y ≡ zeros (take (length ps - 64 * k) (drop (64 * k) ps)) → x ≡ true → y ≡ whole
    end_good y q t = q ∙ ap zeros (take_all (length ps - 64 * k) (drop (64 * k) ps) (omega (arith, length-drop (64 * k) ps))) ∙ rw t at ended
