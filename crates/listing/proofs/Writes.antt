-- Texts that are written into an area one behind the other: what stands, and what is still to be written.
use mathlib.Core.Path.{◌≡◌, refl, sym, ap, ap₂, ◌∙◌, subst}
use mathlib.Core.List.{List, [], ◌∷◌, ◌++◌, append_assoc}
use Prim.Native.Nat.{ℕ, ◌+◌, ◌≤◌, ◌<◌}
use native.Mathlib.Numerals.{add-one, unary_clauses}
use native.Mathlib.Omega.{arith}
use lib.ListN.{length, take, drop, set, length-append, length-drop, take-append-drop}
use lib.Seq.{length-take-le, take_at, drop-append-add, drop-drop, set_split}
use Rattle.listing.specs.Writing.{overwritten}

-- ---- one text
pub one_byte : (a : List ℕ) (at v : ℕ) → at < length a → set a at v ≡ overwritten a at (v ∷ [])
one_byte a at v h = rw add-one (set_split a at v h)

none_written : (a : List ℕ) (at : ℕ) → overwritten a at [] ≡ a
none_written a at = simp unary_clauses (take-append-drop at a)

overwritten_long : (a : List ℕ) (at : ℕ) (x : List ℕ) → at + length x ≤ length a → length (overwritten a at x) ≡ length a
overwritten_long a at x h =
    let e : length (take at a) ≡ at = length-take-le at a (omega arith) in
    simp (length-append, length-drop) (omega arith)

-- the front of an area with a text there is the text
pub written_front : (a x : List ℕ) → take (length x) (overwritten a 0 x) ≡ x
written_front a x = take_at x (drop (0 + length x) a) (length x) refl

-- ---- a text behind another
pub behind : (a : List ℕ) (at : ℕ) (x y : List ℕ) → at ≤ length a → overwritten (overwritten a at x) (at + length x) y ≡ overwritten a at (x ++ y)
behind a at x y h =
    let p : List ℕ = take at a ++ x in
    let n : ℕ = at + length x in
    let d : List ℕ = drop n a in
    let e : length p ≡ n = simp length-append (omega (arith, length-take-le at a h)) in
    let r : overwritten a at x ≡ p ++ d = sym (append_assoc (take at a) x d) in
    let l : length p + length y ≡ n + length y = omega arith in
    let s : at + length (x ++ y) ≡ n + length y = simp length-append (omega arith) in
    let u : drop (n + length y) (p ++ d) ≡ drop (n + length y) a =
    ap (λ (k : ℕ). drop k (p ++ d)) (sym l) ∙ drop-append-add p d (length y) ∙ drop-drop (length y) n a in
    ap (λ (z : List ℕ). overwritten z n y) r ∙ ap₂ (λ (z t : List ℕ). z ++ (y ++ t)) (take_at p d n e) u
    ∙ append_assoc (take at a) x (y ++ drop (n + length y) a)
    ∙ ap (λ (z : List ℕ). take at a ++ z) (sym (append_assoc x y (drop (n + length y) a)))
    ∙ ap (λ (k : ℕ). take at a ++ ((x ++ y) ++ drop k a)) (sym s)

-- ---- of a text that is to stand in an area a from a place on, the rest is still to be written at the end of what stands in b
pub record Still (a : List ℕ) (at : ℕ) (whole b : List ℕ) (end : ℕ) (rest : List ℕ) : Type 0 where
  pub room : at + length whole ≤ length a
  pub long : end + length rest ≡ at + length whole
  pub kept : length b ≡ length a
  pub same : overwritten b end rest ≡ overwritten a at whole

pub all_still : (a : List ℕ) (at : ℕ) (whole rest : List ℕ) → whole ≡ rest → at + length whole ≤ length a → Still a at whole a at rest
all_still a at whole rest e h = record { room = h; long = rw e; kept = refl; same = rw e }

module _ (a : List ℕ) (at : ℕ) (whole b : List ℕ) (end : ℕ) where
  pub Still-as : (x y : List ℕ) → x ≡ y → Still a at whole b end x → Still a at whole b end y
  Still-as x y e s = subst (Still a at whole b end) e s

  -- the rest is written
  pub rest_written : (rest c : List ℕ) (k : ℕ) → Still a at whole b end rest → (k ≡ end + length rest) × (c ≡ overwritten b end rest)
      → (k ≡ at + length whole) × (c ≡ overwritten a at whole)
  rest_written rest c k s e = (e.0 ∙ s.long, e.1 ∙ s.same)

  pub next_fits : (x rest : List ℕ) → Still a at whole b end (x ++ rest) → end + length x ≤ length b
  next_fits x rest s = omega (arith, length-append x rest)

  -- a text in front of the rest is written
  pub next_written : (x rest c : List ℕ) (k : ℕ) → Still a at whole b end (x ++ rest) → (k ≡ end + length x) × (c ≡ overwritten b end x)
      → Still a at whole c k rest
  next_written x rest c k s e =
      let f : end + length x ≤ length b = next_fits x rest s in
      record {
        room = s.room;
        long = omega (arith, length-append x rest, e.0);
        kept = ap length e.1 ∙ overwritten_long b end x f ∙ s.kept;
        same = rw (e.1, e.0) (behind b end x rest (omega arith) ∙ s.same);
      }

  -- nothing is left
  pub none_left : (rest : List ℕ) → rest ≡ [] → Still a at whole b end rest → (end ≡ at + length whole) × (b ≡ overwritten a at whole)
  none_left rest e s = let r = Still-as rest [] e s in (omega arith, sym (none_written b end) ∙ r.same)

-- the same text in other words
pub as_text : (a : List ℕ) (at : ℕ) (x y b : List ℕ) (end : ℕ) → x ≡ y → (end ≡ at + length x) × (b ≡ overwritten a at x)
    → (end ≡ at + length y) × (b ≡ overwritten a at y)
as_text a at x y b end e h = (h.0 ∙ ap (λ (z : List ℕ). at + length z) e, h.1 ∙ ap (overwritten a at) e)
