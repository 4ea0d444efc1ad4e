-- Texts that a writer puts one behind the other: what is written, and what is still to be written.
use mathlib.Core.Path.{◌≡◌, refl, ◌∙◌, subst}
use mathlib.Core.List.{List, [], ◌++◌}
use Prim.Native.Nat.{ℕ}
use native.Mathlib.Omega.{arith}
use lib.ListN.{length-append}
use Rattle.listing.specs.declared.text.Writer.{Writer}
use Rattle.listing.specs.Writer.{HasRoom, Wrote}
use Rattle.listing.proofs.Writes.{Still, all_still, behind, next_fits, next_written, none_left}

-- the same text in other words
pub wrote_as : {a b : Writer} {x : List ℕ} (y : List ℕ) → x ≡ y → Wrote a b x → Wrote a b y
wrote_as {a} {b} y e w = subst (Wrote a b) e w

-- a text, and one behind it
pub wrote_then : {a b c : Writer} {x y : List ℕ} → Wrote a b x → Wrote b c y → Wrote a c (x ++ y)
wrote_then {a} {b} {c} {x} {y} w v = record {
  area = v.area ∙ w.area;
  long = v.long ∙ w.long;
  room = omega (arith, w.end, w.room, v.room, w.long, length-append x y);
  end = omega (arith, w.end, v.end, length-append x y);
  bytes = v.bytes ∙ rw (w.bytes, w.end) (behind a.out.now a.at x y (omega (arith, w.room)));
}

-- a writer of the same area and place wrote it, and left the area and the place
pub wrote_by : {a b w v : Writer} {x : List ℕ} → w.out.now ≡ a.out.now → w.at ≡ a.at → b.out.ghost_name ≡ a.out.ghost_name → b.out.now ≡ v.out.now
    → b.at ≡ v.at → Wrote w v x → Wrote a b x
wrote_by {a} {b} {w} {v} {x} bytes place area left end t = record {
  area = area;
  long = rw (left, ← bytes) t.long;
  room = rw (← bytes, ← place) t.room;
  end = rw (end, ← place) t.end;
  bytes = rw (left, ← bytes, ← place) t.bytes;
}

-- ---- of a text that is to stand behind what stands in a, the rest is still to be written in b
pub record Left (a : Writer) (whole : List ℕ) (b : Writer) (rest : List ℕ) : Type 0 where
  pub area : b.out.ghost_name ≡ a.out.ghost_name
  pub still : Still a.out.now a.at whole b.out.now b.at rest

pub all_left : {a : Writer} {whole : List ℕ} (rest : List ℕ) → whole ≡ rest → HasRoom a whole → Left a whole a rest
all_left {a} {whole} rest e h = record { area = refl; still = all_still a.out.now a.at whole rest e h }

pub left_as : {a b : Writer} {whole x : List ℕ} (y : List ℕ) → x ≡ y → Left a whole b x → Left a whole b y
left_as {a} {b} {whole} y e s = subst (Left a whole b) e s

pub left_room : {a b : Writer} {whole : List ℕ} (x rest : List ℕ) → Left a whole b (x ++ rest) → HasRoom b x
left_room {a} {b} {whole} x rest s = next_fits a.out.now a.at whole b.out.now b.at x rest s.still

pub left_then : {a b c : Writer} {whole : List ℕ} (x rest : List ℕ) → Left a whole b (x ++ rest) → Wrote b c x → Left a whole c rest
left_then {a} {b} {c} {whole} x rest s w = record {
  area = w.area ∙ s.area;
  still = next_written a.out.now a.at whole b.out.now b.at x rest c.out.now c.at s.still (w.end, w.bytes);
}

pub left_none : {a b : Writer} {whole : List ℕ} (rest : List ℕ) → rest ≡ [] → Left a whole b rest → Wrote a b whole
left_none {a} {b} {whole} rest e s =
    let d = none_left a.out.now a.at whole b.out.now b.at rest e s.still in
    record { area = s.area; long = s.still.kept; room = s.still.room; end = d.0; bytes = d.1 }

-- nothing is written
pub wrote_none : {a : Writer} (x : List ℕ) → x ≡ [] → HasRoom a x → Wrote a a x
wrote_none x e h = left_none x e (all_left x refl h)
