-- Laws of the working form: a list that can be held is read back from its run, and what holds of every run that fits.
use Rattle.std.specs.Prelude.{◌≡◌, refl, List, [], ℕ, ◌+◌, ◌*◌, ◌≤◌, ◌<◌, T, length, get_or, take, drop, replicate}
use Rattle.std.proofs.Common.{ap, ap₂, ◌∙◌, arith, length-append, length-take, length-drop, take_at, drop_at, get_or-take, get_or-drop, drop-drop}
use Rattle.hard.specs.Hard.{is_hard_list, HardArea, hard_of, laid_hard, hard_image, hard_formed}
use Rattle.hard.specs.HardLaws.{list_room, length_read, one_read, AllShort, all_read, image_back, counts_sixteen, places_1024, formed_parts}
use Rattle.hard.specs.Held.{IsHeld}
use Rattle.hard.specs.Working.{flat, area_in, hard_in, run_of, HardFits}

-- an area of 16 counts is read back from its run
pub area_back : (a : HardArea) → length a.counts ≡ 16 → area_in (flat a) ≡ a
area_back a h =
    ap₂ (λ (cs ps : List ℕ). record { number = a.number; counts = cs; places = ps })
    (take_at a.counts a.places 16 h)
    (drop_at a.counts a.places 16 h)

-- the run in which nothing is held yet
pub run_none : run_of [] ≡ replicate 1041 0
unfolding laid_hard
run_none = refl

module _ (n : ℕ) (H : List (List ℕ)) (h : T (is_hard_list n H)) where
  pub run_area : area_in (run_of H) ≡ hard_image H
  run_area = area_back (hard_image H) (counts_sixteen n H h)

  pub run_back : hard_in (run_of H) ≡ H
  run_back = ap hard_of run_area ∙ image_back n H h

  pub run_fits : HardFits (run_of H)
  run_fits =
      let a = hard_image H in
      (rw (length-append a.counts a.places) (omega (arith, counts_sixteen n H h, places_1024 n H h)), list_room n H h)

-- the run of a well-formed area holds the list of the area
module _ (n : ℕ) (a : HardArea) (f : T (hard_formed n a)) where
  pub flat_fits : HardFits (flat a)
  flat_fits =
      let q = formed_parts n a f in
      (rw (length-append a.counts a.places) (omega (arith, q.counts_length, q.places_length)), q.room)

  pub flat_back : hard_in (flat a) ≡ hard_of a
  flat_back = ap hard_of (area_back a (formed_parts n a f).counts_length)

-- what a `HardList` keeps is a run that fits, in parts, and that run holds its list: what follows of every run that fits is so of every `HardList`
module _ (a : HardArea) (h : IsHeld a) where
  pub held_fits : HardFits (flat a)
  held_fits = (rw (length-append a.counts a.places) (omega (arith, h.counts_length, h.places_length)), h.few)

  pub held_back : hard_in (flat a) ≡ hard_of a
  held_back = ap hard_of (area_back a h.counts_length)

-- ---- of every run that fits
module _ (rs : List ℕ) (h : HardFits rs) where
  sixteen : length (area_in rs).counts ≡ 16
  sixteen = omega (arith, length-take 16 (drop 1 rs), length-drop 1 rs, h.0)

  pub run_number : length (hard_in rs) ≡ get_or rs 0 0
  run_number = length_read (get_or rs 0 0) (area_in rs).counts (area_in rs).places (omega (arith, sixteen, h.1))

  pub run_room : length (hard_in rs) ≤ 16
  run_room = omega (arith, run_number, h.1)

  -- one polynomial: its count stands behind the number, its places behind the 16 counts
  pub run_one : (i : ℕ) → i < length (hard_in rs) → get_or (hard_in rs) i [] ≡ take (get_or rs (1 + i) 0) (take 64 (drop (17 + 64 * i) rs))
  run_one i l =
      let k = get_or rs 0 0 in
      one_read k i (area_in rs).counts (area_in rs).places (omega (arith, run_number)) (omega (arith, sixteen, h.1))
      ∙ ap₂ (λ (c : ℕ) (s : List ℕ). take c (take 64 s))
      (get_or-take 16 (drop 1 rs) i 0 (omega (arith, run_room)) ∙ get_or-drop 1 rs i 0)
      (drop-drop (64 * i) 17 rs)

  pub run_short : AllShort (hard_in rs)
  run_short = all_read (get_or rs 0 0) (area_in rs).counts (area_in rs).places
