-- The listing, number by number: the texts that are left.
use mathlib.Core.Path.{◌≡◌, sym, ap, ◌∙◌}
use mathlib.Core.List.{List, [], ◌++◌}
use Prim.Native.Nat.{ℕ, suc, ◌+◌, ◌-◌, ◌≤◌, ◌<◌}
use native.Mathlib.Numerals.{add-one}
use native.Mathlib.Omega.{arith}
use lib.ListN.{length}
use Rattle.configuration.specs.Configuration.{Line}
use Rattle.listing.specs.Listing.{text_of, listing_of}
use Rattle.listing.specs.ListingLaws.{texts_from, whole_listing}

-- one text, where there are k + 1 in all, and none
pub texts_step : (k i n : ℕ) (H : List (List ℕ)) (L : List Line) → i ≤ k
    → texts_from (suc k - i) i n H L ≡ text_of i n H L ++ texts_from (suc k - (i + 1)) (i + 1) n H L
unfolding texts_from
texts_step k i n H L h =
    let e : suc k - i ≡ suc (suc k - (i + 1)) = omega arith in
    rw (e, add-one i)

pub texts_over : (k i n : ℕ) (H : List (List ℕ)) (L : List Line) → k < i → texts_from (suc k - i) i n H L ≡ []
unfolding texts_from
texts_over k i n H L h = let e : suc k - i ≡ 0 = omega arith in rw e

-- all of them
pub all_texts : (k n : ℕ) (H : List (List ℕ)) (L : List Line) → k ≡ length H + length L → listing_of n H L ≡ texts_from (suc k - 0) 0 n H L
all_texts k n H L h =
    let e : suc (length H + length L) ≡ suc k - 0 = omega arith in
    sym (whole_listing n H L) ∙ ap (λ (j : ℕ). texts_from j 0 n H L) e
