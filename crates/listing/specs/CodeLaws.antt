-- The texts of a listing's numbers may be added to its code one after the other.
use Rattle.std.specs.Prelude.{◌≡◌, refl, List, ℕ, zero, suc, ◌+◌, length}
use Rattle.std.proofs.Common.{sym, ap, ◌∙◌}
use Rattle.fnv.specs.Fnv.{basis, add_bytes}
use Rattle.fnv.specs.FnvLaws.{add_append}
use Rattle.configuration.specs.Configuration.{Line}
use Rattle.listing.specs.Listing.{text_of}
use Rattle.listing.specs.Code.{code_of}
use Rattle.listing.specs.ListingLaws.{texts_from, whole_listing}

-- a code after adding the texts of k numbers from i on
unfoldable pub codes_from : ℕ → ℕ → ℕ → ℕ → List (List ℕ) → List Line → ℕ
codes_from zero i code n H L = code
codes_from (suc k) i code n H L = codes_from k (suc i) (add_bytes code (text_of i n H L)) n H L

-- it is the code after adding these texts as one
codes_texts : (k i code n : ℕ) (H : List (List ℕ)) (L : List Line) → codes_from k i code n H L ≡ add_bytes code (texts_from k i n H L)
unfolding codes_from texts_from add_bytes
codes_texts zero i code n H L = refl
codes_texts (suc k) i code n H L =
    codes_texts k (suc i) (add_bytes code (text_of i n H L)) n H L ∙ sym (add_append code (text_of i n H L) (texts_from k (suc i) n H L))

-- all numbers' texts added one after the other give the code of the whole
pub code_of_lines : (n : ℕ) (H : List (List ℕ)) (L : List Line) → codes_from (suc (length H + length L)) 0 basis n H L ≡ code_of n H L
code_of_lines n H L = codes_texts (suc (length H + length L)) 0 basis n H L ∙ ap (add_bytes basis) (whole_listing n H L)
