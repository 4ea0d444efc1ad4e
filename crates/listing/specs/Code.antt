-- The code of a listing. Document 01: "the code of the whole listing, newlines included".
use Rattle.std.specs.Prelude.{List, ℕ}
use Rattle.fnv.specs.Fnv.{basis, add_bytes}
use Rattle.configuration.specs.Configuration.{Line}
use Rattle.listing.specs.Listing.{listing_of}

abbrev pub code_of : ℕ → List (List ℕ) → List Line → ℕ
code_of n H L = add_bytes basis (listing_of n H L)
