-- The kinds of records. Document 01: "Each record is one byte of kind, then a body whose length the kind fixes."
use Rattle.std.specs.Prelude.{ℕ}
use Prim.Native.Char.{code}

-- ---- in a filing: variables, a term, a weight, a clause, a hard polynomial
abbrev pub letter_v : ℕ
letter_v = code "V"

abbrev pub letter_m : ℕ
letter_m = code "M"

abbrev pub letter_w : ℕ
letter_w = code "W"

abbrev pub letter_c : ℕ
letter_c = code "C"

abbrev pub letter_h : ℕ
letter_h = code "H"

-- ---- in a derivation: the plain and the signed mode, a term (M), the choice of f, the steps SUM and PROD, a hard step, the claim
abbrev pub letter_n : ℕ
letter_n = code "N"

abbrev pub letter_z : ℕ
letter_z = code "Z"

abbrev pub letter_k : ℕ
letter_k = code "K"

abbrev pub letter_s : ℕ
letter_s = code "S"

abbrev pub letter_p : ℕ
letter_p = code "P"

abbrev pub letter_e : ℕ
letter_e = code "E"

abbrev pub letter_b : ℕ
letter_b = code "B"
