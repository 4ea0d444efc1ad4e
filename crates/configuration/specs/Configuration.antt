-- Configurations: document 01's standing. "A standing gives each polynomial a whole-number weight. The polynomial 0 is never held. A weight of 0
-- means the line is not held." It is the list of the lines that are held, in the order of their polynomials.
use Rattle.std.specs.Prelude.{◌≡◌, Bool, true, false, cond, not, ◌&&◌, List, [], ◌∷◌, ℕ, suc, ◌^◌, T, leb, ltb, ℤ, pos, ◌+ℤ◌, neg_ℤ, length}
use Rattle.term.specs.Term.{before}
use Rattle.run.specs.Run.{sorted}
use Rattle.polynomial.specs.Polynomial.{eval, order_of}
use Rattle.std.specs.declared.cmp.Ordering.{Ordering}
use Rattle.std.specs.declared.cmp.Ordering.TheVariants.{Less, Equal, Greater}
use Rattle.configuration.specs.Weight.{in_range, is_zero, is_negative, share}

-- a polynomial and its weight
pub data Line : Type 0 where
  line : List ℕ → ℤ → Line

abbrev pub polynomial_of : Line → List ℕ
polynomial_of (line f w) = f

-- a polynomial is not 0
abbrev pub some : List ℕ → Bool
some [] = false
some (t ∷ f) = true

-- a choice by the order of two polynomials
abbrev pub by_order : {A : Type 0} → Ordering → A → A → A → A
by_order Less x y z = x
by_order Equal x y z = y
by_order Greater x y z = z

abbrev pub same : List ℕ → List ℕ → Bool
same f g = by_order (order_of f g) false true false

-- the sum of the weights of the lines whose polynomials pass a test
unfoldable pub total : (List ℕ → Bool) → List Line → ℤ
total test [] = pos 0
total test (line f w ∷ L) = share (test f) w +ℤ total test L

-- "The cost of an assignment is the sum of the weights of the lines that are 1 there."
abbrev pub cost : List Line → ℕ → ℤ
cost L α = total (λ f. eval f α) L

-- the weight of a polynomial: 0 if it is not held
abbrev pub weight : List Line → List ℕ → ℤ
weight L f = total (same f) L

-- a line in front of others, unless its weight is 0
abbrev pub keep : List ℕ → ℤ → List Line → List Line
keep f w L = cond (is_zero w) L (line f w ∷ L)

-- a weighted polynomial folded in at its place: "[f, u] and [f, v] are [f, u + v]"
unfoldable pub fold : List ℕ → ℤ → List Line → List Line
fold f w [] = keep f w []
fold f w (line g u ∷ L) = by_order (order_of f g) (keep f w (line g u ∷ L)) (keep g (u +ℤ w) L) (line g u ∷ fold f w L)

-- the same; "a zero weight or zero polynomial vanishes"
unfoldable pub add : List ℕ → ℤ → List Line → List Line
add [] w L = L
add (t ∷ f) w L = fold (t ∷ f) w L

unfoldable pub add_all : List Line → List Line → List Line
add_all [] L = L
add_all (line f w ∷ C) L = add_all C (add f w L)

-- each weight turned round: what is added instead of being taken away
unfoldable pub negated : List Line → List Line
negated [] = []
negated (line f w ∷ L) = line f (neg_ℤ w) ∷ negated L

-- ---- what holds of a configuration that is kept
-- a polynomial stands before those of every line
abbrev pub IsBehind : List ℕ → List Line → Type 0
IsBehind f [] = Unit {0}
IsBehind f (line g u ∷ L) = (order_of f g ≡ Less) × IsBehind f L

-- in strict order, neither a polynomial 0 nor a weight 0
abbrev pub IsInOrder : List Line → Type 0
IsInOrder [] = Unit {0}
IsInOrder (line f w ∷ L) = T (some f) × (T (not (is_zero w)) × (IsBehind f L × IsInOrder L))

-- what holds of the polynomial of each line
abbrev pub Every : (List ℕ → Type 0) → List Line → Type 0
Every P [] = Unit {0}
Every P (line f w ∷ L) = P f × Every P L

-- how many lines stand before a polynomial
unfoldable pub place_of : List ℕ → List Line → ℕ
place_of f [] = 0
place_of f (line g u ∷ L) = by_order (order_of f g) 0 0 (suc (place_of f L))

-- whether a polynomial is held
unfoldable pub is_held : List ℕ → List Line → Bool
is_held f [] = false
is_held f (line g u ∷ L) = by_order (order_of f g) false true (is_held f L)

-- a list of terms is below 2 ^ n, term by term
unfoldable pub below : ℕ → List ℕ → Bool
below n [] = true
below n (t ∷ f) = ltb t (2 ^ n) && below n f

-- a polynomial of n variables: at most 64 terms, in strict written order
abbrev pub is_polynomial : ℕ → List ℕ → Bool
is_polynomial n f = leb (length f) 64 && (below n f && sorted before f)

-- a line that may be held: neither the polynomial nor the weight is 0
unfoldable pub line_fits : ℕ → Line → Bool
line_fits n (line f w) = some f && (is_polynomial n f && not (is_zero w))

-- every line may be held, and each stands before the next
unfoldable pub lines_fit : ℕ → List Line → Bool
lines_fit n [] = true
lines_fit n (l ∷ []) = line_fits n l
lines_fit n (line f w ∷ line g u ∷ L) = line_fits n (line f w) && (by_order (order_of f g) true false false && lines_fit n (line g u ∷ L))

unfoldable pub weights_fit : List Line → Bool
weights_fit [] = true
weights_fit (line f w ∷ L) = in_range w && weights_fit L

-- what can be held, of n variables: at most 128 lines, each of which fits, in order, every weight in range
abbrev pub is_configuration : ℕ → List Line → Bool
is_configuration n L = leb n 32 && (leb (length L) 128 && (lines_fit n L && weights_fit L))

unfoldable pub any_negative : List Line → Bool
any_negative [] = false
any_negative (line f w ∷ L) = cond (is_negative w) true (any_negative L)
