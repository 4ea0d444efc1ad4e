-- A product modulo 2 ^ (k + k), by halves of k digits. Definitions only.
use Rattle.std.specs.Prelude.{ℕ, ◌+◌, ◌*◌, ◌/◌, ◌%◌, ◌^◌}

-- the low halves multiplied in full, and the low half of the cross products, shifted; the product of the high halves drops out
unfoldable pub product_by_halves : ℕ → ℕ → ℕ → ℕ
product_by_halves k a b =
    ((a % 2 ^ k) * (b % 2 ^ k) + ((a / 2 ^ k) * (b % 2 ^ k) % 2 ^ k + (a % 2 ^ k) * (b / 2 ^ k) % 2 ^ k) % 2 ^ k * 2 ^ k % 2 ^ (k + k)) % 2 ^ (k + k)
