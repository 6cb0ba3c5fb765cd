-- The field of 256 elements of EN 300 744, clause 4.3.2: bytes as polynomials over two elements, modulo p(x) = x⁸ + x⁴ + x³ + x² + 1.
-- A sum is the exclusive or. A polynomial over the field is the list of its coefficients, the highest first.
use Rattle.std.specs.Prelude.{ℕ, zero, suc, ◌*◌, ◌/◌, ◌%◌, cond, List, [], ◌∷◌, map, bit_xor, nat_lt}

-- λ = 02 hex times a, reduced by p(x), which is 11D hex
unfoldable pub doubled : ℕ → ℕ
doubled a = cond (nat_lt a 128) (2 * a) (bit_xor (2 * a) 0x11D)

-- a, or nothing, as the bit says
abbrev pub gated : ℕ → ℕ → ℕ
gated zero a = 0
gated (suc b) a = a

-- a times the n lowest bits of b
unfoldable pub times : ℕ → ℕ → ℕ → ℕ
times zero a b = 0
times (suc n) a b = bit_xor (gated (b % 2) a) (times n (doubled a) (b / 2))

unfoldable pub product : ℕ → ℕ → ℕ
product a b = times 8 a b

-- λ to the power i
unfoldable pub power : ℕ → ℕ
power zero = 1
power (suc i) = doubled (power i)

-- ---- polynomials

-- the sum of two of one length
abbrev pub sums : List ℕ → List ℕ → List ℕ
sums [] ys = []
sums (x ∷ xs) [] = []
sums (x ∷ xs) (y ∷ ys) = bit_xor x y ∷ sums xs ys

abbrev pub scaled : ℕ → List ℕ → List ℕ
scaled f xs = map (λ x. product x f) xs

-- the value at r, where the coefficients before these gave a
abbrev pub value_after : ℕ → ℕ → List ℕ → ℕ
value_after r a [] = a
value_after r a (x ∷ xs) = value_after r (bit_xor (product r a) x) xs

abbrev pub value : ℕ → List ℕ → ℕ
value r xs = value_after r 0 xs
