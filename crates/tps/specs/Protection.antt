-- The code that protects a TPS block (EN 300 744, clause 4.6.2.11). A polynomial over the field of two elements is a number: bit k is the coefficient of x^k, and the sum is the exclusive or.
use Rattle.std.specs.Prelude.{◌≡◌, ℕ, ◌+◌, ◌*◌, ◌^◌, ◌<◌, Bool, cond, List, [], ◌∷◌, ◌++◌, length, replicate, bit_xor, nat_le}
use Rattle.std.specs.List.{AllByRecursion}
use Rattle.tps.specs.Field.{bits}

-- h(x), the generator
abbrev pub generator : ℕ
generator = 2 ^ 14 + 2 ^ 9 + 2 ^ 8 + 2 ^ 6 + 2 ^ 5 + 2 ^ 4 + 2 ^ 2 + 2 ^ 1 + 2 ^ 0

-- one step of long division: where the power 14 is reached, h is taken off
abbrev pub reduced : ℕ → ℕ
reduced n = cond (nat_le (2 ^ 14) n) (bit_xor n generator) n

-- the remainder by h, coefficients brought down one by one, that of the highest power first
abbrev pub remainder_from : ℕ → List ℕ → ℕ
remainder_from r [] = r
remainder_from r (b ∷ bs) = remainder_from (reduced (2 * r + b)) bs

-- s54 to s67: the remainder of the 53 bits times x^14
unfoldable pub parity : List ℕ → List ℕ
parity bs = bits 14 (remainder_from 0 (bs ++ replicate 14 0))

-- the polynomial with these coefficients, that of the highest power first
abbrev pub polynomial_from : ℕ → List ℕ → ℕ
polynomial_from n [] = n
polynomial_from n (b ∷ bs) = polynomial_from (2 * n + b) bs

abbrev pub polynomial : List ℕ → ℕ
polynomial = polynomial_from 0

-- the product of two polynomials, the first by its coefficients, that of power 0 first
abbrev pub product : List Bool → ℕ → ℕ
product [] p = 0
product (b ∷ q) p = bit_xor (cond b p 0) (2 * product q p)

-- 67 bits, s1 at power 66, that are a multiple of h
pub record Codeword (bs : List ℕ) : Type 0 where
  pub sized : length bs ≡ 67
  pub binary : AllByRecursion (λ b. b < 2) bs
  pub multiple : (q : List Bool) × (polynomial bs ≡ product q generator)
