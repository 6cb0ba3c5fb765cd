-- The outer code of EN 300 744, clause 4.3.2: Reed–Solomon (204,188), shortened from (255,239).
use Rattle.std.specs.Prelude.{◌≡◌, ℕ, zero, suc, ◌<◌, List, [], ◌∷◌, ◌++◌, length, drop, replicate, fold, bit_xor, slice_index}
use Rattle.reed.specs.Field.{power, sums, scaled, value}
use Rattle.std.specs.List.{AllByRecursion}

-- (x + λ⁰)(x + λ¹) .. , n factors: x times the polynomial, and λⁿ times it
unfoldable pub factors : ℕ → List ℕ
factors zero = 1 ∷ []
factors (suc n) = sums (factors n ++ 0 ∷ []) (0 ∷ scaled (power n) (factors n))

-- g(x)
abbrev pub generator : List ℕ
generator = factors 16

-- g(x) below its leading x¹⁶
abbrev pub taps : List ℕ
taps = drop 1 generator

-- the remainder of (r(x) x + byte x¹⁶) by g(x): the sixteen move up by one place, and what falls out comes back through the taps
abbrev pub stepped : List ℕ → ℕ → List ℕ
stepped r byte = sums (drop 1 r ++ 0 ∷ []) (scaled (bit_xor byte (slice_index r 0)) taps)

-- the remainder of message(x) x¹⁶ by g(x), byte by byte
unfoldable pub remainder : List ℕ → List ℕ
remainder message = fold stepped (replicate 16 0) message

abbrev pub Bytes : List ℕ → Type 0
Bytes xs = AllByRecursion (λ x. x < 256) xs

-- zero at the powers 0 to 15 of λ
abbrev pub ZeroAtRoots : List ℕ → Type 0
ZeroAtRoots xs = (i : ℕ) → i < 16 → value (power i) xs ≡ 0

abbrev pub Codeword : List ℕ → Type 0
Codeword xs = (length xs ≡ 204) × ZeroAtRoots xs

-- the remainder is the one parity of a message
pub record ParityOf (message : List ℕ) : Type 0 where
  pub sixteen : length (remainder message) ≡ 16
  pub bytes : Bytes (remainder message)
  pub vanishes : ZeroAtRoots (message ++ remainder message)
  pub only : (others : List ℕ) → length others ≡ 16 → Bytes others → ZeroAtRoots (message ++ others) → others ≡ remainder message

abbrev pub CodeHolds : Type 0
CodeHolds = (message : List ℕ) → ParityOf message
