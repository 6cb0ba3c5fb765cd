-- Products, values and remainders of bytes are bytes, and a remainder has sixteen.
use Rattle.std.proofs.Common.{◌≡◌, ℕ, zero, suc, ◌/◌, ◌%◌, ◌<◌, Bool, T, ltb, List, [], ◌∷◌, ◌++◌, length, get_or, drop, replicate, fold, sym, refl, ◌∙◌, arith, lit<, length-append, length-drop}
use lib.Bits.{bit_xor, xor_lt}
use Rattle.reed.specs.Field.{doubled, gated, times, product, power, sums, scaled, value_after}
use Rattle.reed.specs.Code.{factors, generator, taps, stepped, remainder, Bytes}
use Rattle.computed.proofs.Everywhere.{every, at}
use Rattle.reed.proofs.Linear.{length-sums}
use Rattle.std.proofs.ByRecursion.{All-drop, All-push}
use Rattle.std.proofs.lemmas.List.{length-map}
use Rattle.std.proofs.lemmas.List.Sums.{fold_push}

-- ---- bytes

abbrev narrow : ℕ → Bool
narrow a = ltb (doubled a) 256

all_narrow : T (every narrow 256)
unfolding doubled
all_narrow = tt

pub doubled_byte : (a : ℕ) → a < 256 → doubled a < 256
doubled_byte a h = lit< (at narrow 256 all_narrow a h)

gated_byte : (b a : ℕ) → a < 256 → gated b a < 256
gated_byte zero a h = lit< tt
gated_byte (suc b) a h = h

times_byte : (n a b : ℕ) → a < 256 → times n a b < 256
unfolding times
times_byte zero a b h = lit< tt
times_byte (suc n) a b h = xor_lt 8 (gated (b % 2) a) (times n (doubled a) (b / 2)) (gated_byte (b % 2) a h) (times_byte n (doubled a) (b / 2) (doubled_byte a h))

pub product_byte : (a b : ℕ) → a < 256 → product a b < 256
unfolding product
product_byte a b h = times_byte 8 a b h

pub power_byte : (i : ℕ) → power i < 256
unfolding power
power_byte zero = lit< tt
power_byte (suc i) = doubled_byte (power i) (power_byte i)

pub bytes_scaled : (f : ℕ) (xs : List ℕ) → Bytes xs → Bytes (scaled f xs)
bytes_scaled f [] h = tt
bytes_scaled f (x ∷ xs) h = (product_byte x f h.0, bytes_scaled f xs h.1)

pub bytes_sums : (xs ys : List ℕ) → Bytes xs → Bytes ys → Bytes (sums xs ys)
bytes_sums [] ys h k = tt
bytes_sums (x ∷ xs) [] h k = tt
bytes_sums (x ∷ xs) (y ∷ ys) h k = (xor_lt 8 x y h.0 k.0, bytes_sums xs ys h.1 k.1)

pub value_byte : (r a : ℕ) (xs : List ℕ) → r < 256 → a < 256 → Bytes xs → value_after r a xs < 256
value_byte r a [] hr ha h = ha
value_byte r a (x ∷ xs) hr ha h = value_byte r (bit_xor (product r a) x) xs hr (xor_lt 8 (product r a) x (product_byte r a hr) h.0) h.1

-- ---- the remainder

pub length-taps : length taps ≡ 16
unfolding factors product times doubled power
length-taps = refl

bytes_zeros : (n : ℕ) → Bytes (replicate n 0)
bytes_zeros zero = tt
bytes_zeros (suc n) = (lit< tt, bytes_zeros n)

bytes_push : (xs : List ℕ) → Bytes xs → Bytes (xs ++ 0 ∷ [])
bytes_push xs h = All-push (λ (x : ℕ). x < 256) xs 0 h (lit< tt)

bytes_factors : (n : ℕ) → Bytes (factors n)
unfolding factors
bytes_factors zero = (lit< tt, tt)
bytes_factors (suc n) = bytes_sums (factors n ++ 0 ∷ []) (0 ∷ scaled (power n) (factors n)) (bytes_push (factors n) (bytes_factors n)) (lit< tt, bytes_scaled (power n) (factors n) (bytes_factors n))

pub length-stepped : (r : List ℕ) (b : ℕ) → length r ≡ 16 → length (stepped r b) ≡ 16
length-stepped r b l =
    let f : ℕ = bit_xor b (get_or r 0 0) in
    let m : length (scaled f taps) ≡ 16 = length-map taps (λ x. product x f) ∙ length-taps in
    let e : length (drop 1 r ++ 0 ∷ []) ≡ 16 = simp (length-append, length-drop) (omega arith) in
    length-sums (drop 1 r ++ 0 ∷ []) (scaled f taps) (e ∙ sym m) ∙ m

pub bytes_stepped : (r : List ℕ) (b : ℕ) → Bytes r → Bytes (stepped r b)
bytes_stepped r b h =
    let f : ℕ = bit_xor b (get_or r 0 0) in
    bytes_sums (drop 1 r ++ 0 ∷ []) (scaled f taps) (bytes_push (drop 1 r) (All-drop (λ (x : ℕ). x < 256) 1 r h))
    (bytes_scaled f taps (All-drop (λ (x : ℕ). x < 256) 1 generator (bytes_factors 16)))

length_folded : (xs r : List ℕ) → length r ≡ 16 → length (fold stepped r xs) ≡ 16
length_folded [] r l = l
length_folded (x ∷ xs) r l = length_folded xs (stepped r x) (length-stepped r x l)

bytes_folded : (xs r : List ℕ) → Bytes r → Bytes (fold stepped r xs)
bytes_folded [] r h = h
bytes_folded (x ∷ xs) r h = bytes_folded xs (stepped r x) (bytes_stepped r x h)

pub length-remainder : (message : List ℕ) → length (remainder message) ≡ 16
unfolding remainder
length-remainder message = length_folded message (replicate 16 0) refl

pub bytes_remainder : (message : List ℕ) → Bytes (remainder message)
unfolding remainder
bytes_remainder message = bytes_folded message (replicate 16 0) (bytes_zeros 16)

pub remainder-push : (message : List ℕ) (byte : ℕ) → remainder (message ++ byte ∷ []) ≡ stepped (remainder message) byte
unfolding remainder
remainder-push message byte = fold_push stepped (replicate 16 0) message byte
