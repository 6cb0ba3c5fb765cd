-- The sixteen bytes of a number of 128 bits under exclusive or and a shift by one byte.
use Rattle.std.proofs.Common.{◌≡◌, ℕ, zero, suc, ◌+◌, ◌-◌, ◌*◌, ◌/◌, ◌%◌, ◌^◌, ◌<◌, ◌≤◌, [], ◌∷◌, ◌++◌, length, get_or, drop, sym, refl, ap, ◌∙◌, ap₂, arith, shr-shr}
use lib.Bits.{bit_xor, xor_shr, xor_mod}
use lib.Pow.{field, mod-mod-pow, shl-shr, shr_mod}
use Rattle.reed.specs.Code.{Bytes}
use Rattle.reed.specs.Field.{sums}
use Rattle.reed.specs.Registers.{bytes_of, sixteen}

length_bytes : (n x : ℕ) → length (bytes_of n x) ≡ n
unfolding bytes_of
length_bytes zero x = refl
length_bytes (suc n) x = ap suc (length_bytes n x)

pub length-sixteen : (x : ℕ) → length (sixteen x) ≡ 16
length-sixteen x = length_bytes 16 x

bytes_below : (n x : ℕ) → Bytes (bytes_of n x)
unfolding bytes_of
bytes_below zero x = tt
bytes_below (suc n) x = (omega arith, bytes_below n x)

pub bytes-sixteen : (x : ℕ) → Bytes (sixteen x)
bytes-sixteen x = bytes_below 16 x

pub bytes_xor : (n x y : ℕ) → bytes_of n (bit_xor x y) ≡ sums (bytes_of n x) (bytes_of n y)
unfolding bytes_of
bytes_xor zero x y = refl
bytes_xor (suc n) x y =
    ap₂ (λ z zs. z ∷ zs)
    (ap (λ (z : ℕ). z % 256) (xor_shr x y (8 * n)) ∙ xor_mod (x / 2 ^ (8 * n)) (y / 2 ^ (8 * n)) 8)
    (bytes_xor n x y)

-- one place up
byte_moved : (n x : ℕ) → n < 15 → (x * 256) % 2 ^ 128 / 2 ^ (8 * suc n) % 256 ≡ x / 2 ^ (8 * n) % 256
byte_moved n x h =
    let k : ℕ = 8 * suc n in
    let j : ℕ = 120 - k in
    let whole : 128 ≡ j + 8 + k = omega arith in
    let split : k ≡ 8 + 8 * n = omega arith in
    ap (λ (m : ℕ). (x * 256) % 2 ^ m / 2 ^ k % 256) whole ∙ ap (λ (z : ℕ). z % 256) (field (x * 256) (j + 8) k)
    ∙ mod-mod-pow (x * 256 / 2 ^ k) j 8
    ∙ ap (λ (z : ℕ). z % 256) (ap (λ (m : ℕ). x * 256 / 2 ^ m) split ∙ sym (shr-shr (x * 256) 8 (8 * n)) ∙ ap (λ (z : ℕ). z / 2 ^ (8 * n)) (shl-shr x 8))

pub bytes_moved : (n x : ℕ) → n ≤ 15 → bytes_of (suc n) ((x * 256) % 2 ^ 128) ≡ bytes_of n x ++ 0 ∷ []
unfolding bytes_of
bytes_moved zero x h = let e : (x * 256) % 2 ^ 128 / 1 % 256 ≡ 0 = omega arith in ap (λ z. z ∷ []) e
bytes_moved (suc n) x h = ap₂ (λ z zs. z ∷ zs) (byte_moved n x (omega arith)) (bytes_moved n x (omega arith))

pub sixteen-first : (x : ℕ) → x < 2 ^ 128 → x / 2 ^ 120 ≡ get_or (sixteen x) 0 0
unfolding bytes_of
sixteen-first x fits = sym (shr_mod 8 120 fits)

pub sixteen_moved : (x : ℕ) → sixteen ((x * 256) % 2 ^ 128) ≡ drop 1 (sixteen x) ++ 0 ∷ []
unfolding bytes_of
sixteen_moved x = bytes_moved 15 x (omega arith)
