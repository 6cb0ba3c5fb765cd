-- Sixteen bytes in one number of 128 bits, the first byte highest.
use Rattle.std.specs.Prelude.{◌≡◌, ℕ, zero, suc, ◌+◌, ◌*◌, ◌/◌, ◌%◌, ◌^◌, ◌<◌, List, [], ◌∷◌}
use Rattle.std.specs.Int.Digits.{number_from_digits, number_from_digits_after}
use Rattle.std.proofs.Common.{sym, ap, ◌∙◌, arith, shr-shr}
use native.Mathlib.Nat.{div-eq_of_lt}

-- the n lowest bytes
unfoldable pub bytes_of : ℕ → ℕ → List ℕ
bytes_of zero x = []
bytes_of (suc n) x = x / 2 ^ (8 * n) % 256 ∷ bytes_of n x

abbrev pub sixteen : ℕ → List ℕ
sixteen x = bytes_of 16 x

-- the number with these bytes
abbrev pub register_of : List ℕ → ℕ
register_of bytes = number_from_digits 256 bytes

-- what stands above the n lowest bytes, and they, are the number
pub completed : (n x above : ℕ) → above ≡ x / 2 ^ (8 * n) → number_from_digits_after 256 above (bytes_of n x) ≡ x
unfolding bytes_of
completed zero x above e = omega (arith, e)
completed (suc n) x above e =
    let split : 8 * suc n ≡ 8 * n + 8 = omega arith in
    let higher : above ≡ x / 2 ^ (8 * n) / 2 ^ 8 = e ∙ ap (λ (k : ℕ). x / 2 ^ k) split ∙ sym (shr-shr x (8 * n) 8) in
    completed n x (above * 256 + x / 2 ^ (8 * n) % 256) (omega (arith, higher))

pub register_of_sixteen : (x : ℕ) → x < 2 ^ 128 → register_of (sixteen x) ≡ x
register_of_sixteen x h = completed 16 x 0 (sym (div-eq_of_lt h))
