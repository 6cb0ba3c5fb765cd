-- A natural number as a set of numbers: k is in s where bit k of s is set.
use Rattle.std.proofs.Common.{◌≡◌, ℕ, suc, ◌+◌, ◌-◌, ◌*◌, ◌/◌, ◌%◌, ◌^◌, ◌<◌, ◌≢◌, sym, ap, ◌∙◌, subst, inl, inr, one-mul, pow-suc, arith, pow_pos, pow-add}
use native.Mathlib.Nat.{zero-div, div-eq_of_lt, mul-mod_left}
use lib.Bits.{bit_or, or_shr, or_mod, or_add_and, and_le_l, and_le_r}
use lib.Pow.{pow-lt, shl-shr, ones_split, ones_lt, high}
use Rattle.address.specs.Address.{bit}
use Rattle.std.proofs.lemmas.Bool.{cases_order}

pub bit-or : (k a b : ℕ) → bit k (bit_or a b) ≡ bit_or (bit k a) (bit k b)
bit-or k a b = ap (λ (x : ℕ). x % 2) (or_shr a b k) ∙ or_mod (a / 2 ^ k) (b / 2 ^ k) 1

pub bit-zero : (k : ℕ) → bit k 0 ≡ 0
bit-zero k = ap (λ (x : ℕ). x % 2) (zero-div (2 ^ k))

pub bit_one : (k : ℕ) → bit k (2 ^ k) ≡ 1
bit_one k = ap (λ (x : ℕ). x % 2) (ap (λ (x : ℕ). x / 2 ^ k) (sym (one-mul (2 ^ k))) ∙ shl-shr 1 k)

above : (k j : ℕ) → bit k (2 ^ (suc j + k)) ≡ 0
above k j = ap (λ (x : ℕ). x % 2) (ap (λ (x : ℕ). x / 2 ^ k) (pow-add 2 (suc j) k) ∙ shl-shr (2 ^ suc j) k) ∙ ap (λ (x : ℕ). x % 2) (pow-suc 2 j) ∙ mul-mod_left (2 ^ j) 2

pub bit_other : (k h : ℕ) → k ≢ h → bit k (2 ^ h) ≡ 0
bit_other k h ne =
    elim (cases_order k h) [
      | inl e ↦ absurd (ne e)
      | inr o ↦ elim o [
        | inl lt ↦
            let j : ℕ = h - k - 1 in
            let e : suc j + k ≡ h = omega arith in
            subst (λ (x : ℕ). bit k (2 ^ x) ≡ 0) e (above k j)
        | inr gt ↦ ap (λ (x : ℕ). x % 2) (div-eq_of_lt (pow-lt gt))
      ]
    ]

pub bit_ones : (k n : ℕ) → k < n → bit k (2 ^ n - 1) ≡ 1
bit_ones k n h =
    let j : ℕ = n - k - 1 in
    let e : suc j + k ≡ n = omega arith in
    subst (λ (x : ℕ). bit k (2 ^ x - 1) ≡ 1) e
    (ap (λ (x : ℕ). x / 2 ^ k % 2) (ones_split (suc j) k) ∙ ap (λ (x : ℕ). x % 2) (high (2 ^ suc j - 1) k (ones_lt k))
    ∙ (let p : 2 ^ suc j ≡ 2 ^ j * 2 = pow-suc 2 j in
    let q : 0 < 2 ^ j = pow_pos j in
    omega arith))

-- nothing is in the union of two sets but what is in one of them
pub none_of : (a b : ℕ) → bit_or a b ≡ 0 → (a ≡ 0) × (b ≡ 0)
none_of a b e = omega (arith, or_add_and a b, and_le_l a b, and_le_r a b)
