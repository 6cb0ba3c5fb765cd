-- A list that passes one test, which is computed, is a permutation.
use Rattle.std.proofs.Common.{◌≡◌, ℕ, zero, suc, ◌-◌, ◌^◌, ◌<◌, Bool, true, ◌&&◌, eqb, ltb, ◌⊎◌, List, [], ◌∷◌, length, get_or, sym, refl, ap, ◌∙◌, subst, inl, inr, le_of_suc-le-suc, not-suc-le-zero, arith}
use lib.Bits.{bit_or, or_zero_r}
use Rattle.address.specs.Address.{bit}
use Rattle.address.specs.Permutation.{Permutes}
use Rattle.address.proofs.Bitset.{bit-or, bit-zero, bit_one, bit_other, bit_ones, none_of}
use Rattle.std.proofs.lemmas.Bool.{and_parts, cases_eq, eqb-true, ltb-true}

-- each number is below n and not in the set yet; in the end all are
abbrev pub fills : ℕ → List ℕ → ℕ → Bool
fills n [] seen = eqb seen (2 ^ n - 1)
fills n (x ∷ xs) seen = (ltb x n && eqb (bit x seen) 0) && fills n xs (bit_or seen (2 ^ x))

abbrev pub permuting : ℕ → List ℕ → Bool
permuting n xs = eqb (length xs) n && fills n xs 0

module _ (n : ℕ) where
  rest : (x : ℕ) (xs : List ℕ) (seen : ℕ) → fills n (x ∷ xs) seen ≡ true → fills n xs (bit_or seen (2 ^ x)) ≡ true
  rest x xs seen t = (and_parts (ltb x n && eqb (bit x seen) 0) (fills n xs (bit_or seen (2 ^ x))) t).1

  first : (x : ℕ) (xs : List ℕ) (seen : ℕ) → fills n (x ∷ xs) seen ≡ true → (x < n) × (bit x seen ≡ 0)
  first x xs seen t =
      let u = and_parts (ltb x n) (eqb (bit x seen) 0) (and_parts (ltb x n && eqb (bit x seen) 0) (fills n xs (bit_or seen (2 ^ x))) t).0 in
      (ltb-true x n u.0, eqb-true (bit x seen) 0 u.1)

  small : (xs : List ℕ) (seen : ℕ) → fills n xs seen ≡ true → (q : ℕ) → q < length xs → get_or xs q 0 < n
  small [] seen t q h = absurd (not-suc-le-zero h)
  small (x ∷ xs) seen t zero h = (first x xs seen t).0
  small (x ∷ xs) seen t (suc q) h = small xs (bit_or seen (2 ^ x)) (rest x xs seen t) q (le_of_suc-le-suc h)

  new : (xs : List ℕ) (seen : ℕ) → fills n xs seen ≡ true → (q : ℕ) → q < length xs → bit (get_or xs q 0) seen ≡ 0
  new [] seen t q h = absurd (not-suc-le-zero h)
  new (x ∷ xs) seen t zero h = (first x xs seen t).1
  new (x ∷ xs) seen t (suc q) h =
      let y = get_or xs q 0 in
      (none_of (bit y seen) (bit y (2 ^ x)) (sym (bit-or y seen (2 ^ x)) ∙ new xs (bit_or seen (2 ^ x)) (rest x xs seen t) q (le_of_suc-le-suc h))).0

  later : (x : ℕ) (xs : List ℕ) (seen : ℕ) → fills n (x ∷ xs) seen ≡ true → (q : ℕ) → q < length xs → get_or xs q 0 ≡ x → ⊥
  later x xs seen t q h e =
      let y = get_or xs q 0 in
      let z : bit y (2 ^ x) ≡ 0 = (none_of (bit y seen) (bit y (2 ^ x)) (sym (bit-or y seen (2 ^ x)) ∙ new xs (bit_or seen (2 ^ x)) (rest x xs seen t) q h)).1 in
      let o : bit y (2 ^ x) ≡ 1 = subst (λ (m : ℕ). bit m (2 ^ x) ≡ 1) (sym e) (bit_one x) in
      omega arith

  single : (xs : List ℕ) (seen : ℕ) → fills n xs seen ≡ true → (p q : ℕ) → p < length xs → q < length xs → get_or xs p 0 ≡ get_or xs q 0 → p ≡ q
  single [] seen t p q hp hq e = absurd (not-suc-le-zero hp)
  single (x ∷ xs) seen t zero zero hp hq e = refl
  single (x ∷ xs) seen t zero (suc q) hp hq e = absurd (later x xs seen t q (le_of_suc-le-suc hq) (sym e))
  single (x ∷ xs) seen t (suc p) zero hp hq e = absurd (later x xs seen t p (le_of_suc-le-suc hp) e)
  single (x ∷ xs) seen t (suc p) (suc q) hp hq e =
      ap suc (single xs (bit_or seen (2 ^ x)) (rest x xs seen t) p q (le_of_suc-le-suc hp) (le_of_suc-le-suc hq) e)

  met : (xs : List ℕ) (seen : ℕ) → fills n xs seen ≡ true → (k : ℕ) → k < n → (bit k seen ≡ 1) ⊎ ((q : ℕ) × ((q < length xs) × (get_or xs q 0 ≡ k)))
  met [] seen t k h = inl (ap (bit k) (eqb-true seen (2 ^ n - 1) t) ∙ bit_ones k n h)
  met (x ∷ xs) seen t k h =
      elim (met xs (bit_or seen (2 ^ x)) (rest x xs seen t) k h) [
        | inr w ↦ inr (suc w.0, (omega arith, w.1.1))
        | inl b ↦ elim (cases_eq k x) [
          | inl e ↦ inr (0, (omega arith, sym e))
          | inr ne ↦ inl (sym (or_zero_r (bit k seen)) ∙ ap (bit_or (bit k seen)) (sym (bit_other k x ne)) ∙ sym (bit-or k seen (2 ^ x)) ∙ b)
        ]
      ]

pub permutes : (n : ℕ) (xs : List ℕ) → permuting n xs ≡ true → Permutes n xs
permutes n xs t =
    let u = and_parts (eqb (length xs) n) (fills n xs 0) t in
    let s : length xs ≡ n = eqb-true (length xs) n u.0 in
    record {
      size = s;
      within = λ q h. small n xs 0 u.1 q (omega arith);
      apart = λ p q hp hq e. single n xs 0 u.1 p q (omega arith) (omega arith) e;
      reached = λ k h. elim (met n xs 0 u.1 k h) [
        | inl b ↦ absurd (omega (arith, bit-zero k))
        | inr w ↦ (w.0, (omega arith, w.1.1))
      ];
    }
