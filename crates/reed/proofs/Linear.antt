-- A product in its second factor, and a polynomial's value, are linear over exclusive or.
use Rattle.std.proofs.Common.{◌≡◌, ℕ, zero, suc, ◌+◌, ◌-◌, ◌*◌, ◌/◌, ◌%◌, ◌^◌, ◌<◌, List, [], ◌∷◌, ◌++◌, length, sym, refl, ap, ◌∙◌, ap₂, inl, inr, one-mul, pow-suc, add-one, arith}
use lib.Arith.{lt-one}
use lib.Bits.{bit_xor, xor_assoc, xor_comm, xor_self, xor_zero_r, xor_shr, xor_mod, xor_shifted}
use lib.Pow.{field, mod-mod-pow}
use Rattle.reed.specs.Field.{gated, times, product, doubled, sums, scaled, value_after}
use Rattle.std.proofs.lemmas.Bool.{cases_lt}

-- ---- exclusive or

pub swap : (a b c d : ℕ) → bit_xor (bit_xor a b) (bit_xor c d) ≡ bit_xor (bit_xor a c) (bit_xor b d)
swap a b c d =
    xor_assoc a b (bit_xor c d)
    ∙ ap (bit_xor a) (sym (xor_assoc b c d) ∙ ap (λ (x : ℕ). bit_xor x d) (xor_comm b c) ∙ xor_assoc c b d)
    ∙ sym (xor_assoc a c (bit_xor b d))

pub same-from-xor : (a b : ℕ) → bit_xor a b ≡ 0 → a ≡ b
same-from-xor a b e = sym (xor_zero_r a) ∙ ap (bit_xor a) (sym (xor_self b)) ∙ sym (xor_assoc a b b) ∙ ap (λ (x : ℕ). bit_xor x b) e

abbrev pub Additive : (ℕ → ℕ) → Type 0
Additive F = (x y : ℕ) → F (bit_xor x y) ≡ bit_xor (F x) (F y)

-- two additive functions that agree at the powers of two agree
pub agree : (F G : ℕ → ℕ) → Additive F → Additive G → F 0 ≡ G 0 → (n : ℕ) → ((k : ℕ) → k < n → F (2 ^ k) ≡ G (2 ^ k)) → (x : ℕ) → x < 2 ^ n → F x ≡ G x
agree F G f g z zero h x lt = ap F (lt-one lt) ∙ z ∙ sym (ap G (lt-one lt))
agree F G f g z (suc n) h x lt =
    elim (cases_lt x (2 ^ n)) [
      | inl low ↦ agree F G f g z n (λ k l. h k (omega arith)) x low
      | inr high ↦
          let y : ℕ = x - 2 ^ n in
          let p : 2 ^ suc n ≡ 2 ^ n * 2 = pow-suc 2 n in
          let ly : y < 2 ^ n = omega arith in
          let e : x ≡ bit_xor (2 ^ n) y = sym (ap (λ (m : ℕ). bit_xor m y) (sym (one-mul (2 ^ n))) ∙ xor_shifted 1 n y ly ∙ (omega (arith, one-mul (2 ^ n)))) in
          ap F e ∙ f (2 ^ n) y ∙ ap₂ bit_xor (h n (omega arith)) (agree F G f g z n (λ k l. h k (omega arith)) y ly) ∙ sym (ap G e ∙ g (2 ^ n) y)
    ]

-- ---- products

gated-xor : (a x y : ℕ) → x < 2 → y < 2 → gated (bit_xor x y) a ≡ bit_xor (gated x a) (gated y a)
gated-xor a zero y hx hy = refl
gated-xor a (suc zero) zero hx hy = sym (xor_zero_r a)
gated-xor a (suc zero) (suc zero) hx hy = sym (xor_self a)
gated-xor a (suc zero) (suc (suc y)) hx hy = absurd (omega arith)
gated-xor a (suc (suc x)) y hx hy = absurd (omega arith)

times-xor : (n a b c : ℕ) → times n a (bit_xor b c) ≡ bit_xor (times n a b) (times n a c)
unfolding times
times-xor zero a b c = refl
times-xor (suc n) a b c =
    ap₂ bit_xor
    (ap (λ (x : ℕ). gated x a) (xor_mod b c 1) ∙ gated-xor a (b % 2) (c % 2) (omega arith) (omega arith))
    (ap (times n (doubled a)) (xor_shr b c 1) ∙ times-xor n (doubled a) (b / 2) (c / 2))
    ∙ swap (gated (b % 2) a) (gated (c % 2) a) (times n (doubled a) (b / 2)) (times n (doubled a) (c / 2))

pub product-xor : (a : ℕ) → Additive (product a)
unfolding product
product-xor a b c = times-xor 8 a b c

pub product-zero : (a : ℕ) → product a 0 ≡ 0
unfolding product times
product-zero a = refl

-- only the n lowest bits count
times_low : (n a b : ℕ) → times n a (b % 2 ^ n) ≡ times n a b
unfolding times
times_low zero a b = refl
times_low (suc n) a b =
    let e : b % 2 ^ suc n ≡ b % 2 ^ (n + 1) = ap (λ (k : ℕ). b % 2 ^ k) (sym (add-one n)) in
    ap₂ (λ (x y : ℕ). bit_xor (gated x a) (times n (doubled a) y))
    (ap (λ (x : ℕ). x % 2) e ∙ mod-mod-pow b n 1)
    (ap (λ (x : ℕ). x / 2) e ∙ field b n 1)
    ∙ ap (λ (y : ℕ). bit_xor (gated (b % 2) a) y) (times_low n (doubled a) (b / 2))

pub product_low : (a b : ℕ) → product a (b % 256) ≡ product a b
unfolding product
product_low a b = times_low 8 a b

-- ---- polynomials

pub scaled-xor : (xs : List ℕ) (f g : ℕ) → scaled (bit_xor f g) xs ≡ sums (scaled f xs) (scaled g xs)
scaled-xor [] f g = refl
scaled-xor (x ∷ xs) f g = ap₂ (λ y ys. y ∷ ys) (product-xor x f g) (scaled-xor xs f g)

pub scaled_low : (xs : List ℕ) (f : ℕ) → scaled (f % 256) xs ≡ scaled f xs
scaled_low [] f = refl
scaled_low (x ∷ xs) f = ap₂ (λ y ys. y ∷ ys) (product_low x f) (scaled_low xs f)

pub length-sums : (xs ys : List ℕ) → length xs ≡ length ys → length (sums xs ys) ≡ length ys
length-sums [] [] l = refl
length-sums [] (y ∷ ys) l = absurd (omega arith)
length-sums (x ∷ xs) [] l = absurd (omega arith)
length-sums (x ∷ xs) (y ∷ ys) l = ap suc (length-sums xs ys (omega arith))

module _ (r : ℕ) where
  pub value-sums : (xs ys : List ℕ) (a b : ℕ) → length xs ≡ length ys
      → value_after r (bit_xor a b) (sums xs ys) ≡ bit_xor (value_after r a xs) (value_after r b ys)
  value-sums [] [] a b l = refl
  value-sums [] (y ∷ ys) a b l = absurd (omega arith)
  value-sums (x ∷ xs) [] a b l = absurd (omega arith)
  value-sums (x ∷ xs) (y ∷ ys) a b l =
      ap (λ (z : ℕ). value_after r (bit_xor z (bit_xor x y)) (sums xs ys)) (product-xor r a b)
      ∙ ap (λ (z : ℕ). value_after r z (sums xs ys)) (swap (product r a) (product r b) x y)
      ∙ value-sums xs ys (bit_xor (product r a) x) (bit_xor (product r b) y) (omega arith)

  pub value-append : (xs ys : List ℕ) (a : ℕ) → value_after r a (xs ++ ys) ≡ value_after r (value_after r a xs) ys
  value-append [] ys a = refl
  value-append (x ∷ xs) ys a = value-append xs ys (bit_xor (product r a) x)
