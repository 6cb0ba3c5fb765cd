-- A polynomial of bytes with as many roots as coefficients is zero, so no message has two parities.
use Rattle.std.proofs.Common.{◌≡◌, ℕ, zero, suc, ◌%◌, ◌^◌, ◌<◌, ◌≤◌, Bool, ◌&&◌, T, eqb, List, [], ◌∷◌, ◌++◌, length, sym, refl, ap, ◌∙◌, ap₂, arith, lit<, eqb→eq}
use lib.Bits.{bit_xor, xor_assoc, xor_comm, xor_self, xor_zero_r, xor_lt}
use Rattle.reed.specs.Field.{product, times, doubled, power, sums, value_after, value}
use Rattle.reed.specs.Code.{Bytes, ZeroAtRoots}
use Rattle.computed.proofs.Everywhere.{both_left, both_right, every, at}
use Rattle.reed.proofs.Linear.{Additive, agree, product-xor, product-zero, product_low, value-sums, value-append, length-sums, same-from-xor, swap}
use Rattle.reed.proofs.Sizes.{product_byte, power_byte, bytes_sums, value_byte}
use Rattle.std.specs.List.{AllByRecursion}

-- ---- two roots

-- (s + r) v
both_times : ℕ → ℕ → ℕ → ℕ
both_times s r v = bit_xor (product s v) (product r v)

both_times_xor : (s r : ℕ) → Additive (both_times s r)
unfolding both_times
both_times_xor s r x y = ap₂ bit_xor (product-xor s x y) (product-xor r x y) ∙ swap (product s x) (product s y) (product r x) (product r y)

both_times_zero : (s r : ℕ) → both_times s r 0 ≡ 0
unfolding both_times
both_times_zero s r = ap₂ bit_xor (product-zero s) (product-zero r)

-- the product of a², a⁴, .. , n of them: for n = 7 it is a²⁵⁴, which is 1 / a
inverse : ℕ → ℕ → ℕ
inverse zero a = 1
inverse (suc n) a = let square : ℕ = product a a in product square (inverse n square)

-- 1 / (s + r) takes (s + r) v back to v, and the two products change places
abbrev right : ℕ → ℕ → ℕ → Bool
right s r v = eqb (product (inverse 7 (bit_xor s r)) (both_times s r v)) v && eqb (product s (product r v)) (product r (product s v))

-- at the roots i below j, and each power of two
abbrev right_at : ℕ → ℕ → ℕ → Bool
right_at j i k = right (power i) (power j) (2 ^ k)

all_right : T (every (λ j. every (λ i. every (right_at j i) 8) j) 16)
unfolding inverse both_times product times doubled power
all_right = tt

module _ (i j : ℕ) (below : i < j) (root : j < 16) where
  tested : (k : ℕ) → k < 8 → T (right_at j i k)
  tested k h = at (right_at j i) 8 (at (λ i. every (right_at j i) 8) j (at (λ j. every (λ i. every (right_at j i) 8) j) 16 all_right j root) i below) k h

  undone : (v : ℕ) → v < 256 → product (inverse 7 (bit_xor (power i) (power j))) (both_times (power i) (power j) v) ≡ v
  undone v h =
      let s : ℕ = power i in
      let r : ℕ = power j in
      let c : ℕ = inverse 7 (bit_xor s r) in
      agree (λ (x : ℕ). product c (both_times s r x)) (λ (x : ℕ). x)
      (λ (x y : ℕ). ap (product c) (both_times_xor s r x y) ∙ product-xor c (both_times s r x) (both_times s r y)) (λ (x y : ℕ). refl)
      (ap (product c) (both_times_zero s r) ∙ product-zero c) 8
      (λ k l. eqb→eq (product c (both_times s r (2 ^ k))) (2 ^ k) (both_left _ _ (tested k l))) v h

  cancelled : (v : ℕ) → v < 256 → both_times (power i) (power j) v ≡ 0 → v ≡ 0
  cancelled v h z =
      let c : ℕ = inverse 7 (bit_xor (power i) (power j)) in
      sym (undone v h) ∙ ap (product c) z ∙ product-zero c

  exchanged : (v : ℕ) → product (power i) (product (power j) v) ≡ product (power j) (product (power i) v)
  exchanged v =
      let s : ℕ = power i in
      let r : ℕ = power j in
      ap (product s) (sym (product_low r v))
      ∙ agree (λ (x : ℕ). product s (product r x)) (λ (x : ℕ). product r (product s x))
      (λ (x y : ℕ). ap (product s) (product-xor r x y) ∙ product-xor s (product r x) (product r y))
      (λ (x y : ℕ). ap (product r) (product-xor s x y) ∙ product-xor r (product s x) (product s y))
      (ap (product s) (product-zero r) ∙ product-zero s ∙ sym (ap (product r) (product-zero s) ∙ product-zero r)) 8
      (λ k l. eqb→eq (product s (product r (2 ^ k))) (product r (product s (2 ^ k))) (both_right _ _ (tested k l))) (v % 256) (omega arith)
      ∙ ap (product r) (product_low s v)

-- ---- division by x + r

-- the quotient of what has value a at r before these coefficients; the remainder is the value at r
abbrev quotient : ℕ → ℕ → List ℕ → List ℕ
quotient r a [] = []
quotient r a (x ∷ xs) = a ∷ quotient r (bit_xor (product r a) x) xs

length-quotient : (r a : ℕ) (xs : List ℕ) → length (quotient r a xs) ≡ length xs
length-quotient r a [] = refl
length-quotient r a (x ∷ xs) = ap suc (length-quotient r (bit_xor (product r a) x) xs)

bytes_quotient : (r a : ℕ) (xs : List ℕ) → r < 256 → a < 256 → Bytes xs → Bytes (quotient r a xs)
bytes_quotient r a [] hr ha h = tt
bytes_quotient r a (x ∷ xs) hr ha h = (ha, bytes_quotient r (bit_xor (product r a) x) xs hr (xor_lt 8 (product r a) x (product_byte r a hr) h.0) h.1)

abbrev Zeros : List ℕ → Type 0
Zeros xs = AllByRecursion (λ x. x ≡ 0) xs

-- quotient and remainder zero: the polynomial is zero
zeros_back : (r a : ℕ) (xs : List ℕ) → Zeros (quotient r a xs) → value_after r a xs ≡ 0 → Zeros (a ∷ xs)
zeros_back r a [] q z = (z, tt)
zeros_back r a (x ∷ xs) q z =
    let rest : Zeros (bit_xor (product r a) x ∷ xs) = zeros_back r (bit_xor (product r a) x) xs q.1 z in
    let e : bit_xor (product r a) x ≡ x = ap (λ (y : ℕ). bit_xor y x) (ap (product r) q.0 ∙ product-zero r) in
    (q.0, (sym e ∙ rest.0, rest.1))

regroup : (a b y x : ℕ) → bit_xor (bit_xor a y) x ≡ bit_xor (bit_xor b x) (bit_xor y (bit_xor a b))
regroup a b y x =
    xor_comm (bit_xor a y) x ∙ ap (λ (z : ℕ). bit_xor z (bit_xor x (bit_xor a y))) (sym (xor_self b)) ∙ swap b b x (bit_xor a y)
    ∙ ap (bit_xor (bit_xor b x)) (sym (xor_assoc b a y) ∙ ap (λ (z : ℕ). bit_xor z y) (xor_comm b a) ∙ xor_comm (bit_xor a b) y)

module _ (s r : ℕ) (exchange : (v : ℕ) → product s (product r v) ≡ product r (product s v)) where
  -- polynomial = remainder + (x + r) quotient, at s
  divided : (xs : List ℕ) (a b v : ℕ) → a ≡ bit_xor b (both_times s r v)
      → value_after s a xs ≡ bit_xor (value_after r b xs) (both_times s r (value_after s v (quotient r b xs)))
  unfolding both_times
  divided [] a b v e = e
  divided (x ∷ xs) a b v e =
      let within : product s (both_times s r v) ≡ both_times s r (product s v) = product-xor s (product s v) (product r v) ∙ ap (bit_xor (product s (product s v))) (exchange v) in
      let left : product s a ≡ bit_xor (product s b) (both_times s r (product s v)) = ap (product s) e ∙ product-xor s b (both_times s r v) ∙ ap (bit_xor (product s b)) within in
      divided xs (bit_xor (product s a) x) (bit_xor (product r b) x) (bit_xor (product s v) b)
      (ap (λ (y : ℕ). bit_xor y x) left ∙ regroup (product s b) (product r b) (both_times s r (product s v)) x
      ∙ ap (bit_xor (bit_xor (product r b) x)) (sym (both_times_xor s r (product s v) b)))

-- ---- the law

zero_by_roots : (n : ℕ) (xs : List ℕ) → n ≤ 16 → length xs ≡ n → Bytes xs → ((i : ℕ) → i < n → value (power i) xs ≡ 0) → Zeros xs
unfolding product times
zero_by_roots zero [] m l h z = tt
zero_by_roots zero (x ∷ xs) m l h z = absurd (omega arith)
zero_by_roots (suc n) [] m l h z = absurd (omega arith)
zero_by_roots (suc n) (x ∷ xs) m l h z =
    let r : ℕ = power n in
    let q : List ℕ = quotient r x xs in
    let bq : Bytes q = bytes_quotient r x xs (power_byte n) h.0 h.1 in
    let e : (i : ℕ) → i < n → both_times (power i) r (value (power i) q) ≡ 0 =
    λ i lt.
    ap (λ (y : ℕ). bit_xor y (both_times (power i) r (value (power i) q))) (sym (z n (omega arith)))
    ∙ sym (divided (power i) r (exchanged i n lt (omega arith)) xs x x 0 (sym (xor_zero_r x) ∙ ap (bit_xor x) (sym (both_times_zero (power i) r))))
    ∙ z i (omega arith) in
    zeros_back r x xs
    (zero_by_roots n q (omega arith) (length-quotient r x xs ∙ (omega arith)) bq
    (λ i lt. cancelled i n lt (omega arith) (value (power i) q) (value_byte (power i) 0 q (power_byte i) (lit< tt) bq) (e i lt)))
    (z n (omega arith))

same-from-zeros : (ps qs : List ℕ) → length ps ≡ length qs → Zeros (sums ps qs) → ps ≡ qs
same-from-zeros [] [] l z = refl
same-from-zeros [] (q ∷ qs) l z = absurd (omega arith)
same-from-zeros (p ∷ ps) [] l z = absurd (omega arith)
same-from-zeros (p ∷ ps) (q ∷ qs) l z = ap₂ (λ y ys. y ∷ ys) (same-from-xor p q z.0) (same-from-zeros ps qs (omega arith) z.1)

pub unique : (message ps qs : List ℕ) → length ps ≡ 16 → length qs ≡ 16 → Bytes ps → Bytes qs → ZeroAtRoots (message ++ ps) → ZeroAtRoots (message ++ qs) → ps ≡ qs
unique message ps qs lp lq bp bq zp zq =
    let l : length ps ≡ length qs = lp ∙ sym lq in
    same-from-zeros ps qs l (zero_by_roots 16 (sums ps qs) (omega arith) (length-sums ps qs l ∙ lq) (bytes_sums ps qs bp bq) (λ i h.
    let r : ℕ = power i in
    let a : ℕ = value r message in
    ap (λ (x : ℕ). value_after r x (sums ps qs)) (sym (xor_self a)) ∙ value-sums r ps qs a a l
    ∙ ap₂ bit_xor (sym (value-append r message ps 0) ∙ zp i h) (sym (value-append r message qs 0) ∙ zq i h)))
