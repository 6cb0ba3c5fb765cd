-- A block is a multiple of h, and no other 67 bits that begin like it are one.
use Rattle.std.proofs.Common.{◌≡◌, ℕ, zero, suc, ◌+◌, ◌*◌, ◌/◌, ◌%◌, ◌^◌, ◌<◌, ◌≤◌, Bool, true, false, cond, not, leb, ◌⊎◌, List, [], ◌∷◌, ◌++◌, length, take, drop, sym, refl, ap, ◌∙◌, subst, ap₂, inl, inr, append_assoc, mul_assoc, pow-suc, arith, lit<, lit≤, length-append, length-drop, take-append-drop}
use lib.Bits.{bit_xor, xor_comm, xor_assoc, xor_self, xor_zero_l, xor_zero_r, xor_block, xor_shifted}
use Rattle.std.specs.List.{AllByRecursion}
use Rattle.std.proofs.lemmas.Nat.{xor_lt}
use Rattle.std.proofs.lemmas.List.{append-nil}
use Rattle.std.proofs.ByRecursion.{All-append, All-drop}
use Rattle.std.proofs.lemmas.Bool.{cases_lt}
use Rattle.tps.specs.Field.{bits}
use Rattle.tps.specs.Protection.{generator, reduced, remainder_from, polynomial_from, polynomial, product, Codeword}
use Rattle.tps.proofs.Bits.{bits-length, bits_binary}
use Rattle.tps.proofs.Dividing.{remainder_less}

-- sums of polynomials
doubled : (p r b : ℕ) → b < 2 → 2 * bit_xor p r + b ≡ bit_xor (2 * p) (2 * r + b)
doubled p r b h =
    let x : bit_xor (p * 2 + 0) (r * 2 + b) ≡ bit_xor p r * 2 + bit_xor 0 b = xor_block 1 p r 0 b (omega arith) h in
    let l : p * 2 + 0 ≡ 2 * p = omega arith in
    let m : r * 2 + b ≡ 2 * r + b = omega arith in
    omega (arith, x, xor_zero_l b, ap₂ bit_xor l m)

twice : (p r : ℕ) → 2 * bit_xor p r ≡ bit_xor (2 * p) (2 * r)
twice p r =
    let e : 2 * r + 0 ≡ 2 * r = omega arith in
    omega (arith, doubled p r 0 (omega arith), ap (bit_xor (2 * p)) e)

interchange : (a b c d : ℕ) → bit_xor (bit_xor a b) (bit_xor c d) ≡ bit_xor (bit_xor a c) (bit_xor b d)
interchange a b c d =
    xor_assoc a b (bit_xor c d)
    ∙ ap (bit_xor a) (sym (xor_assoc b c d) ∙ ap (λ v. bit_xor v d) (xor_comm b c) ∙ xor_assoc c b d)
    ∙ sym (xor_assoc a c (bit_xor b d))

cancel : (a b : ℕ) → bit_xor (bit_xor a b) b ≡ a
cancel a b = xor_assoc a b b ∙ ap (bit_xor a) (xor_self b) ∙ xor_zero_r a

same_sum : (a b : ℕ) → bit_xor a b ≡ 0 → a ≡ b
same_sum a b e = sym (cancel a b) ∙ ap (λ v. bit_xor v b) e ∙ xor_zero_l b

-- division: what was brought down is the quotient times h and the remainder
brought_down : (t : Bool) (p m : ℕ) → bit_xor p m ≡ bit_xor (bit_xor (cond t generator 0) p) (cond t (bit_xor m generator) m)
brought_down true p m =
    sym (xor_zero_l (bit_xor p m)) ∙ ap (λ v. bit_xor v (bit_xor p m)) (sym (xor_self generator))
    ∙ interchange generator generator p m ∙ ap (bit_xor (bit_xor generator p)) (xor_comm generator m)
brought_down false p m = ap (λ v. bit_xor v m) (sym (xor_zero_l p))

divided : (bs : List ℕ) (n r : ℕ) (q : List Bool) → AllByRecursion (λ b. b < 2) bs → n ≡ bit_xor (product q generator) r
    → (q' : List Bool) × (polynomial_from n bs ≡ bit_xor (product q' generator) (remainder_from r bs))
divided [] n r q a e = (q, e)
divided (b ∷ bs) n r q a e =
    let p = product q generator in
    let m = 2 * r + b in
    let step : 2 * n + b ≡ bit_xor (bit_xor (cond (leb (2 ^ 14) m) generator 0) (2 * p)) (reduced m) =
    ap (λ v. 2 * v + b) e ∙ doubled p r b a.0 ∙ brought_down (leb (2 ^ 14) m) (2 * p) m in
    divided bs (2 * n + b) (reduced m) (leb (2 ^ 14) m ∷ q) a.1 step

-- bits and their polynomial
polynomial-append : (xs ys : List ℕ) (n : ℕ) → polynomial_from n (xs ++ ys) ≡ polynomial_from (polynomial_from n xs) ys
polynomial-append [] ys n = refl
polynomial-append (x ∷ xs) ys n = polynomial-append xs ys (2 * n + x)

polynomial-bits : (w n v : ℕ) → v < 2 ^ w → polynomial_from n (bits w v) ≡ n * 2 ^ w + v
polynomial-bits zero n v h = omega arith
polynomial-bits (suc w) n v h =
    omega (
      arith,
      polynomial-append (bits w (v / 2)) (v % 2 ∷ []) n,
      polynomial-bits w n (v / 2) (omega arith),
      ap (λ v. n * v) (pow-suc 2 w) ∙ sym (mul_assoc n (2 ^ w) 2),
    )

polynomial_less : (bs : List ℕ) (k n : ℕ) → AllByRecursion (λ b. b < 2) bs → n < 2 ^ k → polynomial_from n bs < 2 ^ (k + length bs)
polynomial_less [] k n a h = let e : k ≡ k + 0 = omega arith in subst (λ j. n < 2 ^ j) e h
polynomial_less (b ∷ bs) k n a h =
    let e : suc k + length bs ≡ k + suc (length bs) = omega arith in
    subst (λ j. polynomial_from (2 * n + b) bs < 2 ^ j) e (polynomial_less bs (suc k) (2 * n + b) a.1 (omega (arith, a.0)))

bits-polynomial : (bs : List ℕ) (k n : ℕ) → AllByRecursion (λ b. b < 2) bs → bits (k + length bs) (polynomial_from n bs) ≡ bits k n ++ bs
bits-polynomial [] k n a = let e : k + 0 ≡ k = omega arith in ap (λ j. bits j n) e ∙ sym (append-nil (bits k n))
bits-polynomial (b ∷ bs) k n a =
    let e : k + suc (length bs) ≡ suc k + length bs = omega arith in
    let upper : (2 * n + b) / 2 ≡ n = omega (arith, a.0) in
    let lower : (2 * n + b) % 2 ≡ b = omega (arith, a.0) in
    ap (λ j. bits j (polynomial_from (2 * n + b) bs)) e
    ∙ bits-polynomial bs (suc k) (2 * n + b) a.1
    ∙ append_assoc (bits k ((2 * n + b) / 2)) ((2 * n + b) % 2 ∷ []) bs
    ∙ (λ i. bits k (upper i) ++ (lower i ∷ bs))

-- multiples of h: their sum is one, and none but 0 is below x^14
summed : List Bool → List Bool → List Bool
summed [] q = q
summed (a ∷ p) [] = a ∷ p
summed (a ∷ p) (b ∷ q) = cond a (not b) b ∷ summed p q

product_summed : (p q : List Bool) → product (summed p q) generator ≡ bit_xor (product p generator) (product q generator)
unfolding summed
product_summed [] q = sym (xor_zero_l (product q generator))
product_summed (a ∷ p) [] = sym (xor_zero_r (product (a ∷ p) generator))
product_summed (a ∷ p) (b ∷ q) =
    ap₂ bit_xor (either a b) (ap (λ v. 2 * v) (product_summed p q) ∙ twice (product p generator) (product q generator))
    ∙ interchange (cond a generator 0) (cond b generator 0) (2 * product p generator) (2 * product q generator)
  where
    either : (a b : Bool) → cond (cond a (not b) b) generator 0 ≡ bit_xor (cond a generator 0) (cond b generator 0)
    either true true = refl
    either true false = refl
    either false true = refl
    either false false = refl

least : (q : List Bool) → (product q generator ≡ 0) ⊎ (2 ^ 14 ≤ product q generator)
least [] = inl refl
least (b ∷ q) = go b (product q generator) (least q)
  where
    high : (c p : ℕ) → c < 2 ^ 15 → 2 ^ 14 ≤ p → 2 ^ 14 ≤ bit_xor c (2 * p)
    high c p h k =
        elim (cases_lt (bit_xor c (2 * p)) (2 ^ 15)) [
          | inl l ↦
              let e : bit_xor (bit_xor c (2 * p)) c ≡ 2 * p = ap (λ v. bit_xor v c) (xor_comm c (2 * p)) ∙ cancel (2 * p) c in
              absurd (omega (arith, xor_lt 15 (bit_xor c (2 * p)) c l h, e))
          | inr l ↦ omega arith
        ]

    go : (b : Bool) (p : ℕ) → (p ≡ 0) ⊎ (2 ^ 14 ≤ p) → (bit_xor (cond b generator 0) (2 * p) ≡ 0) ⊎ (2 ^ 14 ≤ bit_xor (cond b generator 0) (2 * p))
    go true p (inl e) = inr (subst (λ v. 2 ^ 14 ≤ bit_xor generator (2 * v)) (sym e) (lit≤ tt))
    go false p (inl e) = inl (ap (λ v. bit_xor 0 (2 * v)) e)
    go true p (inr h) = inr (high generator p (lit< tt) h)
    go false p (inr h) = inr (high 0 p (lit< tt) h)

module _ (I : List ℕ) (sized : length I ≡ 53) (binary : AllByRecursion (λ b. b < 2) I) where
  abbrev R : ℕ
  R = remainder_from 0 (I ++ bits 14 0)

  abbrev V : ℕ
  V = polynomial I

  R_less : R < 2 ^ 14
  R_less = remainder_less (I ++ bits 14 0) 0 (All-append (λ b. b < 2) I (bits 14 0) binary (bits_binary 14 0)) (lit< tt)

  -- I followed by a number of 14 bits
  extended : (n : ℕ) → n < 2 ^ 14 → polynomial (I ++ bits 14 n) ≡ V * 2 ^ 14 + n
  extended n h = polynomial-append I (bits 14 n) 0 ∙ polynomial-bits 14 V n h

  pub block_multiple : (q : List Bool) × (polynomial (I ++ bits 14 R) ≡ product q generator)
  block_multiple =
      let d = divided (I ++ bits 14 0) 0 0 [] (All-append (λ b. b < 2) I (bits 14 0) binary (bits_binary 14 0)) refl in
      let e : V * 2 ^ 14 ≡ bit_xor (product d.0 generator) R = omega (arith, extended 0 (lit< tt), d.1) in
      (d.0, extended R R_less ∙ sym (xor_shifted V 14 R R_less) ∙ ap (λ v. bit_xor v R) e ∙ cancel (product d.0 generator) R)

  pub block_codeword : Codeword (I ++ bits 14 R)
  block_codeword = record {
    sized = omega (arith, length-append I (bits 14 R), bits-length 14 R, sized);
    binary = All-append (λ b. b < 2) I (bits 14 R) binary (bits_binary 14 R);
    multiple = block_multiple;
  }

  pub block_only : (bs : List ℕ) → Codeword bs → take 53 bs ≡ I → bs ≡ I ++ bits 14 R
  block_only bs c e =
      let t = drop 53 bs in
      let a : AllByRecursion (λ b. b < 2) t = All-drop (λ b. b < 2) 53 bs c.binary in
      let l : 0 + length t ≡ 14 = omega (arith, length-drop 53 bs, c.sized) in
      let T = polynomial t in
      let T_less : T < 2 ^ 14 = subst (λ j. T < 2 ^ j) l (polynomial_less t 0 0 a (lit< tt)) in
      let tail : t ≡ bits 14 T = sym (bits-polynomial t 0 0 a) ∙ ap (λ j. bits j T) l in
      let whole : bs ≡ I ++ bits 14 T = sym (take-append-drop 53 bs) ∙ ap₂ (λ (v w : List ℕ). v ++ w) e tail in
      let q = c.multiple in
      let m = block_multiple in
      let d : bit_xor T R ≡ product (summed q.0 m.0) generator =
      sym (xor_block 14 V V T R T_less R_less ∙ ap (λ v. v * 2 ^ 14 + bit_xor T R) (xor_self V) ∙ omega arith)
      ∙ ap₂ bit_xor (sym (extended T T_less) ∙ ap polynomial (sym whole) ∙ q.1) (sym (extended R R_less) ∙ m.1)
      ∙ sym (product_summed q.0 m.0) in
      let none : bit_xor T R ≡ 0 =
      elim (least (summed q.0 m.0)) [ inl z ↦ d ∙ z | inr h ↦ absurd (omega (arith, xor_lt 14 T R T_less R_less, d)) ] in
      whole ∙ ap (λ n. I ++ bits 14 n) (same_sum T R none)
