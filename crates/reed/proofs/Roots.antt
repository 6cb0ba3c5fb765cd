-- A message with its remainder is zero at the sixteen roots.
use Rattle.std.proofs.Common.{◌≡◌, ℕ, ◌+◌, ◌*◌, ◌/◌, ◌%◌, ◌^◌, ◌<◌, Bool, T, eqb, List, [], ◌∷◌, ◌++◌, length, replicate, fold, sym, refl, ap, ◌∙◌, subst, ap₂, arith, eqb→eq}
use lib.Bits.{bit_xor, xor_self, xor_zero_r}
use Rattle.reed.specs.Field.{product, times, doubled, power, sums, scaled, value_after}
use Rattle.reed.specs.Code.{factors, taps, stepped, remainder, ZeroAtRoots}
use Rattle.computed.proofs.Everywhere.{every, at}
use Rattle.reed.proofs.Linear.{agree, product-zero, product_low, scaled-xor, scaled_low, value-sums, value-append, swap}
use Rattle.reed.proofs.Sizes.{length-taps, length-stepped}
use Rattle.std.proofs.lemmas.List.{length-map, length_push}

-- f times g(x), at r
multiple : ℕ → ℕ → ℕ
multiple r f = value_after r f (scaled f taps)

multiple_xor : (r x y : ℕ) → multiple r (bit_xor x y) ≡ bit_xor (multiple r x) (multiple r y)
unfolding multiple
multiple_xor r x y =
    ap (value_after r (bit_xor x y)) (scaled-xor taps x y)
    ∙ value-sums r (scaled x taps) (scaled y taps) x y (length-map taps (λ z. product z x) ∙ sym (length-map taps (λ z. product z y)))

-- only the eight lowest bits of f count
low : (r f : ℕ) (cs : List ℕ) → 0 < length cs → value_after r (f % 256) (scaled (f % 256) cs) ≡ value_after r f (scaled f cs)
low r f [] h = absurd (omega arith)
low r f (c ∷ cs) h =
    ap (value_after r (f % 256)) (scaled_low (c ∷ cs) f)
    ∙ ap (λ (x : ℕ). value_after r (bit_xor x (product c f)) (scaled f cs)) (product_low r f)

multiple_low : (r f : ℕ) → multiple r (f % 256) ≡ multiple r f
unfolding multiple
multiple_low r f = low r f taps (omega (arith, length-taps))

-- the eight powers of two at the sixteen roots
abbrev vanishes : ℕ → Bool
vanishes n = eqb (multiple (power (n / 8)) (2 ^ (n % 8))) 0

all_vanish : T (every vanishes 128)
unfolding multiple factors product times doubled power
all_vanish = tt

module _ (i : ℕ) (root : i < 16) where
  at_basis : (k : ℕ) → k < 8 → multiple (power i) (2 ^ k) ≡ 0
  at_basis k h =
      let n : ℕ = i * 8 + k in
      let p : n / 8 ≡ i = omega arith in
      let q : n % 8 ≡ k = omega arith in
      subst (λ (j : ℕ). multiple (power j) (2 ^ k) ≡ 0) p
      (subst (λ (j : ℕ). multiple (power (n / 8)) (2 ^ j) ≡ 0) q (eqb→eq (multiple (power (n / 8)) (2 ^ (n % 8))) 0 (at vanishes 128 all_vanish n (omega arith))))

  multiple_none : multiple (power i) 0 ≡ 0
  unfolding multiple factors product times doubled
  multiple_none = refl

  multiple_zero : (f : ℕ) → multiple (power i) f ≡ 0
  multiple_zero f =
      sym (multiple_low (power i) f)
      ∙ agree (multiple (power i)) (λ (x : ℕ). 0) (multiple_xor (power i)) (λ (x y : ℕ). refl) multiple_none 8 at_basis (f % 256) (omega arith)

  -- one more byte keeps the value zero
  step : (a b p : ℕ) (ps : List ℕ) → length ps ≡ 15 → value_after (power i) a (p ∷ ps) ≡ 0
      → value_after (power i) (bit_xor (product (power i) a) b) (stepped (p ∷ ps) b) ≡ 0
  unfolding multiple
  step a b p ps l z =
      let r : ℕ = power i in
      let x : ℕ = product r a in
      let f : ℕ = bit_xor b p in
      let m : length (ps ++ 0 ∷ []) ≡ length (scaled f taps) = length_push ps 0 ∙ (omega arith) ∙ sym (length-map taps (λ y. product y f) ∙ length-taps) in
      let low : value_after r (bit_xor x p) (ps ++ 0 ∷ []) ≡ 0 = value-append r ps (0 ∷ []) (bit_xor x p) ∙ xor_zero_r (product r (value_after r (bit_xor x p) ps)) ∙ ap (product r) z ∙ product-zero r in
      ap (λ (y : ℕ). value_after r y (sums (ps ++ 0 ∷ []) (scaled f taps))) (sym (swap x p b p ∙ ap (bit_xor (bit_xor x b)) (xor_self p) ∙ xor_zero_r (bit_xor x b)))
      ∙ value-sums r (ps ++ 0 ∷ []) (scaled f taps) (bit_xor x p) f m
      ∙ ap₂ bit_xor low (multiple_zero f)

  all : (bs ps : List ℕ) (a : ℕ) → length ps ≡ 16 → value_after (power i) a ps ≡ 0 → value_after (power i) (value_after (power i) a bs) (fold stepped ps bs) ≡ 0
  all [] ps a l z = z
  all (b ∷ bs) [] a l z = absurd (omega arith)
  all (b ∷ bs) (p ∷ ps) a l z =
      all bs (stepped (p ∷ ps) b) (bit_xor (product (power i) a) b) (length-stepped (p ∷ ps) b l) (step a b p ps (omega arith) z)

pub vanishing : (message : List ℕ) → ZeroAtRoots (message ++ remainder message)
unfolding product times remainder
vanishing message i h = value-append (power i) message (remainder message) 0 ∙ all i h message (replicate 16 0) 0 refl refl
