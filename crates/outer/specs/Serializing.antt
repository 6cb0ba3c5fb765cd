-- Bytes and their bits, and the rule for the serializer.
use Rattle.std.specs.Prelude.{◌≡◌, ℕ, zero, suc, ◌+◌, ◌-◌, ◌*◌, ◌/◌, ◌%◌, ◌^◌, ◌<◌, ◌≤◌, List, [], ◌∷◌, ◌++◌, length, nat_lt, refl}
use Rattle.std.proofs.Common.{lit≤, length-append, inr, sym, ap, ap₂, ◌∙◌, pow-suc, mul_assoc, add-one, one-add, arith}
use Rattle.std.proofs.Math.Nat.{pow-succ'}
use Rattle.std.proofs.lemmas.Nat.{shr-shr, mul-le}
use Rattle.std.proofs.ByRecursion.{All-push}
use Rattle.std.proofs.lemmas.Bool.{lt-ltb}
use Rattle.stage.proofs.Blocks.{blocks_rule}
use Rattle.stage.specs.Blocks.{Coding}
use Rattle.stage.specs.Model.{some}
use Rattle.stage.specs.Rule.{Rule, Under}
use Rattle.outer.specs.Bits.{last_bits, value_after}
use Rattle.outer.specs.Serializer.{bits_of, byte_of, same, eighths, serializer}

pub length_last_bits : (n x : ℕ) → length (last_bits n x) ≡ n
length_last_bits zero x = refl
length_last_bits (suc n) x = length-append (last_bits n (x / 2)) (x % 2 ∷ []) ∙ omega (arith, length_last_bits n (x / 2))

last_bits_under : (n x : ℕ) → Under 2 (last_bits n x)
last_bits_under zero x = tt
last_bits_under (suc n) x = All-push (λ b. b < 2) (last_bits n (x / 2)) (x % 2) (last_bits_under n (x / 2)) (omega arith)

-- one bit more
pub last_bits_more : (n x b : ℕ) → b < 2 → last_bits (n + 1) (x * 2 + b) ≡ last_bits n x ++ b ∷ []
last_bits_more n x b h =
    let p : (x * 2 + b) / 2 ≡ x = omega arith in
    let q : (x * 2 + b) % 2 ≡ b = omega arith in
    ap (λ k. last_bits k (x * 2 + b)) (add-one n) ∙ ap₂ (λ y c. last_bits n y ++ c ∷ []) p q

-- the first bit
last_bits_first : (n x : ℕ) → last_bits (suc n) x ≡ (x / 2 ^ n) % 2 ∷ last_bits n x
last_bits_first zero x = ap (λ y. y % 2 ∷ []) (omega arith)
last_bits_first (suc n) x =
    ap (λ w. w ++ x % 2 ∷ []) (last_bits_first n (x / 2))
    ∙ ap (λ y. y % 2 ∷ last_bits (suc n) x) (shr-shr x 1 n ∙ ap (λ k. x / 2 ^ k) (one-add n))

value-push : (a b : ℕ) (bs : List ℕ) → value_after a (bs ++ b ∷ []) ≡ value_after a bs * 2 + b
unfolding value_after
value-push a b [] = refl
value-push a b (c ∷ bs) = value-push (a * 2 + c) b bs

-- the bits of a number make the number
value_last_bits : (n x : ℕ) → x < 2 ^ n → value_after 0 (last_bits n x) ≡ x
unfolding value_after
value_last_bits zero x h = omega arith
value_last_bits (suc n) x h =
    value-push 0 (x % 2) (last_bits n (x / 2))
    ∙ omega (arith, value_last_bits n (x / 2) (omega (arith, pow-suc 2 n)))

value_below : (a : ℕ) (bs : List ℕ) → Under 2 bs → value_after a bs < (a + 1) * 2 ^ length bs
unfolding value_after
value_below a [] h = omega arith
value_below a (b ∷ bs) h =
    let r = value_below (a * 2 + b) bs h.1 in
    let p = 2 ^ length bs in
    let s : (a * 2 + b + 1) * p ≤ (a * 2 + 2) * p = mul-le (a * 2 + b + 1) p (a * 2 + 2) p (omega (arith, h.0)) (omega arith) in
    let t : a * 2 + 2 ≡ (a + 1) * 2 = omega arith in
    let e : (a * 2 + 2) * p ≡ (a + 1) * 2 ^ suc (length bs) =
    ap (λ k. k * p) t ∙ mul_assoc (a + 1) 2 p ∙ ap (λ k. (a + 1) * k) (sym (pow-succ' 2 (length bs))) in
    omega (arith, r, s, e)

-- the bits gathered with one more
pub gathered_small : (have bits unit : ℕ) → bits < 2 ^ have → unit < 2 → bits * 2 + unit < 2 ^ (have + 1)
gathered_small have bits unit h u = omega (arith, ap (λ k. 2 ^ k) (add-one have), pow-suc 2 have)

-- what waits of a byte
pub some_last_bits : (n x : ℕ) → some (last_bits n x) ≡ nat_lt 0 n
some_last_bits zero x = refl
some_last_bits (suc n) x = ap some (last_bits_first n x) ∙ sym (lt-ltb 0 (suc n) (omega arith))

pub last_bits_taken : (n x : ℕ) → 0 < n → last_bits n x ≡ (x / 2 ^ (n - 1)) % 2 ∷ last_bits (n - 1) x
last_bits_taken zero x h = absurd (omega arith)
last_bits_taken (suc n) x h =
    let e : n ≡ suc n - 1 = omega arith in
    last_bits_first n x ∙ ap (λ k. (x / 2 ^ k) % 2 ∷ last_bits k x) e

-- the byte that the bits gathered make with one more
pub whole_byte : (n x b : ℕ) → x < 2 ^ n → x * 2 + b ≡ value_after 0 (last_bits n x ++ b ∷ [])
whole_byte n x b h = ap (λ y. y * 2 + b) (sym (value_last_bits n x h)) ∙ sym (value-push 0 b (last_bits n x))

coding : Coding 1 8 256 2 bits_of byte_of
coding = record {
  some_in = lit≤ tt;
  some_out = lit≤ tt;
  sized = sized;
  sends_under = sends_under;
  hears_under = λ k bs l u. (omega (arith, value_below 0 bs u, ap (λ n. 2 ^ n) l), tt);
  undone = undone;
}
  where
    sized : (k : Unit {0}) (b : List ℕ) → length b ≡ 1 → Under 256 b → length (bits_of k b) ≡ 8
    sized k [] l u = absurd (omega arith)
    sized k (x ∷ xs) l u = length_last_bits 8 x

    sends_under : (k : Unit {0}) (b : List ℕ) → length b ≡ 1 → Under 256 b → Under 2 (bits_of k b)
    sends_under k [] l u = tt
    sends_under k (x ∷ xs) l u = last_bits_under 8 x

    undone : (k : Unit {0}) (b : List ℕ) → length b ≡ 1 → Under 256 b → byte_of k (bits_of k b) ≡ b
    undone k [] l u = absurd (omega arith)
    undone k (x ∷ []) l u = ap (λ y. y ∷ []) (value_last_bits 8 x u.0)
    undone k (x ∷ y ∷ ys) l u = absurd (omega arith)

pub serializer_rule : Rule serializer
serializer_rule =
    blocks_rule same coding eighths (λ m j h. omega arith) tt (inr (8, lit≤ tt, lit≤ tt, refl)) (inr (1, lit≤ tt, lit≤ tt, refl)) (λ m n h. omega arith)
