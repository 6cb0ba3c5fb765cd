-- Long division by h leaves less than x^14.
use Rattle.std.proofs.Common.{◌≡◌, ℕ, ◌+◌, ◌-◌, ◌*◌, ◌^◌, ◌<◌, ◌≤◌, leb, List, [], ◌∷◌, sym, ap, ◌∙◌, arith}
use lib.Bits.{bit_xor, xor_block}
use Rattle.std.specs.List.{AllByRecursion}
use Rattle.std.proofs.lemmas.Nat.{xor_lt}
use Rattle.std.proofs.lemmas.Bool.{cond_both, leb-true, leb-false}
use Rattle.tps.specs.Protection.{generator, reduced, remainder_from}

taken_off : (n : ℕ) → 2 ^ 14 ≤ n → n < 2 ^ 15 → bit_xor n generator < 2 ^ 14
taken_off n h k =
    let m = n - 2 ^ 14 in
    let e : 1 * 2 ^ 14 + m ≡ n = omega arith in
    let x : bit_xor (1 * 2 ^ 14 + m) (1 * 2 ^ 14 + 0x377) ≡ bit_xor 1 1 * 2 ^ 14 + bit_xor m 0x377 = xor_block 14 1 1 m 0x377 (omega arith) (omega arith) in
    let y : bit_xor n generator ≡ bit_xor 1 1 * 2 ^ 14 + bit_xor m 0x377 = ap (λ v. bit_xor v generator) (sym e) ∙ x in
    omega (arith, y, xor_lt 14 m 0x377 (omega arith) (omega arith))

pub reduced_less : (n : ℕ) → n < 2 ^ 15 → reduced n < 2 ^ 14
reduced_less n k =
    cond_both (leb (2 ^ 14) n) (bit_xor n generator) n (λ v. v < 2 ^ 14) (λ e. taken_off n (leb-true (2 ^ 14) n e) k) (λ e. leb-false (2 ^ 14) n e)

pub remainder_less : (bs : List ℕ) (r : ℕ) → AllByRecursion (λ b. b < 2) bs → r < 2 ^ 14 → remainder_from r bs < 2 ^ 14
remainder_less [] r a h = h
remainder_less (b ∷ bs) r a h = remainder_less bs (reduced (2 * r + b)) a.1 (reduced_less (2 * r + b) (omega (arith, a.0)))
