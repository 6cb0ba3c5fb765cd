-- The register stays a number of fifteen bits from place to place, and the masks are bytes.
use Rattle.std.specs.Prelude.{◌≡◌, ℕ, zero, suc, ◌+◌, ◌/◌, ◌%◌, ◌<◌, cond, ◌==◌, bit_xor, refl}
use Rattle.std.proofs.Common.{ap, subst, add-one, arith, lit<}
use Rattle.std.proofs.lemmas.Nat.{and_le_r}
use Rattle.dispersal.specs.Noise.{loaded, run, outputs, shifted, moved_on, before, masked, mask}
use Rattle.dispersal.specs.Octets.{octet}
use Rattle.std.proofs.lemmas.Bool.{cond_both}

run_lt : (n r : ℕ) → r < 32768 → run n r < 32768
unfolding run
run_lt zero r h = h
run_lt (suc n) r h = run_lt n (shifted r) (omega arith)

pub before_lt : (k : ℕ) → before k < 32768
unfolding before
before_lt zero = lit< tt
before_lt (suc k) = cond_both (k == 0) (before k) (run 8 (before k)) (λ r. r < 32768) (λ e. before_lt k) (λ e. run_lt 8 (before k) (before_lt k))

pub before-first : (k : ℕ) → k ≡ 0 → before k ≡ loaded
unfolding before
before-first k e = ap before e

pub before-next : (k : ℕ) → before (k + 1) ≡ moved_on k (before k)
unfolding before
before-next k = ap before (add-one k)

pub mask_is : (k : ℕ) → mask k ≡ masked k (outputs 8 0 (before k))
unfolding mask
mask_is k = refl

outputs_byte : (r : ℕ) → r < 32768 → outputs 8 0 r < 256
outputs_byte r h = subst (λ m. m < 256) (octet r h) (omega (arith, and_le_r (bit_xor (r / 128) (r / 64)) 255))

pub mask_byte : (k : ℕ) → mask k < 256
unfolding mask
mask_byte k =
    let out = outputs 8 0 (before k) in
    cond_both (k == 0) 255 (cond (k % 188 == 0) 0 out) (λ m. m < 256) (λ e. omega arith)
    (λ e. cond_both (k % 188 == 0) 0 out (λ m. m < 256) (λ d. omega arith) (λ d. outputs_byte (before k) (before_lt k)))
