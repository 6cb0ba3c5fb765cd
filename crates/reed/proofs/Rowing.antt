-- The two tables of multiples: every row is an exclusive or of one of each.
use Rattle.std.proofs.Common.{◌≡◌, ℕ, ◌+◌, ◌*◌, ◌/◌, ◌%◌, ◌<◌, Bool, true, false, T, List, map, get_or, sym, refl, ap, ◌∙◌, ap₂, arith}
use lib.Bits.{bit_xor, xor_shifted}
use Rattle.reed.specs.Code.{factors, taps}
use Rattle.reed.specs.Field.{doubled, times, product, power, sums, scaled}
use Rattle.reed.specs.Registers.{bytes_of, sixteen}
use Rattle.computed.proofs.Everywhere.{every, at}
use Rattle.reed.proofs.Linear.{scaled-xor}
use Rattle.reed.proofs.Registering.{bytes_xor}
use Rattle.std.specs.List.{range_with_len}
use Rattle.std.specs.Int.Digits.{number_from_digits}
use Rattle.std.specs.Str.{bytes_eq}
use Rattle.std.proofs.lemmas.Slice.Eq.{bytes_eq-Decides}

true_from : (b : Bool) → T b → b ≡ true
true_from true t = refl
true_from false t = absurd t

-- the multiples by 0, step, 2 step, .. , 15 step, each as one number
unfoldable pub multiples : ℕ → List ℕ
multiples step = map (λ k. number_from_digits 256 (scaled (k * step) taps)) (range_with_len 0 16)

abbrev held : ℕ → ℕ → Bool
held step k = bytes_eq (sixteen (get_or (multiples step) k 0)) (scaled (k * step) taps)

module _ (step : ℕ) (test : T (every (held step) 16)) where
  multiples_at : (k : ℕ) → k < 16 → sixteen (get_or (multiples step) k 0) ≡ scaled (k * step) taps
  multiples_at k h =
      (bytes_eq-Decides (sixteen (get_or (multiples step) k 0)) (scaled (k * step) taps)).0 (true_from (held step k) (at (held step) 16 test k h))

higher : T (every (held 16) 16)
unfolding multiples factors product times doubled power bytes_of
higher = tt

lower : T (every (held 1) 16)
unfolding multiples factors product times doubled power bytes_of
lower = tt

pub row_is : (f : ℕ) → f < 256 → sixteen (bit_xor (get_or (multiples 16) (f / 16) 0) (get_or (multiples 1) (f % 16) 0)) ≡ scaled f taps
row_is f lt =
    let whole : f / 16 * 16 + f % 16 ≡ f = omega arith in
    let one : f % 16 * 1 ≡ f % 16 = omega arith in
    bytes_xor 16 (get_or (multiples 16) (f / 16) 0) (get_or (multiples 1) (f % 16) 0)
    ∙ ap₂ sums (multiples_at 16 higher (f / 16) (omega arith)) (multiples_at 1 lower (f % 16) (omega arith) ∙ ap (λ (g : ℕ). scaled g taps) one)
    ∙ sym (scaled-xor taps (f / 16 * 16) (f % 16)) ∙ ap (λ (g : ℕ). scaled g taps) (xor_shifted (f / 16) 4 (f % 16) (omega arith) ∙ whole)
