-- The bits of a number: how many, each 0 or 1, and they tell the number.
use Rattle.std.proofs.Common.{◌≡◌, ℕ, zero, suc, ◌/◌, ◌%◌, ◌^◌, ◌<◌, List, [], ◌∷◌, length, refl, arith}
use Rattle.std.specs.List.{AllByRecursion}
use Rattle.std.proofs.lemmas.List.{same_from_push, length_push}
use Rattle.std.proofs.ByRecursion.{All-push, All-append}
use Rattle.tps.specs.declared.field.Field.{Field}
use Rattle.tps.specs.Field.{bits, sent}

pub bits-length : (w n : ℕ) → length (bits w n) ≡ w
bits-length zero n = refl
bits-length (suc w) n = omega (arith, length_push (bits w (n / 2)) (n % 2), bits-length w (n / 2))

pub bits-same : (w n m : ℕ) → n < 2 ^ w → m < 2 ^ w → bits w n ≡ bits w m → n ≡ m
bits-same zero n m h k e = omega arith
bits-same (suc w) n m h k e =
    let p = same_from_push (bits w (n / 2)) (bits w (m / 2)) (n % 2) (m % 2) e in
    let q = bits-same w (n / 2) (m / 2) (omega arith) (omega arith) p.0 in
    omega (arith, p.1)

pub bits_binary : (w n : ℕ) → AllByRecursion (λ b. b < 2) (bits w n)
bits_binary zero n = tt
bits_binary (suc w) n = All-push (λ b. b < 2) (bits w (n / 2)) (n % 2) (bits_binary w (n / 2)) (omega arith)

pub sent_binary : (fs : List Field) → AllByRecursion (λ b. b < 2) (sent fs)
sent_binary [] = tt
sent_binary (f ∷ fs) = All-append (λ b. b < 2) (bits f.width f.value) (sent fs) (bits_binary f.width f.value) (sent_binary fs)
