-- A block is sent: its fields, zeros in the place of the parity, and then the parity.
use Rattle.std.proofs.Common.{◌≡◌, ℕ, ◌<◌, List, ◌++◌, length, take, refl, ap, ◌∙◌, arith, length-append}
use Rattle.std.specs.List.{AllByRecursion}
use Rattle.std.proofs.lemmas.List.{take_at}
use Rattle.std.proofs.ByRecursion.{All-append}
use Rattle.settings.specs.declared.Settings.{Settings}
use Rattle.tps.specs.declared.field.Field.{Field}
use Rattle.tps.specs.Field.{bits, field, sent}
use Rattle.tps.specs.Protection.{remainder_from, parity}
use Rattle.tps.specs.Block.{fields, information, block}
use Rattle.tps.proofs.Bits.{sent_binary, bits-length, bits_binary}

pub information-length : (s : Settings) (frame : ℕ) → length (information s frame) ≡ 53
unfolding information
information-length s frame = refl

pub information_binary : (s : Settings) (frame : ℕ) → AllByRecursion (λ b. b < 2) (information s frame)
unfolding information
information_binary s frame = sent_binary (fields s frame)

-- the fields, and zeros behind them
pub spaced : (s : Settings) (frame : ℕ) {fs : List Field} {zeros : Field} {front b : List ℕ} → fs ≡ fields s frame → zeros ≡ field 14 0
    → front ≡ sent fs → b ≡ front ++ bits zeros.width zeros.value → b ≡ information s frame ++ bits 14 0
unfolding information
spaced s frame {front = front} fields_is zeros_is front_is b_is =
    b_is ∙ ap (λ (f : Field). front ++ bits f.width f.value) zeros_is ∙ ap (λ xs. xs ++ bits 14 0) (front_is ∙ ap sent fields_is)

pub spaced_binary : (s : Settings) (frame : ℕ) → AllByRecursion (λ b. b < 2) (information s frame ++ bits 14 0)
spaced_binary s frame = All-append (λ b. b < 2) (information s frame) (bits 14 0) (information_binary s frame) (bits_binary 14 0)

pub spaced_front : (s : Settings) (frame : ℕ) → take 53 (information s frame ++ bits 14 0) ≡ information s frame
spaced_front s frame = take_at (information s frame) (bits 14 0) 53 (information-length s frame)

pub parity_sent : (s : Settings) (frame : ℕ) → information s frame ++ bits 14 (remainder_from 0 (information s frame ++ bits 14 0)) ≡ block s frame
unfolding block parity
parity_sent s frame = refl

pub block_length : (s : Settings) (frame : ℕ) → length (block s frame) ≡ 67
unfolding block parity
block_length s frame =
    let n = remainder_from 0 (information s frame ++ bits 14 0) in
    omega (arith, length-append (information s frame) (bits 14 n), information-length s frame, bits-length 14 n)
