-- Packets for comparison. A state is a number of 32 bits, and each step shows one byte of it.
use Rattle.std.specs.Prelude.{ℕ, zero, suc, ◌+◌, ◌*◌, ◌/◌, ◌%◌, ◌^◌, List, map}
use Rattle.std.specs.List.{range_with_len}

abbrev pub stepped : ℕ → ℕ
stepped x = (x * 1103515245 + 12345) % 2 ^ 32

abbrev pub shown : ℕ → ℕ
shown x = x / 2 ^ 16 % 256

-- the state n steps after x
unfoldable pub after : ℕ → ℕ → ℕ
after zero x = x
after (suc n) x = stepped (after n x)

-- 47 hex first, then a byte for each step
abbrev pub byte_at : ℕ → ℕ → ℕ
byte_at x zero = 0x47
byte_at x (suc k) = shown (after (suc k) x)

unfoldable pub packet_from : ℕ → List ℕ
packet_from x = map (byte_at x) (range_with_len 0 188)
