-- Energy dispersal (EN 300 744, clause 4.3.1): what the byte at each place of a group of 1504 is combined with.
-- A register of fifteen positions is a number: position 1 is its lowest bit, position 15 its highest.
use Rattle.std.specs.Prelude.{ℕ, zero, suc, ◌+◌, ◌*◌, ◌/◌, ◌%◌, ◌^◌, cond, ◌==◌}

-- 100101010000000, from position 1 on
abbrev pub loaded : ℕ
loaded = 0b000_0000_1010_1001

-- the sum modulo 2 of positions 14 and 15
abbrev pub output : ℕ → ℕ
output r = (r / 2 ^ 13 + r / 2 ^ 14) % 2

-- every position moves on by one, and the output goes back into position 1
abbrev pub shifted : ℕ → ℕ
shifted r = (2 * r + output r) % 2 ^ 15

unfoldable pub run : ℕ → ℕ → ℕ
run zero r = r
run (suc n) r = run n (shifted r)

-- the next n outputs, the first one highest, below what stands in x
unfoldable pub outputs : ℕ → ℕ → ℕ → ℕ
outputs zero x r = x
outputs (suc n) x r = outputs n (2 * x + output r) (shifted r)

-- the register before the byte after a place: eight outputs on, over the sync bytes too, but for byte 0, since it starts with byte 1
abbrev pub moved_on : ℕ → ℕ → ℕ
moved_on place r = cond (place == 0) r (run 8 r)

-- the register before the byte at a place of a group
unfoldable pub before : ℕ → ℕ
before zero = loaded
before (suc k) = moved_on k (before k)

-- byte 0 is inverted, the other sync bytes are unaltered, and any other byte is combined with the next eight outputs
abbrev pub masked : ℕ → ℕ → ℕ
masked place out = cond (place == 0) 255 (cond (place % 188 == 0) 0 out)

unfoldable pub mask : ℕ → ℕ
mask place = masked place (outputs 8 0 (before place))
