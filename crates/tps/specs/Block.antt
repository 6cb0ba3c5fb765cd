-- The TPS block of a frame (EN 300 744, clause 4.6.2), and what the call that writes it answers and leaves.
use Rattle.std.specs.Prelude.{ℕ, ◌-◌, ◌/◌, ◌%◌, Bool, cond, List, [], ◌∷◌, ◌++◌, length, drop, Some, None, Option, ◌==◌, nat_le}
use Rattle.settings.specs.declared.Settings.{Settings}
use Rattle.settings.specs.Mode.{mode_code}
use Rattle.settings.specs.Constellation.{constellation_code}
use Rattle.settings.specs.Rate.{rate_code}
use Rattle.settings.specs.Guard.{guard_code}
use Rattle.tps.specs.declared.field.Field.{Field}
use Rattle.tps.specs.Field.{field, sent}
use Rattle.tps.specs.Protection.{parity}

-- frames 1 and 3
abbrev pub odd : ℕ → Bool
odd frame = frame % 2 == 1

-- s1 to s16
abbrev pub synchronisation : ℕ → ℕ
synchronisation frame = cond (odd frame) 0b0011010111101110 0b1100101000010001

-- s17 to s22: how many bits are in use
abbrev pub length_indicator : Option ℕ → ℕ
length_indicator None = 0b010111
length_indicator (Some identifier) = 0b011111

-- s40 to s47: the upper byte in frames 1 and 3, the lower in frames 2 and 4
abbrev pub identifier_byte : ℕ → Option ℕ → ℕ
identifier_byte frame None = 0
identifier_byte frame (Some identifier) = cond (odd frame) (identifier / 256) (identifier % 256)

-- table 9, s1 to s53
abbrev pub fields : Settings → ℕ → List Field
fields s frame =
    field 16 (synchronisation frame)
    ∷ field 6 (length_indicator s.identifier)
    ∷ field 2 (frame - 1)
    ∷ field 2 (constellation_code s.constellation)
    ∷ field 3 0
    ∷ field 3 (rate_code s.rate)
    ∷ field 3 0
    ∷ field 2 (guard_code s.guard)
    ∷ field 2 (mode_code s.mode)
    ∷ field 8 (identifier_byte frame s.identifier)
    ∷ field 6 0
    ∷ []

unfoldable pub information : Settings → ℕ → List ℕ
information s frame = sent (fields s frame)

-- s1 to s67
unfoldable pub block : Settings → ℕ → List ℕ
block s frame = information s frame ++ parity (information s frame)

-- the blocks of a super-frame
abbrev pub blocks : Settings → List (List ℕ)
blocks s = block s 1 ∷ block s 2 ∷ block s 3 ∷ block s 4 ∷ []

-- the number by which a call is refused
abbrev pub refused : ℕ → List ℕ → Option ℕ
refused frame buffer = cond (nat_le 1 frame) (cond (nat_le frame 4) (cond (nat_le 67 (length buffer)) None (Some 16)) (Some 17)) (Some 17)

-- what the buffer holds after the call
abbrev pub after : Option ℕ → Settings → ℕ → List ℕ → List ℕ
after None s frame buffer = block s frame ++ drop 67 buffer
after (Some number) s frame buffer = buffer
