-- What EN 300 744 says of TPS blocks, above the way in which they are made.
use Rattle.std.specs.Prelude.{◌≡◌, ℕ, ◌^◌, ◌<◌, ◌↔◌, List, take, Some, None, Option}
use Rattle.settings.specs.declared.Settings.{Settings}
use Rattle.tps.specs.Protection.{Codeword}
use Rattle.tps.specs.Block.{information, block, blocks}

-- A block is a codeword, and the only one that begins with the 53 bits of its settings and frame.
abbrev pub BlocksAreCodewords : Type 0
BlocksAreCodewords =
    (s : Settings) (frame : ℕ)
    → Codeword (block s frame) × ((bs : List ℕ) → Codeword bs → take 53 bs ≡ information s frame → bs ≡ block s frame)

-- none, or a number of 16 bits
abbrev pub Identifier : Option ℕ → Type 0
Identifier None = Unit {0}
Identifier (Some identifier) = identifier < 2 ^ 16

-- The blocks of frames 1 to 4 tell the settings.
abbrev pub BlocksTellSettings : Type 0
BlocksTellSettings = (s t : Settings) → Identifier s.identifier → Identifier t.identifier → (blocks s ≡ blocks t) ↔ (s ≡ t)
