-- The serializer: each byte becomes eight bits, highest first.
use Rattle.std.specs.Prelude.{ℕ, ◌+◌, ◌/◌, List, [], ◌∷◌}
use Rattle.stage.specs.Blocks.{blockwise, block_sending, block_receiving}
use Rattle.stage.specs.Model.{Model, Sending, Receiving}
use Rattle.stage.specs.Waiting.{listed}
use Rattle.outer.specs.Bits.{last_bits, value_after}
use Rattle.outer.specs.declared.serializer.Serializer.{Serializer}

-- one block: a byte, and eight bits
abbrev pub bits_of : Unit {0} → List ℕ → List ℕ
bits_of k [] = []
bits_of k (x ∷ xs) = last_bits 8 x

abbrev pub byte_of : Unit {0} → List ℕ → List ℕ
byte_of k bs = value_after 0 bs ∷ []

-- all blocks are of one kind
abbrev pub same : Unit {0} → Unit {0}
same k = k

abbrev pub eighths : ℕ → ℕ
eighths m = (m + 7) / 8

abbrev pub serializer : Model
serializer = blockwise 1 8 256 2 eighths same tt bits_of byte_of

-- the sending side: bits of a byte wait
abbrev pub serial_sending : Serializer → Sending
serial_sending s = block_sending same bits_of 1 s.leaving tt []

-- the receiving side: perhaps a byte waits, and bits are gathered
abbrev pub serial_receiving : Serializer → Receiving
serial_receiving s = block_receiving same byte_of 8 (listed s.back) tt s.arriving
