-- The bit interleaver as a stage of blocks: its model for a constellation and for a code that was read, and its sides as they are now.
use Rattle.std.specs.Prelude.{ℕ, ◌+◌, ◌-◌, ◌*◌, ◌^◌, List, take, drop, Ok, Err, Result}
use Rattle.refusal.specs.declared.Refusal.{Refusal}
use Rattle.settings.specs.declared.constellation.Constellation.{Constellation}
use Rattle.settings.specs.Constellation.{word_bits}
use Rattle.stage.specs.Blocks.{blockwise, block_sending, block_receiving}
use Rattle.stage.specs.Optional.{unknown}
use Rattle.stage.specs.Model.{Model, Sending, Receiving}
use Rattle.inner_interleaver.specs.declared.bit_interleaver.BitInterleaver.{BitInterleaver}
use Rattle.inner_interleaver.specs.Words.{words_of, bits_of}

-- all blocks are of one kind
abbrev pub same : Unit {0} → Unit {0}
same k = k

abbrev pub encode : Constellation → Unit {0} → List ℕ → List ℕ
encode c k b = words_of c b

abbrev pub decode : Constellation → Unit {0} → List ℕ → List ℕ
decode c k ws = bits_of c ws

-- how many bits may be missing when the last m words are
abbrev pub bits_missing : ℕ → ℕ → ℕ
bits_missing v m = v * m + 251 * v - 1

abbrev pub bit_interleaving : Constellation → Model
bit_interleaving c = blockwise (126 * word_bits c) 126 2 (2 ^ word_bits c) (bits_missing (word_bits c)) same tt (encode c) (decode c)

abbrev pub bit_interleaver : Result Constellation Refusal → Model
bit_interleaver (Ok c) = bit_interleaving c
bit_interleaver (Err refusal) = unknown

-- the first `have` of the bits are gathered, or the words of all the bits wait from the place `at` on
abbrev pub sending_of : BitInterleaver → Sending
sending_of s =
    block_sending same (encode s.constellation) (126 * word_bits s.constellation) (drop s.at (words_of s.constellation s.bits)) tt (take s.have s.bits)

-- the first `got` of the words are gathered, or the bits of all the words wait from the place `next` on
abbrev pub receiving_of : BitInterleaver → Receiving
receiving_of s = block_receiving same (decode s.constellation) 126 (drop s.next (bits_of s.constellation s.words)) tt (take s.got s.words)
