-- Blocks with one bit set.
use Rattle.std.specs.Prelude.{◌≡◌, ℕ, ◌*◌, List, replicate, slice_index, slice_set}
use Rattle.settings.specs.declared.constellation.Constellation.{Constellation}
use Rattle.settings.specs.declared.constellation.Constellation.TheVariants.{Qpsk, Qam16, Qam64}
use Rattle.settings.specs.Constellation.{word_bits}
use Rattle.inner_interleaver.specs.Words.{words_of}

-- the words of a block whose bit p is the only one
abbrev pub single : Constellation → ℕ → List ℕ
single c p = words_of c (slice_set (replicate (126 * word_bits c) 0) p 1)

abbrev pub SingleBits : Type 0
SingleBits = (slice_index (single Qpsk 1) 63 ≡ 1) × (slice_index (single Qam16 1) 21 ≡ 2) × (slice_index (single Qam64 5) 42 ≡ 1)
