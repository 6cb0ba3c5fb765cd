-- Words of v bits, from blocks of 126 × v bits (EN 300 744, clause 4.3.4.1).
--   lanes_of c         the stream that takes each of v bits, with its offset: interleaved, place w of a stream has the bit from place w + offset, modulo 126
--   word_at c b w      word w of the block b: the interleaved streams' bits at place w, stream 0 highest
--   bit_at c ws p      bit p of a block, from its words ws
--   words_of, bits_of  all words of a block, all bits of it
use Rattle.std.specs.Prelude.{ℕ, ◌+◌, ◌-◌, ◌*◌, ◌/◌, ◌%◌, ◌^◌, List, [], ◌∷◌, map, slice_index, slice_index_or}
use Rattle.std.specs.List.{range_with_len}
use Rattle.settings.specs.declared.constellation.Constellation.{Constellation}
use Rattle.settings.specs.declared.constellation.Constellation.TheVariants.{Qpsk, Qam16, Qam64}
use Rattle.settings.specs.Constellation.{word_bits}
use Rattle.inner_interleaver.specs.declared.words.Lane.{Lane}

abbrev pub lane : ℕ → ℕ → Lane
lane e o = record { stream = e; offset = o }

abbrev pub lanes_of : Constellation → List Lane
lanes_of Qpsk = lane 0 0 ∷ lane 1 63 ∷ []
lanes_of Qam16 = lane 0 0 ∷ lane 2 105 ∷ lane 1 63 ∷ lane 3 42 ∷ []
lanes_of Qam64 = lane 0 0 ∷ lane 2 105 ∷ lane 4 21 ∷ lane 1 63 ∷ lane 3 42 ∷ lane 5 84 ∷ []

-- the lane of the bit at place j of v
abbrev pub lane_at : Constellation → ℕ → Lane
lane_at c j = slice_index_or (lanes_of c) j (lane 0 0)

-- what the lanes from place j on bring to word w: the bits of round i stand from v × i on
abbrev pub brought : ℕ → List Lane → ℕ → List ℕ → ℕ → ℕ
brought v [] j b w = 0
brought v (l ∷ ls) j b w = slice_index b (v * ((w + l.offset) % 126) + j) * 2 ^ (v - 1 - l.stream) + brought v ls (j + 1) b w

abbrev pub word_at : Constellation → List ℕ → ℕ → ℕ
word_at c b w = brought (word_bits c) (lanes_of c) 0 b w

unfoldable pub words_of : Constellation → List ℕ → List ℕ
words_of c b = map (word_at c b) (range_with_len 0 126)

-- the bit of a lane at place i of its stream
abbrev pub bit_of : ℕ → Lane → ℕ → List ℕ → ℕ
bit_of v l i ws = (slice_index ws ((i + 126 - l.offset) % 126) / 2 ^ (v - 1 - l.stream)) % 2

abbrev pub bit_at : Constellation → List ℕ → ℕ → ℕ
bit_at c ws p = bit_of (word_bits c) (lane_at c (p % word_bits c)) (p / word_bits c) ws

unfoldable pub bits_of : Constellation → List ℕ → List ℕ
bits_of c ws = map (bit_at c ws) (range_with_len 0 (126 * word_bits c))
