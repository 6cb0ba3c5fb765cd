-- Inner interleaving in the words of EN 300 744, clause 4.3.4.
use Rattle.std.specs.Prelude.{◌≡◌, ℕ, ◌+◌, ◌-◌, ◌*◌, ◌/◌, ◌%◌, ◌^◌, ◌<◌, List, [], ◌∷◌, ◌++◌, length, slice_index}
use Rattle.address.specs.Address.{addresses_of}
use Rattle.permute.specs.declared.parity.Parity.TheVariants.{Even, Odd}
use Rattle.permute.specs.Permuted.{Interleaved}
use Rattle.settings.specs.declared.constellation.Constellation.{Constellation}
use Rattle.settings.specs.declared.mode.Mode.{Mode}
use Rattle.settings.specs.Constellation.{word_bits}
use Rattle.settings.specs.Mode.{symbol_cells}
use Rattle.stage.specs.Rule.{Under}
use Rattle.inner_interleaver.specs.BitInterleaver.{bit_interleaving}
use Rattle.inner_interleaver.specs.SymbolInterleaver.{symbol_interleaving}

-- input bit di is bit number di div v of this stream
abbrev pub stream_of : ℕ → ℕ → ℕ
stream_of v di = (di % v) / (v / 2) + 2 * (di % (v / 2))

-- H_e(w), for the streams 0 to 5
abbrev pub offset_of : ℕ → ℕ
offset_of e = slice_index (0 ∷ 63 ∷ 105 ∷ 42 ∷ 21 ∷ 84 ∷ []) e

abbrev pub permuted : ℕ → ℕ → ℕ
permuted e w = (w + offset_of e) % 126

-- Bits go block by block. Where place w of stream e has its bit from place do, bit e of word w, counted from the highest, is the input bit that the
-- demultiplexer puts there.
pub record BitsPublished (c : Constellation) : Type 0 where
  pub first_block : (b xs : List ℕ) → length b ≡ 126 * word_bits c → (bit_interleaving c).sends (b ++ xs) ≡ (bit_interleaving c).sends b ++ (bit_interleaving c).sends xs
  pub no_block : (xs : List ℕ) → length xs < 126 * word_bits c → (bit_interleaving c).sends xs ≡ []
  pub words : (b : List ℕ) → length b ≡ 126 * word_bits c → length ((bit_interleaving c).sends b) ≡ 126
  pub bits : (b : List ℕ) → length b ≡ 126 * word_bits c → Under 2 b → (di w : ℕ) → di < 126 * word_bits c → w < 126
      → permuted (stream_of (word_bits c) di) w ≡ di / word_bits c
      → slice_index ((bit_interleaving c).sends b) w / 2 ^ (word_bits c - 1 - stream_of (word_bits c) di) % 2 ≡ slice_index b di

-- Words go symbol by symbol. The first symbol is even, which has word q at H(q), the second odd, which has word H(q) at q, and so on in turn.
pub record SymbolsPublished (m : Mode) (c : Constellation) : Type 0 where
  pub two_symbols : (a b xs : List ℕ) → length a ≡ symbol_cells m → length b ≡ symbol_cells m
      → (y : List ℕ) × (z : List ℕ)
      × ((symbol_interleaving m c).sends (a ++ (b ++ xs)) ≡ y ++ (z ++ (symbol_interleaving m c).sends xs))
      × (length y ≡ symbol_cells m) × (length z ≡ symbol_cells m)
      × Interleaved Even (addresses_of m) a y × Interleaved Odd (addresses_of m) b z
  pub one_symbol : (a xs : List ℕ) → length a ≡ symbol_cells m → length xs < symbol_cells m
      → (y : List ℕ) × ((symbol_interleaving m c).sends (a ++ xs) ≡ y) × (length y ≡ symbol_cells m) × Interleaved Even (addresses_of m) a y
  pub no_symbol : (xs : List ℕ) → length xs < symbol_cells m → (symbol_interleaving m c).sends xs ≡ []
