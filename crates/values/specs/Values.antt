-- What a bench measures, value by value: each field has its input and its output spelled out.
use Rattle.std.specs.Prelude.{◌≡◌, ℕ, ◌<◌, List, [], ◌∷◌, length, take, replicate, Option, slice_index, slice_set}
use Rattle.settings.specs.declared.Settings.{Settings}
use Rattle.settings.specs.declared.mode.Mode.TheVariants.{TwoK, EightK}
use Rattle.settings.specs.declared.constellation.Constellation.{Constellation}
use Rattle.settings.specs.declared.constellation.Constellation.TheVariants.{Qpsk, Qam16, Qam64}
use Rattle.settings.specs.declared.rate.Rate.TheVariants.{Half, ThreeQuarters, SevenEighths}
use Rattle.settings.specs.declared.guard.Guard.{Guard}
use Rattle.settings.specs.SuperFrame.{super_frame_packets}
use Rattle.dispersal.specs.EnergyDispersal.{energy_dispersal}
use Rattle.outer.specs.OuterCoder.{outer_coder}
use Rattle.outer.specs.OuterInterleaver.{outer_interleaver}
use Rattle.inner_coder.specs.Coder.{inner_code}
use Rattle.inner_interleaver.specs.BitInterleaver.{bit_interleaving}
use Rattle.address.specs.Address.{addresses_of}
use Rattle.standard.specs.Pile.{standard_model}

-- n zeros, but for the one at place p
abbrev pub zeros_but : ℕ → ℕ → ℕ → List ℕ
zeros_but n p x = slice_set (replicate n 0) p x

-- what a new bit interleaver sends for a block of n bits whose bit p is the only one
abbrev pub single : Constellation → ℕ → ℕ → List ℕ
single c n p = (bit_interleaving c).sends (zeros_but n p 1)

-- 8K, 64-QAM, 7/8: no settings carry more
abbrev pub fullest : Guard → Option ℕ → Settings
fullest g i = record { mode = EightK; constellation = Qam64; rate = SevenEighths; guard = g; identifier = i }

pub record BenchValues : Type 0 where
  -- energy dispersal inverts the first sync byte, and shows the first 32 outputs of its register over zeros
  pub dispersed : energy_dispersal.sends (0x47 ∷ 0x00 ∷ 0x00 ∷ 0x00 ∷ 0x00 ∷ []) ≡ 0xB8 ∷ 0x03 ∷ 0xF6 ∷ 0x08 ∷ 0x34 ∷ []
  -- a packet of zeros has sixteen zeros for its parity
  pub protected : outer_coder.sends (replicate 188 0) ≡ replicate 204 0
  -- bytes 0, 1 and 203 leave the outer interleaver as bytes 0, 205 and 2447
  pub byte_0 : (xs : List ℕ) → 2447 < length xs → slice_index (outer_interleaver.sends xs) 0 ≡ slice_index xs 0
  pub byte_1 : (xs : List ℕ) → 2447 < length xs → slice_index (outer_interleaver.sends xs) 205 ≡ slice_index xs 1
  pub byte_203 : (xs : List ℕ) → 2447 < length xs → slice_index (outer_interleaver.sends xs) 2447 ≡ slice_index xs 203
  -- the inner coder's answer to a single one, at rate 1/2 and punctured to 3/4
  pub half : (inner_code Half).sends (1 ∷ 0 ∷ 0 ∷ 0 ∷ 0 ∷ 0 ∷ 0 ∷ []) ≡ 1 ∷ 1 ∷ 1 ∷ 0 ∷ 1 ∷ 1 ∷ 1 ∷ 1 ∷ 0 ∷ 0 ∷ 0 ∷ 1 ∷ 1 ∷ 1 ∷ []
  pub three_quarters : (inner_code ThreeQuarters).sends (1 ∷ 0 ∷ 0 ∷ []) ≡ 1 ∷ 1 ∷ 0 ∷ 1 ∷ []
  -- a block with one bit set has one word that isn't zero
  pub qpsk_bit : single Qpsk 252 1 ≡ zeros_but 126 63 1
  pub qam16_bit : single Qam16 504 1 ≡ zeros_but 126 21 2
  pub qam64_bit : single Qam64 756 5 ≡ zeros_but 126 42 1
  -- how H begins
  pub two_k : take 5 (addresses_of TwoK) ≡ 0 ∷ 1024 ∷ 16 ∷ 1025 ∷ 128 ∷ []
  pub eight_k : take 4 (addresses_of EightK) ≡ 0 ∷ 4096 ∷ 128 ∷ 4128 ∷ []
  -- the packets of the fullest super-frame, and what the standard pile holds back there once all cells are heard
  pub packets : (g : Guard) (i : Option ℕ) → super_frame_packets (fullest g i) ≡ 5292
  pub hold : (g : Guard) (i : Option ℕ) → (standard_model (fullest g i)).hold 0 ≡ 11690
