-- The constellation, by its code, and the bits in a cell word.
use Rattle.std.specs.Prelude.{ℕ, List, [], ◌∷◌, codes, Result}
use Rattle.refusal.specs.declared.Refusal.{Refusal}
use Rattle.refusal.specs.declared.Refusal.TheVariants.{UnknownConstellation}
use Rattle.settings.specs.declared.constellation.Constellation.{Constellation}
use Rattle.settings.specs.declared.constellation.Constellation.TheVariants.{Qpsk, Qam16, Qam64}
use Rattle.settings.specs.Coded.{value_at}

-- EN 300 744, table 11
abbrev pub constellations : List Constellation
constellations = Qpsk ∷ Qam16 ∷ Qam64 ∷ []

abbrev pub constellation_read : ℕ → Result Constellation Refusal
constellation_read = value_at constellations UnknownConstellation

abbrev pub constellation_code : Constellation → ℕ
constellation_code Qpsk = 0
constellation_code Qam16 = 1
constellation_code Qam64 = 2

abbrev pub word_bits : Constellation → ℕ
word_bits Qpsk = 2
word_bits Qam16 = 4
word_bits Qam64 = 6

-- as it is printed
abbrev pub constellation_name : Constellation → List ℕ
constellation_name Qpsk = codes "QPSK"
constellation_name Qam16 = codes "16-QAM"
constellation_name Qam64 = codes "64-QAM"
