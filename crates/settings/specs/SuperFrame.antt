-- What a super-frame of four frames of 68 symbols carries.
use Rattle.std.specs.Prelude.{◌≡◌, ℕ, ◌*◌, ◌/◌, List, [], ◌∷◌, map}
use Rattle.settings.specs.declared.Settings.{Settings}
use Rattle.settings.specs.declared.mode.Mode.{Mode}
use Rattle.settings.specs.declared.mode.Mode.TheVariants.{TwoK, EightK}
use Rattle.settings.specs.declared.constellation.Constellation.{Constellation}
use Rattle.settings.specs.declared.constellation.Constellation.TheVariants.{Qpsk, Qam16, Qam64}
use Rattle.settings.specs.declared.rate.Rate.{Rate}
use Rattle.settings.specs.Mode.{symbol_cells}
use Rattle.settings.specs.Constellation.{word_bits}
use Rattle.settings.specs.Rate.{rates, rate_over, rate_under}

abbrev pub packets_by : Mode → Constellation → Rate → ℕ
packets_by m k r = symbol_cells m * word_bits k * rate_over r / (6 * rate_under r)

abbrev pub super_frame_packets : Settings → ℕ
super_frame_packets s = packets_by s.mode s.constellation s.rate

abbrev pub super_frame_cells : Settings → ℕ
super_frame_cells s = 4 * 68 * symbol_cells s.mode

-- The packets come out whole: their bits, coded at the rate, fill the cells. (A packet of 204 bytes is 1632 bits, 6 to each of the 272 symbols.)
abbrev pub PacketsExact : Type 0
PacketsExact = (s : Settings)
    → super_frame_packets s * 6 * rate_under s.rate ≡ symbol_cells s.mode * word_bits s.constellation * rate_over s.rate

-- EN 300 744, table 16: a row for each rate, and in it the two modes for each constellation
abbrev pub published : List (List ℕ)
published =
    (252 ∷ 1008 ∷ 504 ∷ 2016 ∷ 756 ∷ 3024 ∷ [])
    ∷ (336 ∷ 1344 ∷ 672 ∷ 2688 ∷ 1008 ∷ 4032 ∷ [])
    ∷ (378 ∷ 1512 ∷ 756 ∷ 3024 ∷ 1134 ∷ 4536 ∷ [])
    ∷ (420 ∷ 1680 ∷ 840 ∷ 3360 ∷ 1260 ∷ 5040 ∷ [])
    ∷ (441 ∷ 1764 ∷ 882 ∷ 3528 ∷ 1323 ∷ 5292 ∷ [])
    ∷ []

abbrev pub columns : List (Mode × Constellation)
columns = (TwoK, Qpsk) ∷ (EightK, Qpsk) ∷ (TwoK, Qam16) ∷ (EightK, Qam16) ∷ (TwoK, Qam64) ∷ (EightK, Qam64) ∷ []

abbrev pub PacketsPublished : Type 0
PacketsPublished = map (λ r. map (λ c. packets_by c.0 c.1 r) columns) rates ≡ published
