-- Holds: of what a stage was sent, how many units at most are not back yet while the last m of what it gave are unheard.
use Rattle.std.specs.Prelude.{ℕ, ◌+◌, ◌-◌, ◌*◌, ◌/◌}
use Rattle.holds.specs.Capped.{capped}
use Rattle.settings.specs.declared.Settings.{Settings}
use Rattle.settings.specs.declared.mode.Mode.{Mode}
use Rattle.settings.specs.declared.constellation.Constellation.{Constellation}
use Rattle.settings.specs.Mode.{symbol_cells}
use Rattle.settings.specs.Constellation.{word_bits}

abbrev pub dispersal_hold : ℕ → ℕ
dispersal_hold = capped (λ m. m)

abbrev pub outer_coder_hold : ℕ → ℕ
outer_coder_hold = capped (λ m. m + 187)

abbrev pub outer_interleaver_hold : ℕ → ℕ
outer_interleaver_hold = capped (λ m. m + 2244)

abbrev pub serializer_hold : ℕ → ℕ
serializer_hold = capped (λ m. (m + 7) / 8)

abbrev pub inner_coder_hold : ℕ → ℕ
inner_coder_hold = capped (λ m. m)

abbrev pub bit_interleaver_hold : Constellation → ℕ → ℕ
bit_interleaver_hold k = capped (λ m. word_bits k * m + 251 * word_bits k - 1)

abbrev pub symbol_interleaver_hold : Mode → ℕ → ℕ
symbol_interleaver_hold n = capped (λ m. m + 2 * symbol_cells n - 2)

-- an upper stage's hold is of the lower one's
abbrev pub standard_hold : Settings → ℕ → ℕ
standard_hold s m =
    dispersal_hold (outer_coder_hold (outer_interleaver_hold (serializer_hold (inner_coder_hold
    (bit_interleaver_hold s.constellation (symbol_interleaver_hold s.mode m))))))
