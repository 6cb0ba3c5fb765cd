-- The transmission mode, by its code, and the cells of a symbol that carry data.
use Rattle.std.specs.Prelude.{ℕ, List, [], ◌∷◌, codes, Result}
use Rattle.refusal.specs.declared.Refusal.{Refusal}
use Rattle.refusal.specs.declared.Refusal.TheVariants.{UnknownMode}
use Rattle.settings.specs.declared.mode.Mode.{Mode}
use Rattle.settings.specs.declared.mode.Mode.TheVariants.{TwoK, EightK}
use Rattle.settings.specs.Coded.{value_at}

-- EN 300 744, table 15
abbrev pub modes : List Mode
modes = TwoK ∷ EightK ∷ []

abbrev pub mode_read : ℕ → Result Mode Refusal
mode_read = value_at modes UnknownMode

abbrev pub mode_code : Mode → ℕ
mode_code TwoK = 0
mode_code EightK = 1

abbrev pub symbol_cells : Mode → ℕ
symbol_cells TwoK = 1512
symbol_cells EightK = 6048

-- as it is printed
abbrev pub mode_name : Mode → List ℕ
mode_name TwoK = codes "2K"
mode_name EightK = codes "8K"
