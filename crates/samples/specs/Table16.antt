-- The rows and columns of EN 300 744, table 16.
use Rattle.std.specs.Prelude.{ℕ, ◌/◌, ◌%◌, None}
use Rattle.settings.specs.declared.codes.Codes.{Codes}

abbrev pub codes_at : ℕ → ℕ → Codes
codes_at row column = record { mode = column % 2; constellation = column / 2; rate = row; guard = 0; identifier = None }
