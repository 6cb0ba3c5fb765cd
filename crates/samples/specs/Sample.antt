-- Settings by number. Those below 30 are every mode with every constellation and every rate.
use Rattle.std.specs.Prelude.{ℕ, ◌+◌, ◌*◌, ◌/◌, ◌%◌, cond, Some, None, Option, ◌==◌}
use Rattle.settings.specs.declared.codes.Codes.{Codes}

-- an odd one has an identifier
abbrev pub identifier_of : ℕ → Option ℕ
identifier_of n = cond (n % 2 == 0) None (Some (12345 + 199 * n))

abbrev pub codes_of : ℕ → Codes
codes_of n = record { mode = n / 15; constellation = n / 5 % 3; rate = n % 5; guard = n % 4; identifier = identifier_of n }
