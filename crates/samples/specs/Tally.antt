-- Checks, counted and told.
use Rattle.std.specs.Prelude.{ℕ, ◌+◌, ◌-◌, ◌^◌, min, Bool, cond, List, ◌++◌, codes, decimal}
use Rattle.samples.specs.declared.tally.Tally.{Tally}

-- one more, up to the largest number of 32 bits
abbrev pub more : ℕ → ℕ
more n = min (n + 1) (2 ^ 32 - 1)

abbrev pub counted : Tally → Bool → Tally
counted t same = record { checks = more t.checks; differ = cond same t.differ (more t.differ) }

abbrev pub line : List ℕ → Bool → List ℕ → List ℕ → List ℕ
line name same found expected = name ++ cond same (codes ": ok\n") (codes ": " ++ (found ++ (codes " in place of " ++ (expected ++ codes "\n"))))

abbrev pub summary : Tally → List ℕ
summary t = decimal t.checks ++ (codes " checks, " ++ (decimal t.differ ++ codes " differ\n"))
