-- The number that a C program is answered.
use Rattle.std.specs.Prelude.{ℕ, Some, None, Option}

-- 0, or the number of what was refused
abbrev pub answer_of : Option ℕ → ℕ
answer_of None = 0
answer_of (Some number) = number
