-- The bits of a number, highest first.
use Rattle.std.specs.Prelude.{ℕ, zero, suc, ◌+◌, ◌*◌, ◌/◌, ◌%◌, List, [], ◌∷◌, ◌++◌}

-- the last n bits of x, highest first
abbrev pub last_bits : ℕ → ℕ → List ℕ
last_bits zero x = []
last_bits (suc n) x = last_bits n (x / 2) ++ (x % 2) ∷ []

-- the number that bits make after the number a
unfoldable pub value_after : ℕ → List ℕ → ℕ
value_after a [] = a
value_after a (b ∷ bs) = value_after (a * 2 + b) bs
