-- The hold that a formula gives, with the stop.
use Rattle.std.specs.Prelude.{ℕ, min, cond, nat_le}

-- where holds, sizes and stage numbers stop; a hold of it claims nothing
abbrev pub most : ℕ
most = 4294967295

-- a formula's hold: it stops, and from where it stops on it is full, whatever the formula gives
abbrev pub capped : (ℕ → ℕ) → ℕ → ℕ
capped formula m = cond (nat_le most m) most (min (formula m) most)
