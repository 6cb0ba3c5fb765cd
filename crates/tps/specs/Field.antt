-- Numbers as bits, the highest sent first.
use Rattle.std.specs.Prelude.{ℕ, zero, suc, ◌/◌, ◌%◌, List, [], ◌∷◌, ◌++◌}
use Rattle.std.specs.List.{flat_map}
use Rattle.tps.specs.declared.field.Field.{Field}

-- the last w bits of a number, the highest first
abbrev pub bits : ℕ → ℕ → List ℕ
bits zero n = []
bits (suc w) n = bits w (n / 2) ++ (n % 2 ∷ [])

abbrev pub field : ℕ → ℕ → Field
field w n = record { width = w; value = n }

-- fields, one after another
abbrev pub sent : List Field → List ℕ
sent = flat_map (λ f. bits f.width f.value)
