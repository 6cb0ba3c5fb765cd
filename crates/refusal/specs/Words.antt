-- How a refusal is told where a program prints it.
use Rattle.std.specs.Prelude.{ℕ, List, ◌++◌, codes, decimal}
use Rattle.refusal.specs.declared.Refusal.{Refusal}
use Rattle.refusal.specs.Numbers.{number_of}

-- the word, a blank and the number
abbrev pub refusal_words : Refusal → List ℕ
refusal_words r = codes "refused " ++ decimal (number_of r)
