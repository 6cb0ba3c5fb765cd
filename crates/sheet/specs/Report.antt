-- What the sheet program prints.
use Rattle.std.specs.Prelude.{ℕ, List, [], ◌∷◌, ◌++◌, Ok, Err, codes, decimal, Result}
use Rattle.refusal.specs.declared.Refusal.{Refusal}
use Rattle.refusal.specs.Words.{refusal_words}
use Rattle.settings.specs.declared.sheet.Sheet.{Sheet}
use Rattle.settings.specs.Sheet.{sheet_of}

-- a word, a blank, a number and the end of the line, and then the rest
abbrev pub line : List ℕ → ℕ → List ℕ → List ℕ
line word n rest = word ++ (codes " " ++ (decimal n ++ 10 ∷ rest))

abbrev pub lines : Result Sheet Refusal → List ℕ
lines (Ok s) = line (codes "packets") s.packets (line (codes "cells") s.cells (line (codes "hold") s.hold []))
lines (Err r) = refusal_words r ++ 10 ∷ []

abbrev pub report_of : List ℕ → List ℕ
report_of bs = lines (sheet_of bs)
