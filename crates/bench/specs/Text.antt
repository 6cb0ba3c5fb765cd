-- What the tool prints.
use Rattle.std.specs.Prelude.{ℕ, List, [], ◌∷◌, ◌++◌, codes, decimal}
use Rattle.refusal.specs.declared.Refusal.{Refusal}
use Rattle.refusal.specs.Words.{refusal_words}
use Rattle.stage.specs.declared.Fault.{Fault}
use Rattle.receiver.specs.declared.missed.Missed.{Missed}
use Rattle.receiver.specs.declared.missed.Missed.TheVariants.{Refused, Failed}
use Rattle.bench.specs.declared.comparison.Verdict.{Verdict}
use Rattle.bench.specs.declared.comparison.Verdict.TheVariants.{Equal, Changed, Lost}

-- a word, a blank, a number and the end of the line, and then the rest
abbrev pub line : List ℕ → ℕ → List ℕ → List ℕ
line word n rest = word ++ (codes " " ++ (decimal n ++ 10 ∷ rest))

abbrev pub sent : ℕ → ℕ → ℕ → List ℕ
sent packets closing cells = line (codes "packets") packets (line (codes "closing") closing (line (codes "cells") cells []))

abbrev pub received : ℕ → ℕ → List ℕ
received cells packets = line (codes "cells") cells (line (codes "packets") packets [])

abbrev pub returned : ℕ → ℕ → ℕ → List ℕ
returned packets cells back = line (codes "packets") packets (line (codes "cells") cells (line (codes "returned") back []))

abbrev pub refused : Refusal → List ℕ
refused r = refusal_words r ++ 10 ∷ []

abbrev pub fault : Fault → List ℕ
fault f = codes "fault" ++ (codes " " ++ (decimal f.stage ++ line [] f.cause []))

abbrev pub missed : Missed → List ℕ
missed (Refused r) = refused r
missed (Failed f) = fault f

abbrev pub verdict : Verdict → List ℕ
verdict Equal = codes "every packet came back\n"
verdict (Changed k) = codes "packet " ++ (decimal k ++ codes " came back changed\n")
verdict (Lost k) = codes "packet " ++ (decimal k ++ codes " didn't come back\n")
