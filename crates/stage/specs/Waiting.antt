-- What waits, where at most one unit can.
use Rattle.std.specs.Prelude.{ℕ, List, [], ◌∷◌, Some, None, Option}

abbrev pub listed : Option ℕ → List ℕ
listed None = []
listed (Some x) = x ∷ []
