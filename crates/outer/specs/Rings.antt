-- The queue that a branch record holds: its store from the turning place round to it.
use Rattle.std.specs.Prelude.{ℕ, List, ◌++◌, take, drop}

abbrev pub turned : List ℕ → ℕ → List ℕ
turned xs place = drop place xs ++ take place xs
