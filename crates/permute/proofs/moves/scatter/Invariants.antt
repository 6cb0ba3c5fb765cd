use Rattle.std.proofs.Common.{◌≡◌, ℕ, ◌<◌, ◌≤◌, length, get_or}
use Rattle.permute.proofs.moves.scatter.Given as goal

abbrev pub invariant-loop-q : goal.invariant-loop-q
invariant-loop-q g l =
    ((k : ℕ) → k < l.q → (d : _) → get_or l.to (get_or l.table k 0) d ≡ get_or l.from k d)
    × ((k : ℕ) (d : _) → length l.table ≤ k → get_or l.to k d ≡ get_or l.initial.to k d)
