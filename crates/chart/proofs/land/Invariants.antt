use Rattle.std.proofs.Common.{◌≡◌, ℕ, ◌<◌, ◌≤◌}
use Rattle.chart.specs.Chart.{mark, mark_at}
use Rattle.chart.proofs.land.Given as goal

abbrev pub invariant-loop-place : goal.invariant-loop-place
invariant-loop-place l =
    ((k : ℕ) → k < l.place → mark_at l.marks k ≡ mark (mark_at l.initial.marks k).before k)
    × ((k : ℕ) → l.place ≤ k → mark_at l.marks k ≡ mark_at l.initial.marks k)
