use Rattle.std.proofs.Common.{◌≡◌, length}
use Rattle.bench.proofs.jobs.hear_all.Given as goal

abbrev pub invariant-loop-turn : goal.invariant-loop-turn
invariant-loop-turn g l = length l.piece ≡ 8192
