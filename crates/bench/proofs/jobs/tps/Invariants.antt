use Rattle.std.proofs.Common.{◌≡◌, length}
use Rattle.bench.proofs.jobs.tps.Given as goal

abbrev pub invariant-loop-frame : goal.invariant-loop-frame
invariant-loop-frame l = length l.block ≡ 67
