use Rattle.std.proofs.Common.{◌≡◌, length}
use Rattle.bench.proofs.sending.send.Given as goal

abbrev pub invariant-loop-sent : goal.invariant-loop-sent
invariant-loop-sent g l = length l.packet ≡ 188
