use Rattle.std.proofs.Common.{◌≡◌, length}
use Rattle.vectors.proofs.exchange.signalling.Given as goal

abbrev pub invariant-loop-frame : goal.invariant-loop-frame
invariant-loop-frame g l = length l.block ≡ 67
