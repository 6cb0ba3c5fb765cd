use Rattle.std.proofs.Common.{length}
use Rattle.vectors.proofs.annex.take_all.Given as goal

abbrev pub decreases-loop-unit : goal.decreases-loop-unit
decreases-loop-unit g l = length (g.S.Stage.sending l.stage).waits
