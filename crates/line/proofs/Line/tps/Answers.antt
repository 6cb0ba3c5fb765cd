use Rattle.std.proofs.Common.{rules}
use Rattle.broadcast.proofs.All.{line_continues}
use Rattle.line.proofs.Line.tps.Goals as goal

pub returns-in_err-admit-clause-continues : goal.returns-in_err-admit-clause-continues
returns-in_err-admit-clause-continues g c = line_continues _ (g.met.P.Stage.rule _) _ _ _ tt (search rules)

pub returns-clause-continues : goal.returns-clause-continues
returns-clause-continues g c = line_continues _ (g.met.P.Stage.rule _) _ _ _ tt (search rules)
