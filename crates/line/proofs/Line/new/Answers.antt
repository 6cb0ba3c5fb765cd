use Rattle.std.proofs.Common.{eqb}
use Rattle.broadcast.proofs.All.{line_begins}
use Rattle.line.proofs.Calling.{idle_seen}
use Rattle.line.proofs.Line.new.Goals as goal

pub returns-clause-begins : goal.returns-clause-begins
returns-clause-begins g c = line_begins _ _ (idle_seen (eqb (g.P.Stage.model c.args.pile).taken 256) _)
