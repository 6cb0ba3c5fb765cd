use Rattle.broadcast.proofs.All.{holds_over}
use Rattle.broadcast.proofs.holds.Goals as goal

pub returns : goal.returns
returns g c = holds_over c.blocks_tell_settings.ensures (g.P.Stage.model c.args.pile.now) (g.met.P.Stage.rule c.args.pile.now)
