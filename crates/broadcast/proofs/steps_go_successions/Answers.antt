use Rattle.broadcast.proofs.All.{steps_go_successions_lem}
use Rattle.broadcast.proofs.steps_go_successions.Goals as goal

pub returns : goal.returns
returns c = steps_go_successions_lem
