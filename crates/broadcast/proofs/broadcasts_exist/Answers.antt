use Rattle.broadcast.proofs.Exists.{broadcasts_exist_lem}
use Rattle.broadcast.proofs.broadcasts_exist.Goals as goal

pub returns : goal.returns
returns c = broadcasts_exist_lem
