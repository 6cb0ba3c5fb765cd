use Rattle.broadcast.proofs.All.{broadcasts_hold_lem}
use Rattle.broadcast.proofs.broadcasts_hold.Goals as goal

pub returns : goal.returns
returns c = broadcasts_hold_lem c.blocks_tell_settings.ensures
