use Rattle.std.proofs.Common.{ap}
use Rattle.tps.specs.Block.{blocks}
use Rattle.tps.proofs.Telling.{settings_told}
use Rattle.tps.proofs.laws.blocks_tell_settings.Goals as goal

pub returns : goal.returns
returns c s t h k = (settings_told s t h k, ap blocks)
