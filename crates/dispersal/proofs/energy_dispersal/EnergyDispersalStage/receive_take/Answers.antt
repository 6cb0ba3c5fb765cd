use Rattle.std.proofs.Common.{ap}
use Rattle.stage.specs.Model.{heard_of}
use Rattle.dispersal.proofs.energy_dispersal.EnergyDispersalStage.receive_take.Goals as goal

pub returns-clause-side : goal.returns-clause-side
returns-clause-side c = ap heard_of c.take.ensures.side
