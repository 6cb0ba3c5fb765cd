use Rattle.std.proofs.Common.{ap}
use Rattle.stage.specs.Model.{heard_of}
use Rattle.dispersal.proofs.energy_dispersal.EnergyDispersal.new.Goals as goal

pub returns-clause-hears : goal.returns-clause-hears
returns-clause-hears c = ap heard_of c.new-2.ensures
