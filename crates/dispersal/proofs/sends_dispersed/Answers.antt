use Rattle.dispersal.specs.Restoring.{sends_dispersed_lem}
use Rattle.dispersal.proofs.sends_dispersed.Goals as goal

pub returns : goal.returns
returns c = sends_dispersed_lem
