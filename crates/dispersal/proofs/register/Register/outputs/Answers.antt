use Rattle.dispersal.specs.Octets.{octet}
use Rattle.dispersal.proofs.register.Register.outputs.Goals as goal

pub returns : goal.returns
returns c = octet c.args.self.bits c.args.self.fifteen
