use Rattle.address.proofs.Giving.{started}
use Rattle.address.proofs.generator.Generator.new.Goals as goal

pub returns : goal.returns
returns c = started c.args.mode
