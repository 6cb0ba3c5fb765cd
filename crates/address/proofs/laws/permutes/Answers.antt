use Rattle.address.proofs.Address.{addresses_permute}
use Rattle.address.proofs.laws.permutes.Goals as goal

pub returns : goal.returns
returns c = addresses_permute c.args.mode
