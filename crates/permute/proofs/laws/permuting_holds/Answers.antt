use Rattle.permute.proofs.Permuted.{permuting_holds_lem}
use Rattle.permute.proofs.laws.permuting_holds.Goals as goal

pub returns : goal.returns
returns g c = permuting_holds_lem _
