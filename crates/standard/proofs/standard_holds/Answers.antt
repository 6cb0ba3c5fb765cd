use Rattle.standard.proofs.Seven.{standard_holds_lem}
use Rattle.standard.proofs.standard_holds.Goals as goal

pub returns : goal.returns
returns c = standard_holds_lem
