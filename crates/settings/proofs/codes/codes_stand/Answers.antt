use Rattle.settings.proofs.Reading.{codes_stand_lem}
use Rattle.settings.proofs.codes.codes_stand.Goals as goal

pub returns : goal.returns
returns c = codes_stand_lem
