use Rattle.settings.proofs.Records.{records_stand_lem}
use Rattle.settings.proofs.record.records_stand.Goals as goal

pub returns : goal.returns
returns c = records_stand_lem
