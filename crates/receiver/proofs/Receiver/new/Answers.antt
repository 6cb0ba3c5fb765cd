use Rattle.std.proofs.Common.{refl}
use Rattle.broadcast.proofs.All.{receiver_begins}
use Rattle.receiver.proofs.Receiver.new.Goals as goal

pub returns-clause-begins : goal.returns-clause-begins
returns-clause-begins g c = receiver_begins _ _ refl
