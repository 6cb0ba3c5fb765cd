use Rattle.std.proofs.Common.{refl}
use Rattle.broadcast.specs.Calls.{null_packet}
use Rattle.line.proofs.pending.null_packet.Goals as goal

pub returns : goal.returns
unfolding null_packet
returns c = refl
