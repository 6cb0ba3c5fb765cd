use Rattle.std.proofs.Common.{refl}
use Rattle.reed.specs.Code.{remainder}
use Rattle.reed.specs.Registers.{bytes_of}
use Rattle.reed.proofs.parity.Parity.new.Goals as goal

pub returns : goal.returns
unfolding bytes_of remainder
returns c = refl
