use Rattle.std.proofs.Common.{refl}
use Rattle.stage.specs.Blocks.{blocks}
use Rattle.outer.proofs.serializer_vectors.Goals as goal

pub returns : goal.returns
unfolding blocks
returns c = refl
