use Rattle.inner_coder.proofs.Publishing.{inner_vectors_lem}
use Rattle.inner_coder.proofs.inner_vectors.Goals as goal

pub returns : goal.returns
returns c = inner_vectors_lem
