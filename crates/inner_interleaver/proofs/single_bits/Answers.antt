use Rattle.std.proofs.Common.{refl}
use Rattle.inner_interleaver.specs.Words.{words_of}
use Rattle.inner_interleaver.proofs.single_bits.Goals as goal

pub returns : goal.returns
unfolding words_of
returns c = (refl, refl, refl)
