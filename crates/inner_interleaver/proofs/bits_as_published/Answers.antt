use Rattle.inner_interleaver.specs.BitBlocks.{bits-published}
use Rattle.inner_interleaver.proofs.bits_as_published.Goals as goal

pub returns : goal.returns
returns c = bits-published c.args.constellation
