use Rattle.inner_interleaver.specs.Symbols.{symbols_published}
use Rattle.inner_interleaver.proofs.symbols_as_published.Goals as goal

pub returns : goal.returns
returns c = symbols_published c.args.mode c.args.constellation
