use Rattle.std.proofs.Common.{ap, ◌∙◌}
use Rattle.stage.specs.Model.{heard_of}
use Rattle.inner_interleaver.proofs.SymbolSides.{new_hears}
use Rattle.inner_interleaver.proofs.symbol_interleaver.SymbolInterleaver.of.Goals as goal

pub returns-clause-hears : goal.returns-clause-hears
returns-clause-hears c = ap heard_of c.new-3.ensures.side ∙ new_hears c.args.mode c.args.constellation
