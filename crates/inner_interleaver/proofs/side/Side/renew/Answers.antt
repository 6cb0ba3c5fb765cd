use Rattle.inner_interleaver.proofs.SymbolSides.{new_side}
use Rattle.inner_interleaver.proofs.side.Side.renew.Goals as goal

pub returns-clause-side : goal.returns-clause-side
returns-clause-side c = let s = c.args.self.now in new_side s.mode c.args.parity s.moved _ c.clear.ensures
