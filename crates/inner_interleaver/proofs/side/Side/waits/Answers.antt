use Rattle.std.proofs.Common.{ltb, take, sym, ap, ◌∙◌, arith}
use Rattle.settings.specs.Mode.{symbol_cells}
use Rattle.stage.proofs.Waits.{some-rest}
use Rattle.inner_interleaver.proofs.SymbolSides.{long}
use Rattle.inner_interleaver.proofs.side.Side.waits.Goals as goal

pub returns : goal.returns
returns c =
    let s = c.args.self.now in
    let n = symbol_cells s.mode in
    let place = ap (ltb s.at) c.symbol.ensures in
    record { place = place; answers = place ∙ sym (some-rest (take n s.moved) n s.at (long s.mode s.moved (omega arith))) }
