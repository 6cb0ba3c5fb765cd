use Rattle.std.proofs.Common.{◌^◌, ◌<◌, length, get_or, sym, ap, subst, arith}
use Rattle.std.proofs.lemmas.Nat.{pow_pos}
use Rattle.settings.specs.Constellation.{word_bits}
use Rattle.inner_interleaver.specs.Symbols.{symbol_some}
use Rattle.inner_interleaver.proofs.Stores.{zeros_below}
use Rattle.inner_interleaver.proofs.SymbolSides.{new_side}
use Rattle.inner_interleaver.proofs.side.Side.new.Goals as goal

pub invariant_of-result : goal.invariant_of-result
invariant_of-result c =
    let t = 2 ^ word_bits c.args.constellation in
    let z = pow_pos (word_bits c.args.constellation) in
    record {
      short = omega (arith, symbol_some c.args.mode, ap length c.new.ensures);
      gathered = λ k. subst (λ w. get_or w k 0 < t) (sym c.new.ensures) z;
      waiting = λ k. zeros_below 6048 t k z;
    }

pub returns-clause-side : goal.returns-clause-side
returns-clause-side c = new_side c.args.mode c.args.parity _ _ c.new.ensures
