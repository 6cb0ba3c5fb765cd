use Rattle.std.proofs.Common.{length, sym, ap, ◌∙◌, arith}
use Rattle.address.proofs.Giving.{ended, given, passed, turns}
use Rattle.address.proofs.generator.GeneratorIterator.next.Goals as goal

pub returns-then-from-symbol_cells-clause-steps : goal.returns-then-from-symbol_cells-clause-steps
returns-then-from-symbol_cells-clause-steps c =
    sym c.loop-self.invariant
    ∙ given c.loop-self.self.mode _ _ _ _ (omega (arith, turns _ _ c.of.ensures.bits)) c.address-at.ensures c.following-self.ensures.is (omega arith)

pub returns-then-from-symbol_cells-clause-goes : goal.returns-then-from-symbol_cells-clause-goes
returns-then-from-symbol_cells-clause-goes c =
    record { on = λ _. (tt, tt, omega (arith, ap length (returns-then-from-symbol_cells-clause-steps c))); keeps = tt; rests = λ _. tt }

pub loop-self-preserved : goal.loop-self-preserved
loop-self-preserved c =
    sym (passed c.loop-self.self.mode _ _ _ _ (omega (arith, turns _ _ c.of.ensures.bits)) c.address-at.ensures c.following-self.ensures.is (omega arith))
    ∙ c.loop-self.invariant

pub returns-clause-steps : goal.returns-clause-steps
returns-clause-steps c =
    let none = ended c.loop-self.self.mode _ _ (omega (arith, turns _ _ c.of.ensures.bits)) in
    (sym c.loop-self.invariant ∙ none, none)
