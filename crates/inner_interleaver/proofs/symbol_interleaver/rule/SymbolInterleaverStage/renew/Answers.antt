use Rattle.std.proofs.Common.{ap, ◌∙◌}
use Rattle.permute.specs.declared.parity.Parity.TheVariants.{Odd}
use Rattle.stage.specs.Model.{heard_of}
use Rattle.inner_interleaver.specs.SymbolInterleaver.{idle}
use Rattle.inner_interleaver.proofs.SymbolSides.{new_hears}
use Rattle.inner_interleaver.proofs.symbol_interleaver.rule.SymbolInterleaverStage.renew.Goals as goal

pub returns-clause-hears : goal.returns-clause-hears
returns-clause-hears c =
    let s = c.args.self.now in
    ap heard_of (c.renew-2.ensures.side ∙ ap (λ m. idle m Odd) s.back_mode) ∙ new_hears s.out.mode s.out.constellation
