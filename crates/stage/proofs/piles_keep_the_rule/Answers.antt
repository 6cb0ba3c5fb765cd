use Rattle.std.proofs.Common.{refl}
use Rattle.stage.proofs.PilingRule.{piled_rule}
use Rattle.stage.proofs.piles_keep_the_rule.Goals as goal

pub returns : goal.returns
returns c = λ U L u l. (piled_rule u l, λ m. refl)
