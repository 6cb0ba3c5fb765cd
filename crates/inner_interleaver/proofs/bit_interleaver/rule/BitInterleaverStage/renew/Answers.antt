use Rattle.std.proofs.Common.{refl}
use Rattle.inner_interleaver.specs.BitBlocks.{new_sends, new_hears}
use Rattle.inner_interleaver.proofs.bit_interleaver.rule.BitInterleaverStage.renew.Goals as goal

pub returns : goal.returns
returns c =
    let s = c.args.self.now in
    record { fixed = refl; sends = new_sends s.constellation s.bits; hears = new_hears s.constellation s.words }
