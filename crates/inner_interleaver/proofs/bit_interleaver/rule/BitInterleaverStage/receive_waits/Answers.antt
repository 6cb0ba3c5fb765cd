use Rattle.std.proofs.Common.{◌*◌, ltb, sym, refl, ap, ◌∙◌}
use Rattle.settings.specs.Constellation.{word_bits}
use Rattle.inner_interleaver.specs.Words.{bits_of}
use Rattle.inner_interleaver.specs.BitInterleaver.{same, decode}
use Rattle.inner_interleaver.specs.Digits.{length-bits}
use Rattle.stage.proofs.Gathering.{waits_heard}
use Rattle.inner_interleaver.proofs.bit_interleaver.rule.BitInterleaverStage.receive_waits.Goals as goal

pub returns : goal.returns
returns c =
    let s = c.args.self.now in
    let k = s.constellation in
    record {
      fixed = refl;
      other = refl;
      answers = ap (ltb s.next) c.block.ensures
          ∙ sym (waits_heard same (decode k) 126 (126 * word_bits k) tt (bits_of k s.words) s.words s.got s.next (length-bits k s.words));
      side = refl;
    }
