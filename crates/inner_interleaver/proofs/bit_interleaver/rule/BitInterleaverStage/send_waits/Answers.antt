use Rattle.std.proofs.Common.{◌*◌, sym, refl}
use Rattle.settings.specs.Constellation.{word_bits}
use Rattle.inner_interleaver.specs.Words.{words_of}
use Rattle.inner_interleaver.specs.BitInterleaver.{same, encode}
use Rattle.inner_interleaver.specs.Digits.{length-words}
use Rattle.stage.proofs.Gathering.{waits_is}
use Rattle.inner_interleaver.proofs.bit_interleaver.rule.BitInterleaverStage.send_waits.Goals as goal

pub returns : goal.returns
returns c =
    let s = c.args.self.now in
    let k = s.constellation in
    record {
      fixed = refl;
      other = refl;
      answers = sym (waits_is same (encode k) (126 * word_bits k) 126 tt (words_of k s.bits) s.bits s.have s.at (length-words k s.bits));
      side = refl;
    }
