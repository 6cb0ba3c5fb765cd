use Rattle.std.proofs.Common.{◌*◌, sym, refl, ◌∙◌}
use Rattle.settings.specs.Constellation.{word_bits}
use Rattle.inner_interleaver.specs.Words.{words_of}
use Rattle.inner_interleaver.specs.BitInterleaver.{same, encode}
use Rattle.inner_interleaver.specs.Digits.{length-words, get_d_words}
use Rattle.stage.proofs.Gathering.{none, next}
use Rattle.inner_interleaver.proofs.bit_interleaver.rule.BitInterleaverStage.send_take.Goals as goal

pub returns-then-self-ge-WORDS : goal.returns-then-self-ge-WORDS
returns-then-self-ge-WORDS c =
    let s = c.args.self.now in
    let k = s.constellation in
    let r = none same (encode k) (126 * word_bits k) 126 tt (words_of k s.bits) s.bits s.have s.at (length-words k s.bits) c.if-self-ge-WORDS.true in
    record { fixed = refl; other = refl; answers = r.answers; below = tt; side = r.side }

pub returns : goal.returns
returns c =
    let s = c.args.self.now in
    let k = s.constellation in
    let r = next same (encode k) (126 * word_bits k) 126 tt (words_of k s.bits) s.bits s.have s.at (length-words k s.bits) c.if-self-ge-WORDS.false
    c.word-unit.result (get_d_words k s.bits s.at 0 c.if-self-ge-WORDS.false ∙ sym c.word-unit.ensures.is) in
    record { fixed = refl; other = refl; answers = r.answers; below = c.word-unit.ensures.small; side = r.side }
