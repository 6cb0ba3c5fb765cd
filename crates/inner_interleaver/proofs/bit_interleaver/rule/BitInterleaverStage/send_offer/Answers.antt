use Rattle.std.proofs.Common.{◌*◌, set, refl, arith}
use Rattle.settings.specs.Constellation.{word_bits}
use Rattle.inner_interleaver.specs.Words.{words_of}
use Rattle.inner_interleaver.specs.BitInterleaver.{same, encode}
use Rattle.inner_interleaver.specs.BitBlocks.{block-fits, words_take}
use Rattle.inner_interleaver.specs.Digits.{width_some, length-words}
use Rattle.stage.proofs.Gathering.{busy, more, whole}
use Rattle.inner_interleaver.proofs.Stores.{set_below}
use Rattle.inner_interleaver.proofs.bit_interleaver.rule.BitInterleaverStage.send_offer.Goals as goal

pub returns-then-self-lt-WORDS : goal.returns-then-self-lt-WORDS
returns-then-self-lt-WORDS c =
    let s = c.args.self.now in
    let k = s.constellation in
    let r = busy same (encode k) (126 * word_bits k) 126 tt (words_of k s.bits) s.bits s.have s.at (length-words k s.bits)
    2 c.args.unit c.if-unit-ge2.false c.if-self-lt-WORDS.true in
    record { fixed = refl; other = refl; answers = r.answers; side = r.side }

pub invariant_of-self : goal.invariant_of-self
invariant_of-self c =
    let s = c.args.self.now in
    record { small = set_below 2 s.bits s.have c.args.unit s.small c.if-unit-ge2.false; short = omega (arith, c.block.ensures, c.if-self-block.true); few = s.few; inside = s.inside }

pub invariant_of-self-else-self-block : goal.invariant_of-self-else-self-block
invariant_of-self-else-self-block c =
    let s = c.args.self.now in
    record { small = set_below 2 s.bits s.have c.args.unit s.small c.if-unit-ge2.false; short = omega (arith, width_some s.constellation); few = s.few; inside = omega arith }

pub returns-then-self-block : goal.returns-then-self-block
returns-then-self-block c =
    let s = c.args.self.now in
    let k = s.constellation in
    let bits = set s.bits s.have c.args.unit in
    let r = more same (encode k) (126 * word_bits k) 126 tt (words_of k s.bits) s.bits s.have s.at (length-words k s.bits)
    2 c.args.unit c.if-unit-ge2.false c.if-self-lt-WORDS.false (omega (arith, s.short, block-fits k)) (omega (arith, c.block.ensures, c.if-self-block.true))
    (words_of k bits) (length-words k bits) in
    record { fixed = refl; other = refl; answers = r.answers; side = r.side }

pub returns-else-self-block : goal.returns-else-self-block
returns-else-self-block c =
    let s = c.args.self.now in
    let k = s.constellation in
    let bits = set s.bits s.have c.args.unit in
    let r = whole same (encode k) (126 * word_bits k) 126 tt (words_of k s.bits) s.bits s.have s.at (length-words k s.bits)
    2 c.args.unit c.if-unit-ge2.false c.if-self-lt-WORDS.false (omega (arith, s.short, block-fits k)) (omega (arith, s.short, c.block.ensures, c.if-self-block.false))
    (words_of k bits) (words_take k bits) in
    record { fixed = refl; other = refl; answers = r.answers; side = r.side }
