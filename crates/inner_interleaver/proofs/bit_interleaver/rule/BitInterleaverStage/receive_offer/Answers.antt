use Rattle.std.proofs.Common.{◌*◌, ◌^◌, ◌<◌, ◌≤◌, length, set, sym, refl, ap, arith, length-set}
use Rattle.std.proofs.lemmas.List.{take_all}
use Rattle.settings.specs.Constellation.{word_bits}
use Rattle.inner_interleaver.specs.Words.{bits_of}
use Rattle.inner_interleaver.specs.BitInterleaver.{same, decode}
use Rattle.inner_interleaver.specs.Digits.{length-bits}
use Rattle.stage.proofs.Gathering.{busy, more, whole}
use Rattle.inner_interleaver.proofs.bit_interleaver.rule.BitInterleaverStage.receive_offer.Goals as goal

pub returns-then-self-block : goal.returns-then-self-block
returns-then-self-block c =
    let s = c.args.self.now in
    let k = s.constellation in
    let fits : c.args.unit < 2 ^ word_bits k = omega (arith, c.from.ensures, c.limit.ensures, c.if-from-limit.false) in
    let r = busy same (decode k) 126 (126 * word_bits k) tt (bits_of k s.words) s.words s.got s.next (length-bits k s.words)
    (2 ^ word_bits k) c.args.unit fits (omega (arith, c.block.ensures, c.if-self-block.true)) in
    record { fixed = refl; other = refl; answers = r.heard_answers; side = r.heard_side }

pub returns-then-self-lt-WORDS : goal.returns-then-self-lt-WORDS
returns-then-self-lt-WORDS c =
    let s = c.args.self.now in
    let k = s.constellation in
    let words = set s.words s.got c.args.unit in
    let fits : c.args.unit < 2 ^ word_bits k = omega (arith, c.from.ensures, c.limit.ensures, c.if-from-limit.false) in
    let r = more same (decode k) 126 (126 * word_bits k) tt (bits_of k s.words) s.words s.got s.next (length-bits k s.words)
    (2 ^ word_bits k) c.args.unit fits (omega (arith, c.block.ensures, c.if-self-block.false)) (omega (arith, s.few)) c.if-self-lt-WORDS.true
    (bits_of k words) (length-bits k words) in
    record { fixed = refl; other = refl; answers = r.heard_answers; side = r.heard_side }

pub returns-else-self-lt-WORDS : goal.returns-else-self-lt-WORDS
returns-else-self-lt-WORDS c =
    let s = c.args.self.now in
    let k = s.constellation in
    let words = set s.words s.got c.args.unit in
    let fits : c.args.unit < 2 ^ word_bits k = omega (arith, c.from.ensures, c.limit.ensures, c.if-from-limit.false) in
    let all : length words ≤ 126 = simp length-set (omega arith) in
    let r = whole same (decode k) 126 (126 * word_bits k) tt (bits_of k s.words) s.words s.got s.next (length-bits k s.words)
    (2 ^ word_bits k) c.args.unit fits (omega (arith, c.block.ensures, c.if-self-block.false)) (omega (arith, s.few))
    (omega (arith, s.few, c.if-self-lt-WORDS.false)) (bits_of k words) (ap (bits_of k) (sym (take_all 126 words all))) in
    record { fixed = refl; other = refl; answers = r.heard_answers; side = r.heard_side }
