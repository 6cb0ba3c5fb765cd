use Rattle.std.proofs.Common.{◌*◌, ◌<◌, sym, refl, ◌∙◌, arith}
use Rattle.settings.specs.Constellation.{word_bits}
use Rattle.inner_interleaver.specs.Words.{bits_of}
use Rattle.inner_interleaver.specs.BitInterleaver.{same, decode}
use Rattle.inner_interleaver.specs.Digits.{length-bits, get_d_bits}
use Rattle.stage.proofs.Gathering.{none, next}
use Rattle.inner_interleaver.proofs.bit_interleaver.rule.BitInterleaverStage.receive_take.Goals as goal

pub returns-then-self-block : goal.returns-then-self-block
returns-then-self-block c =
    let s = c.args.self.now in
    let k = s.constellation in
    let r = none same (decode k) 126 (126 * word_bits k) tt (bits_of k s.words) s.words s.got s.next (length-bits k s.words)
    (omega (arith, c.block.ensures, c.if-self-block.true)) in
    record { fixed = refl; other = refl; answers = r.heard_answers; below = tt; side = r.heard_side }

pub returns : goal.returns
returns c =
    let s = c.args.self.now in
    let k = s.constellation in
    let inside : s.next < 126 * word_bits k = omega (arith, c.block.ensures, c.if-self-block.false) in
    let r = next same (decode k) 126 (126 * word_bits k) tt (bits_of k s.words) s.words s.got s.next (length-bits k s.words) inside
    c.bit-unit.result (get_d_bits k s.words s.next 0 inside ∙ sym c.bit-unit.ensures) in
    record { fixed = refl; other = refl; answers = r.heard_answers; below = omega (arith, c.bit-unit.ensures); side = r.heard_side }
