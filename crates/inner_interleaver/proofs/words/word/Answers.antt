use Rattle.std.proofs.Common.{◌+◌, ◌-◌, ◌*◌, ◌^◌, get_or, ap, arith}
use Rattle.inner_interleaver.specs.Words.{lane}
use Rattle.inner_interleaver.specs.Digits.{brought-more, brought_small}
use Rattle.inner_interleaver.proofs.words.word.Goals as goal

pub loop-place-preserved : goal.loop-place-preserved
loop-place-preserved c =
    let v = c.word_bits-width.result in
    let ls = c.lanes-lane-items.result.now in
    let b = c.args.bits.now in
    let w = c.args.w in
    let i = c.loop-place.place in
    let more = brought-more v ls i b w c.loop-place-test.true in
    let at = ap (λ k. get_or b (v * k + i) 0 * 2 ^ (v - 1 - (get_or ls i (lane 0 0)).stream)) c.around.ensures in
    omega (arith, more, at, c.loop-place.invariant, brought_small c.args.constellation v ls b w c.word_bits-width.ensures.value c.lanes-lane-items.ensures c.requires.bits)
