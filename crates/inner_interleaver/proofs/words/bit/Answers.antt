use Rattle.std.proofs.Common.{◌≡◌, ◌-◌, ◌/◌, ◌%◌, ◌^◌, get_or, ap, ◌∙◌, ap₂}
use Rattle.std.proofs.lemmas.Nat.{and_mask}
use Rattle.settings.specs.Constellation.{word_bits}
use Rattle.inner_interleaver.specs.declared.words.Lane.{Lane}
use Rattle.inner_interleaver.specs.Words.{lane, lane_at, bit_of}
use Rattle.inner_interleaver.proofs.words.bit.Goals as goal

pub returns : goal.returns
returns c =
    let p = c.args.p in
    let k = c.args.constellation in
    let ws = c.args.words.now in
    let v = c.word_bits-width.result in
    let l : Lane = get_or c.lanes.result.now c.dealt-round.result.1 (lane 0 0) in
    let is : l ≡ lane_at k (p % word_bits k) = ap₂ (λ ls j. get_or ls j (lane 0 0)) c.lanes.ensures c.dealt-round.ensures.place in
    and_mask (get_or ws c.around.result 0 / 2 ^ (v - 1 - l.stream)) 1
    ∙ ap (λ n. get_or ws n 0 / 2 ^ (v - 1 - l.stream) % 2) c.around.ensures
    ∙ ap₂ (λ v l. bit_of v l c.dealt-round.result.0 ws) c.word_bits-width.ensures.value is
    ∙ ap (λ i. bit_of (word_bits k) (lane_at k (p % word_bits k)) i ws) c.dealt-round.ensures.round
