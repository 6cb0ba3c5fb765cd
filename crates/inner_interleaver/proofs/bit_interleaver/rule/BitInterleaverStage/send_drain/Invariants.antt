use Rattle.std.proofs.Common.{◌≡◌, ◌+◌, ◌*◌, ◌≤◌, take, drop}
use Rattle.settings.specs.Constellation.{word_bits}
use Rattle.stage.specs.Blocks.{block_sending}
use Rattle.stage.specs.Passing.{Gives}
use Rattle.inner_interleaver.specs.Words.{words_of}
use Rattle.inner_interleaver.specs.BitInterleaver.{same, encode, bit_interleaving, sending_of}
use Rattle.inner_interleaver.proofs.bit_interleaver.rule.BitInterleaverStage.send_drain.Given as goal

abbrev pub invariant-loop-made : goal.invariant-loop-made
invariant-loop-made l =
    let s = l.initial.self in
    let c = s.constellation in
    record {
      stays : l.self ≡ s;
      room : s.at + l.made ≤ 126;
      gives : Gives (bit_interleaving c) (sending_of s) (block_sending same (encode c) (126 * word_bits c) (drop (s.at + l.made) (words_of c s.bits)) tt (take s.have s.bits))
          l.fn.output l.output l.made;
    }
