use Rattle.tps.specs.Protection.{parity}
use Rattle.tps.specs.Block.{information, block}
use Rattle.tps.proofs.Signalling.{information-length, information_binary}
use Rattle.tps.proofs.Multiples.{block_codeword, block_only}
use Rattle.tps.proofs.laws.blocks_are_codewords.Goals as goal

pub returns : goal.returns
unfolding block parity
returns c s frame =
    let I = information s frame in (
      block_codeword I (information-length s frame) (information_binary s frame),
      block_only I (information-length s frame) (information_binary s frame),
    )
