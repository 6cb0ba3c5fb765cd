use Rattle.std.proofs.Common.{refl, arith, lit≤}
use Rattle.inner_interleaver.specs.BitBlocks.{new_sends, new_hears}
use Rattle.inner_interleaver.specs.Digits.{width_some}
use Rattle.inner_interleaver.proofs.Stores.{zeros_below}
use Rattle.inner_interleaver.proofs.bit_interleaver.BitInterleaver.of.Goals as goal

pub invariant_of-result : goal.invariant_of-result
invariant_of-result c = record { small = λ k. zeros_below 756 2 k (lit≤ tt); short = omega (arith, width_some c.args.constellation); few = omega arith; inside = omega arith }

pub returns : goal.returns
returns c = record { model = refl; sends = new_sends c.args.constellation _; hears = new_hears c.args.constellation _ }
