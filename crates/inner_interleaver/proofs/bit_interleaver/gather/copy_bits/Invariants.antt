use Rattle.std.proofs.Common.{◌≡◌, ◌≤◌, ◌++◌, length, take, drop}
use Rattle.stage.specs.Rule.{Under}
use Rattle.inner_interleaver.proofs.bit_interleaver.gather.copy_bits.Given as goal

abbrev pub invariant-loop-count : goal.invariant-loop-count
invariant-loop-count l =
    (l.count ≤ length l.fn.room)
    × Under 2 (take l.count l.input)
    × (l.room ≡ take l.count l.input ++ drop l.count l.fn.room)
