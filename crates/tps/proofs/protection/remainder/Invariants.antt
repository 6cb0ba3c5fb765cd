use Rattle.std.proofs.Common.{◌≡◌, ◌^◌, ◌<◌, drop}
use Rattle.tps.specs.Protection.{remainder_from}
use Rattle.tps.proofs.protection.remainder.Given as goal

abbrev pub invariant-loop-bit : goal.invariant-loop-bit
invariant-loop-bit l = (l.r < 2 ^ 14) × (remainder_from l.r (drop l.bit-index l.bits) ≡ remainder_from 0 l.bits)
