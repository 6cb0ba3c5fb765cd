use Rattle.std.proofs.Common.{◌≡◌, ℕ, suc, ◌<◌, get_or}
use Rattle.samples.specs.Generator.{after, byte_at}
use Rattle.samples.proofs.generator.fill.Given as goal

abbrev pub invariant-loop-byte : goal.invariant-loop-byte
invariant-loop-byte l =
    (l.state ≡ after l.byte-index l.fn.state)
    × ((k : ℕ) → k < l.byte-index → get_or l.bytes k 0 ≡ byte_at l.fn.state (suc k))
