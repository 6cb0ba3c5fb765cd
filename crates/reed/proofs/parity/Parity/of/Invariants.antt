use Rattle.std.proofs.Common.{◌≡◌, take}
use Rattle.reed.specs.Code.{remainder}
use Rattle.reed.proofs.parity.Parity.of.Given as goal

-- the parity of the bytes so far
abbrev pub invariant-loop-byte : goal.invariant-loop-byte
invariant-loop-byte l = l.parity ≡ remainder (take l.byte-index l.message)
