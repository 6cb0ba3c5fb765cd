use Rattle.std.proofs.Common.{◌≡◌, ◌+◌, ◌%◌, drop}
use Rattle.address.specs.Address.{fed_back}
use Rattle.address.proofs.generator.Generator.feedback.Given as goal

-- the taps that are left have yet to be added
abbrev pub invariant-loop-tap : goal.invariant-loop-tap
invariant-loop-tap l = (l.sum + fed_back (drop l.tap-index l.tap-items) l.self.register) % 2 ≡ fed_back l.tap-items l.self.register
