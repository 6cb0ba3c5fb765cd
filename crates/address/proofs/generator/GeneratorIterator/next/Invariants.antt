use Rattle.std.proofs.Common.{◌≡◌, ◌+◌, ◌-◌, ◌^◌}
use Rattle.address.specs.Address.{row_of}
use Rattle.address.specs.Generator.{addresses_left}
use Rattle.address.proofs.generator.GeneratorIterator.next.Given as goal

-- what was passed over is of no address
abbrev pub invariant-loop-self : goal.invariant-loop-self
invariant-loop-self l = addresses_left l.self.mode l.self.index l.self.register ≡ addresses_left l.initial.self.mode l.initial.self.index l.initial.self.register

abbrev pub decreases-loop-self : goal.decreases-loop-self
decreases-loop-self l = 2 ^ ((row_of l.self.mode).bits + 1) - l.self.index
