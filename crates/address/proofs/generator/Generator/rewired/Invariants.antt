use Rattle.std.proofs.Common.{◌≡◌, ◌+◌, drop}
use Rattle.address.specs.Address.{wired}
use Rattle.address.proofs.generator.Generator.rewired.Given as goal

-- the bits that are left have yet to be added
abbrev pub invariant-loop-place : goal.invariant-loop-place
invariant-loop-place l = l.all + wired (drop l.place-index l.place-items) l.left ≡ wired l.place-items l.self.register
