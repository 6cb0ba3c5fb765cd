use Rattle.std.proofs.Common.{lit<}
use Rattle.dispersal.specs.Noise.{before}
use Rattle.dispersal.proofs.noise.Noise.new.Goals as goal

pub invariant_of-result : goal.invariant_of-result
unfolding before
invariant_of-result c = record { within = lit< tt; runs = c.loaded.ensures }
