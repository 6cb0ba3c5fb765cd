use Rattle.std.proofs.Common.{refl}
use Rattle.address.specs.Address.{addresses_of}
use Rattle.address.proofs.laws.published.Goals as goal

pub returns : goal.returns
unfolding addresses_of
returns c = record { begins = (refl, refl); whole = (refl, refl) }
