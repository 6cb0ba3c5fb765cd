-- What the comparison of what is sent with both outputs says.
use Rattle.std.proofs.Common.{◌≡◌, refl}
use denote.Enum.Bare.{sameb}
use Rattle.inner_coder.specs.contracts.puncturing.Sent.{the_type}
use Rattle.inner_coder.specs.declared.puncturing.Sent.{Sent}
use Rattle.inner_coder.specs.declared.puncturing.Sent.TheVariants.{Both, X, Y}
use Rattle.inner_coder.specs.Convolution.{is_both}

pub both_is : (sent : Sent) → sameb the_type sent Both ≡ is_both sent
both_is Both = refl
both_is X = refl
both_is Y = refl
