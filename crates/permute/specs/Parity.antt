-- The parity of a symbol, and its code: 0 is even, 1 is odd.
use Rattle.std.specs.Prelude.{ℕ, zero, suc, Ok, Err, Result}
use Rattle.refusal.specs.declared.Refusal.{Refusal}
use Rattle.refusal.specs.declared.Refusal.TheVariants.{FrameOrParity}
use Rattle.permute.specs.declared.parity.Parity.{Parity}
use Rattle.permute.specs.declared.parity.Parity.TheVariants.{Even, Odd}

abbrev pub parity_read : ℕ → Result Parity Refusal
parity_read zero = Ok Even
parity_read (suc zero) = Ok Odd
parity_read (suc (suc n)) = Err FrameOrParity

abbrev pub opposite : Parity → Parity
opposite Even = Odd
opposite Odd = Even
