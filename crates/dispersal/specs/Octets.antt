-- Eight outputs at once, at every register: a test that antt computes.
use Rattle.std.specs.Prelude.{◌≡◌, ℕ, ◌+◌, ◌*◌, ◌/◌, ◌%◌, ◌<◌, Bool, T, ◌==◌, bit_and, bit_xor}
use Rattle.std.proofs.Common.{eqb→eq}
use Rattle.dispersal.specs.Noise.{outputs, run}
use Rattle.computed.proofs.Everywhere.{every, at}

abbrev right : ℕ → Bool
right r = bit_and (bit_xor (r / 128) (r / 64)) 255 == outputs 8 0 r

abbrev onward : ℕ → Bool
onward r = (bit_and r 127 * 256) % 65536 + outputs 8 0 r == run 8 r

all_right : T (every right 32768)
unfolding outputs
all_right = tt

all_onward : T (every onward 32768)
unfolding outputs run
all_onward = tt

pub octet : (r : ℕ) → r < 32768 → bit_and (bit_xor (r / 128) (r / 64)) 255 ≡ outputs 8 0 r
octet r h = eqb→eq (bit_and (bit_xor (r / 128) (r / 64)) 255) (outputs 8 0 r) (at right 32768 all_right r h)

pub onwards : (r : ℕ) → r < 32768 → (bit_and r 127 * 256) % 65536 + outputs 8 0 r ≡ run 8 r
onwards r h = eqb→eq ((bit_and r 127 * 256) % 65536 + outputs 8 0 r) (run 8 r) (at onward 32768 all_onward r h)
