-- Energy dispersal as a stage. A side is at a place of a group of 1504 bytes, and receiving does what sending does.
use Rattle.std.specs.Prelude.{◌≡◌, ℕ, ◌+◌, ◌%◌, ◌<◌, List, [], ◌∷◌, length, bit_xor, slice_index}
use Rattle.stage.specs.Machine.{gives}
use Rattle.stage.specs.Model.{Model, Sending, Receiving, clean, heard_of}
use Rattle.holds.specs.Capped.{capped}
use Rattle.stage.specs.Waiting.{listed}
use Rattle.dispersal.specs.declared.energy_dispersal.EnergyDispersal.{EnergyDispersal}
use Rattle.dispersal.specs.declared.side.Side.{Side}
use Rattle.dispersal.specs.Noise.{mask}

abbrev pub combined : ℕ → ℕ → List ℕ
combined place x = bit_xor x (mask place) ∷ []

abbrev pub onward : ℕ → ℕ → ℕ
onward place x = (place + 1) % 1504

abbrev pub energy_dispersal : Model
energy_dispersal = record {
  taken = 256;
  given = 256;
  size = 1;
  hold = capped (λ m. m);
  sends = gives combined onward 0;
  hears = λ ys. clean (gives combined onward 0 ys);
}

-- what a side is: at most one byte waits, and its place says what comes
abbrev pub side_of : Side → Sending
side_of s = record { waits = listed s.waits; future = gives combined onward s.noise.place }

abbrev pub sending_of : EnergyDispersal → Sending
sending_of s = side_of s.leaving

abbrev pub receiving_of : EnergyDispersal → Receiving
receiving_of s = heard_of (side_of s.arriving)

-- Byte t of what a new stage sends is byte t combined with what belongs to place t mod 1504.
pub record SendsDispersed : Type 0 where
  pub as_many : (xs : List ℕ) → length (energy_dispersal.sends xs) ≡ length xs
  pub at : (xs : List ℕ) (t : ℕ) → t < length xs → slice_index (energy_dispersal.sends xs) t ≡ bit_xor (slice_index xs t) (mask (t % 1504))
