-- The standard pile for settings, and what it gives: the seven definitions of EN 300 744, clause 4.3, one after the other, each from its beginning.
use Rattle.std.specs.Prelude.{◌≡◌, ℕ, ◌*◌, ◌^◌, ◌<◌, List}
use Rattle.settings.specs.declared.Settings.{Settings}
use Rattle.settings.specs.declared.mode.Mode.{Mode}
use Rattle.settings.specs.declared.constellation.Constellation.{Constellation}
use Rattle.settings.specs.declared.rate.Rate.{Rate}
use Rattle.settings.specs.Constellation.{word_bits}
use Rattle.settings.specs.SuperFrame.{super_frame_packets}
use Rattle.stage.specs.Model.{Model}
use Rattle.stage.specs.Rule.{Rule}
use Rattle.stage.specs.Piled.{piled}
use Rattle.dispersal.specs.EnergyDispersal.{energy_dispersal}
use Rattle.outer.specs.OuterCoder.{outer_coder}
use Rattle.outer.specs.OuterInterleaver.{outer_interleaver}
use Rattle.outer.specs.Serializer.{serializer}
use Rattle.inner_coder.specs.Coder.{inner_code}
use Rattle.inner_interleaver.specs.BitInterleaver.{bit_interleaving}
use Rattle.inner_interleaver.specs.SymbolInterleaver.{symbol_interleaving}
use Rattle.settings.specs.Hold.{standard_hold}

-- from the symbol interleaver up
abbrev pub words_for : Mode → Constellation → Model
words_for m c = piled (bit_interleaving c) (symbol_interleaving m c)

abbrev pub coded_for : Mode → Constellation → Rate → Model
coded_for m c r = piled (inner_code r) (words_for m c)

abbrev pub serialized_for : Mode → Constellation → Rate → Model
serialized_for m c r = piled serializer (coded_for m c r)

abbrev pub delayed_for : Mode → Constellation → Rate → Model
delayed_for m c r = piled outer_interleaver (serialized_for m c r)

abbrev pub protected_for : Mode → Constellation → Rate → Model
protected_for m c r = piled outer_coder (delayed_for m c r)

unfoldable pub model_for : Mode → Constellation → Rate → Model
model_for m c r = piled energy_dispersal (protected_for m c r)

abbrev pub standard_model : Settings → Model
standard_model s = model_for s.mode s.constellation s.rate

-- the cells of a list of bytes
abbrev pub standard_cells : Settings → List ℕ → List ℕ
standard_cells s bytes =
    (symbol_interleaving s.mode s.constellation).sends
    ((bit_interleaving s.constellation).sends
    ((inner_code s.rate).sends
    (serializer.sends
    (outer_interleaver.sends
    (outer_coder.sends
    (energy_dispersal.sends bytes))))))

-- It takes bytes and gives words of v bits, keeps the stage rule, sends the standard's cells, and has the hold of the table. That is less than a
-- super-frame of packets, so a line over it starts.
pub record StandardFor (s : Settings) : Type 0 where
  pub takes_bytes : (standard_model s).taken ≡ 256
  pub gives_words : (standard_model s).given ≡ 2 ^ word_bits s.constellation
  pub of_seven : (standard_model s).size ≡ 7
  pub rule : Rule (standard_model s)
  pub cells : (bytes : List ℕ) → (standard_model s).sends bytes ≡ standard_cells s bytes
  pub hold : (m : ℕ) → (standard_model s).hold m ≡ standard_hold s m
  pub starts : (standard_model s).hold 0 < 188 * super_frame_packets s

abbrev pub StandardHolds : Type 0
StandardHolds = (s : Settings) → StandardFor s
