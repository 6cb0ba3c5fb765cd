-- A stage made for a code that may be unknown: for an unknown one it takes and gives nothing.
use Rattle.std.specs.Prelude.{min, [], Some, None, Option}
use Rattle.stage.specs.Model.{Model, Sending, Receiving, silence, new_sending, new_receiving}
use Rattle.holds.specs.Capped.{most}

abbrev pub unknown : Model
unknown = record { taken = 0; given = 0; size = 1; hold = λ m. min m most; sends = λ xs. []; hears = λ ys. silence }

abbrev pub known_model : {S : Type 0} → (S → Model) → Option S → Model
known_model model (Some s) = model s
known_model model None = unknown

abbrev pub known_sending : {S : Type 0} → (S → Sending) → Option S → Sending
known_sending sending (Some s) = sending s
known_sending sending None = new_sending unknown

abbrev pub known_receiving : {S : Type 0} → (S → Receiving) → Option S → Receiving
known_receiving receiving (Some s) = receiving s
known_receiving receiving None = new_receiving unknown
