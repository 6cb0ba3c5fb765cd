-- The receiver as a machine: what a call does depends on the phase and the call together.
use Rattle.std.specs.Prelude.{ℕ, not, List, [], ◌∷◌, ◌++◌, length, drop, None, Option, ◌==◌, nat_lt}
use Rattle.settings.specs.declared.Settings.{Settings}
use Rattle.stage.specs.Model.{Model, Receiving, told, new_receiving}
use Rattle.settings.specs.Codes.{settings_read}
use Rattle.broadcast.specs.Calls.{Event, failed, done, counted, check}
use Rattle.broadcast.specs.Steps.{Outcome, refuse, unless, starting, event, run, Went}
use Rattle.broadcast.specs.Receiver.{Call, start, hear, collect, Next, a_packet, a_fault, nothing, next, is_some, Follows}

-- A receiver by its phase: idle; started, with the settings and the pile's receiving side as the receiver has fed it, in which the bytes that were not
-- handed out wait.
pub data Receiver : Type 0 where
  idle : Receiver
  tuned : Settings → Receiving → Receiver

-- as a start leaves it
abbrev pub started : Model → Settings → Receiver
started M s = tuned s (new_receiving M)

abbrev pub hear_checks : Model → Receiving → ℕ → Option ℕ
hear_checks M side u =
    check (not (nat_lt u M.given)) 21
    (check (is_some (next side.waits)) 22
    None)

-- the side without the first packet that waits in it
abbrev pub handed : Receiving → Receiving
handed side = record {
  waits = record { units = drop 188 side.waits.units; fault = side.waits.fault };
  future = side.future;
}

abbrev pub handing : Next → Settings → Receiving → List ℕ → Outcome Receiver
handing (a_packet p) s side buffer = record { answer = counted 188; buffer = p; state = tuned s (handed side) }
handing (a_fault f) s side buffer = record { answer = failed f; buffer = buffer; state = tuned s side }
handing nothing s side buffer = record { answer = counted 0; buffer = buffer; state = tuned s side }

abbrev pub step : Model → Receiver → Call → Outcome Receiver
step M idle (start c) = starting M idle (started M) (settings_read c)
step M idle (hear u) = refuse 30 idle []
step M idle (collect buffer) = refuse 30 idle buffer
step M (tuned s side) (start c) = refuse 35 (tuned s side) []
step M (tuned s side) (hear u) =
    unless (hear_checks M side u) (tuned s side) []
    (record { answer = done; buffer = []; state = tuned s (told side (u ∷ [])) })
step M (tuned s side) (collect buffer) =
    unless (check (not (length buffer == 188)) 15 None) (tuned s side) buffer
    (handing (next side.waits) s side buffer)

-- the events of calls from a phase on
abbrev pub events : Model → Receiver → List Call → List (Event Call)
events M r cs = run (step M) r cs

-- the receiver has gone through a succession over the pile
abbrev pub GoneThrough : Model → List (Event Call) → Receiver → Type 0
GoneThrough M es r = Went (step M) idle (Follows M) es r

-- a call with this outcome continues every succession that the receiver has gone through
abbrev pub Continues : Model → Receiver → Call → Outcome Receiver → Type 0
Continues M r c o = (es : List (Event Call)) → GoneThrough M es r → GoneThrough M (es ++ (event c o ∷ [])) o.state
