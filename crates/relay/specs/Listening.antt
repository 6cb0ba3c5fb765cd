-- What ears do: which calls their receiver has gone through, what of these was heard and collected, and what is told where the hearing ends.
use Rattle.std.specs.Prelude.{◌≡◌, ◌≢◌, ℕ, ◌+◌, ◌-◌, ◌^◌, ◌<◌, min, ◌⊎◌, List, [], ◌∷◌, length, take, Some, None, Ok, Err, Option, Result, OnOk, OnErr}
use Rattle.refusal.specs.declared.Refusal.TheVariants.{NotStarted}
use Rattle.stage.specs.Model.{Model, Receiving}
use Rattle.broadcast.specs.Steps.{state_after}
use Rattle.broadcast.specs.Receiver.{Call, Next, a_packet, a_fault, nothing, next, settings_of, heard_of, packets_of}
use Rattle.broadcast.specs.ReceiverSteps.{Receiver, idle, tuned, step, events}
use Rattle.receiver.specs.View.{view}
use Rattle.receiver.specs.declared.missed.Missed.{Missed}
use Rattle.receiver.specs.declared.missed.Missed.TheVariants.{Refused, Failed}
use Rattle.relay.specs.declared.ears.Ears as declared

-- Ears, as their calls know them.
pub record Ears : Type 0 where
  pub receiver : Receiver
  pub cells : ℕ
  pub packets : ℕ
  pub missed : Option Missed

abbrev pub ears_of : {P S : Type 0} → (P → Receiving) → declared.Ears P S → Ears
ears_of receiving e = record { receiver = view receiving e.receiver; cells = e.cells; packets = e.packets; missed = e.missed }

-- The ears e have heard the cells heard, in order, and are e' then: calls have led their receiver from the one to the other. No start is among the accepted
-- ones, the hears among them bring these cells, and cells and packets are counted, in 64 bits and up to the largest number of them.
pub record Listened (M : Model) (heard : List ℕ) (e e' : Ears) : Type 0 where
  pub calls : List Call
  pub leads : e'.receiver ≡ state_after (step M) e.receiver calls
  pub none_started : settings_of (events M e.receiver calls) ≡ []
  pub heard_is : heard_of (events M e.receiver calls) ≡ heard
  pub cells_are : e.cells < 2 ^ 64 → e'.cells ≡ min (e.cells + length heard) (2 ^ 64 - 1)
  pub packets_are : e.packets < 2 ^ 64 → e'.packets ≡ min (e.packets + length (packets_of (events M e.receiver calls))) (2 ^ 64 - 1)

-- No packet waits in a receiver, and what was missed is m, and m' once what waits or refuses is told.
abbrev pub ToldNext : Next → Option Missed → Option Missed → Type 0
ToldNext nothing m m' = m' ≡ m
ToldNext (a_fault f) m m' = m' ≡ Some (Failed f)
ToldNext (a_packet p) m m' = ⊥

abbrev pub Told : Receiver → Option Missed → Option Missed → Type 0
Told idle m m' = m' ≡ Some (Refused NotStarted)
Told (tuned s side) m m' = ToldNext (next side.waits) m m'

-- Packets are collected, and no cell is heard: all that wait, or, where the sink fails, some first ones.
abbrev pub Collected : {F : Type 0} → Model → Ears → Ears → Result (Unit {0}) F → Type 0
Collected M e e' (Ok u) = Listened M [] e e' × Told e'.receiver e.missed e'.missed
Collected M e e' (Err f) = Listened M [] e e' × (e'.missed ≡ e.missed)

-- A cell is heard, or something is missed. Where the sink fails the cell is not heard.
abbrev pub Heard : {F : Type 0} → Model → ℕ → Ears → Ears → Result (Unit {0}) F → Type 0
Heard M cell e e' (Ok u) = (Listened M (cell ∷ []) e e' × (e'.missed ≡ e.missed)) ⊎ (Listened M [] e e' × (e'.missed ≢ None))
Heard M cell e e' (Err f) = Listened M [] e e' × (e'.missed ≡ e.missed)

-- Cells are heard in order, some first ones: all, where nothing was missed and no sink failed, and none, where something was missed before.
pub record Put {F : Type 0} (M : Model) (cells : List ℕ) (e e' : Ears) (x : Result (Unit {0}) F) : Type 0 where
  pub some : (n : ℕ) × Listened M (take n cells) e e'
  pub all : OnOk x (e'.missed ≡ None → Listened M cells e e')
  pub none_missed : OnErr x (e'.missed ≡ None)
  pub stays : e.missed ≢ None → e' ≡ e
