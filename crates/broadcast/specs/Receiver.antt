-- A succession of calls on one receiver from new: what each call answers and leaves, by the settings accepted, the cells heard and the packets handed out
-- before it.
use Rattle.std.specs.Prelude.{◌≡◌, ℕ, ◌*◌, Bool, true, false, cond, not, List, [], ◌∷◌, length, take, drop, Some, None, Option, ◌==◌, nat_lt, slice_index}
use Rattle.std.specs.List.{flat_map}
use Rattle.settings.specs.declared.codes.Codes.{Codes}
use Rattle.settings.specs.declared.Settings.{Settings}
use Rattle.stage.specs.declared.Fault.{Fault}
use Rattle.stage.specs.Model.{Model, Heard}
use Rattle.settings.specs.Codes.{settings_read}
use Rattle.broadcast.specs.Calls.{Answer, refused, failed, done, counted, Event, SuccessionBy, check, answered, buffered, unfit, meant, is_started}

-- A call, with the buffer as it is passed where it has one.
pub data Call : Type 0 where
  start : Codes → Call
  hear : ℕ → Call
  collect : List ℕ → Call

-- What an accepted call adds to the settings and the cells of its succession. A collect that answers 188 hands out the packet in its buffer.
abbrev pub settings_by : Call → Answer → List Settings
settings_by (start c) done = meant (settings_read c)
settings_by (start c) (counted n) = []
settings_by (start c) (refused n) = []
settings_by (start c) (failed f) = []
settings_by (hear u) a = []
settings_by (collect buffer) a = []

abbrev pub heard_by : Call → Answer → List ℕ
heard_by (hear u) done = u ∷ []
heard_by (hear u) (counted n) = []
heard_by (hear u) (refused n) = []
heard_by (hear u) (failed f) = []
heard_by (start c) a = []
heard_by (collect buffer) a = []

abbrev pub packets_by : Call → Answer → List ℕ → List (List ℕ)
packets_by (collect old) (counted n) buffer = cond (n == 188) (buffer ∷ []) []
packets_by (collect old) done buffer = []
packets_by (collect old) (refused n) buffer = []
packets_by (collect old) (failed f) buffer = []
packets_by (start c) a buffer = []
packets_by (hear u) a buffer = []

abbrev pub settings_of : List (Event Call) → List Settings
settings_of es = flat_map (λ (e : Event Call). settings_by e.call e.answer) es

abbrev pub heard_of : List (Event Call) → List ℕ
heard_of es = flat_map (λ (e : Event Call). heard_by e.call e.answer) es

abbrev pub packets_of : List (Event Call) → List (List ℕ)
packets_of es = flat_map (λ (e : Event Call). packets_by e.call e.answer e.buffer) es

-- what the new pile gives for the cells heard, without the packets handed out
abbrev pub kept : Model → List (Event Call) → Heard
kept M es = record {
  units = drop (188 * length (packets_of es)) (M.hears (heard_of es)).units;
  fault = (M.hears (heard_of es)).fault;
}

-- What can be collected: a packet, a fault, or nothing yet.
pub data Next : Type 0 where
  a_packet : List ℕ → Next
  a_fault : Fault → Next
  nothing : Next

abbrev pub fault_next : Option Fault → Next
fault_next None = nothing
fault_next (Some f) = a_fault f

-- whole packets first; one that does not begin with 47 hex is a fault of no stage
abbrev pub next : Heard → Next
next h =
    cond (nat_lt (length h.units) 188)
    (fault_next h.fault)
    (cond (slice_index h.units 0 == 0x47) (a_packet (take 188 h.units)) (a_fault (record { stage = 0; cause = 5 })))

-- something waits in a receiver if a packet or a fault can be collected
abbrev pub is_some : Next → Bool
is_some nothing = false
is_some (a_packet p) = true
is_some (a_fault f) = true

-- What decides a call.
pub record Standing : Type 0 where
  pub settings : List Settings
  pub ready : Next

abbrev pub standing : Model → List (Event Call) → Standing
standing M es = record { settings = settings_of es; ready = next (kept M es) }

-- the checks of each call, in order
abbrev pub refusal : Model → Standing → Call → Option ℕ
refusal M h (start c) = check (is_started h.settings) 35 (unfit M c)
refusal M h (hear u) =
    check (not (is_started h.settings)) 30
    (check (not (nat_lt u M.given)) 21
    (check (is_some h.ready) 22
    None))
refusal M h (collect buffer) =
    check (not (is_started h.settings)) 30
    (check (not (length buffer == 188)) 15
    None)

-- what each call answers where nothing refuses it
abbrev pub collects : Next → Answer
collects (a_packet p) = counted 188
collects (a_fault f) = failed f
collects nothing = counted 0

abbrev pub accepted : Standing → Call → Answer
accepted h (start c) = done
accepted h (hear u) = done
accepted h (collect buffer) = collects h.ready

-- the buffer as it is passed, and as it is left where nothing refuses the call
abbrev pub passed : Call → List ℕ
passed (start c) = []
passed (hear u) = []
passed (collect buffer) = buffer

abbrev pub fills : Next → List ℕ → List ℕ
fills (a_packet p) buffer = p
fills (a_fault f) buffer = buffer
fills nothing buffer = buffer

abbrev pub left : Standing → Call → List ℕ
left h (start c) = []
left h (hear u) = []
left h (collect buffer) = fills h.ready buffer

-- an event that follows what was accepted before it
pub record Follows (M : Model) (before : List (Event Call)) (e : Event Call) : Type 0 where
  pub answer_is : e.answer ≡ answered (refusal M (standing M before) e.call) (accepted (standing M before) e.call)
  pub buffer_is : e.buffer ≡ buffered (refusal M (standing M before) e.call) (passed e.call) (left (standing M before) e.call)

abbrev pub Succession : Model → List (Event Call) → Type 0
Succession M es = SuccessionBy (Follows M) es

-- an answer that tells no fault
abbrev pub Faultless : Answer → Type 0
Faultless (failed f) = ⊥
Faultless (refused n) = Unit {0}
Faultless done = Unit {0}
Faultless (counted n) = Unit {0}
