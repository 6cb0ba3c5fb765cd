-- A succession of calls on one line from new: what each call answers and leaves, by the settings, packets, cells and close accepted before it.
use Rattle.std.specs.Prelude.{◌≡◌, ℕ, ◌%◌, min, Bool, true, false, cond, not, ◌||◌, List, [], ◌∷◌, ◌++◌, length, take, drop, None, Option, ◌==◌, slice_index}
use Rattle.std.specs.List.{flat_map}
use Rattle.settings.specs.declared.codes.Codes.{Codes}
use Rattle.settings.specs.declared.Settings.{Settings}
use Rattle.stage.specs.Model.{Model, some}
use Rattle.stage.specs.Rule.{Under}
use Rattle.settings.specs.Codes.{settings_read}
use Rattle.settings.specs.SuperFrame.{super_frame_packets}
use Rattle.tps.specs.Block.{block, refused as tps_refused}
use Rattle.tps.specs.Laws.{Identifier}
use Rattle.broadcast.specs.Calls.{Answer, refused, failed, done, counted, Event, SuccessionBy, check, answered, buffered, bytes, closing_packets, unfit, meant, is_started}

-- A call, with the buffer as it is passed where it has one.
pub data Call : Type 0 where
  start : Codes → Call
  packet : List ℕ → Call
  cells : List ℕ → Call
  close : Call
  tps : ℕ → List ℕ → Call

-- What an accepted call adds to the settings, the packets and the cells of its succession, and whether it closes it.
abbrev pub settings_by : Call → Answer → List Settings
settings_by (start c) done = meant (settings_read c)
settings_by (start c) (counted n) = []
settings_by (start c) (refused n) = []
settings_by (start c) (failed f) = []
settings_by (packet p) a = []
settings_by (cells buffer) a = []
settings_by close a = []
settings_by (tps frame buffer) a = []

abbrev pub packets_by : Call → Answer → List (List ℕ)
packets_by (packet p) done = p ∷ []
packets_by (packet p) (counted n) = []
packets_by (packet p) (refused n) = []
packets_by (packet p) (failed f) = []
packets_by (start c) a = []
packets_by (cells buffer) a = []
packets_by close a = []
packets_by (tps frame buffer) a = []

-- the cells that were written stand at the front of the buffer
abbrev pub cells_by : Call → Answer → List ℕ → List ℕ
cells_by (cells old) (counted n) buffer = take n buffer
cells_by (cells old) done buffer = []
cells_by (cells old) (refused n) buffer = []
cells_by (cells old) (failed f) buffer = []
cells_by (start c) a buffer = []
cells_by (packet p) a buffer = []
cells_by close a buffer = []
cells_by (tps frame old) a buffer = []

abbrev pub closes_by : Call → Answer → Bool
closes_by close done = true
closes_by close (counted n) = false
closes_by close (refused n) = false
closes_by close (failed f) = false
closes_by (start c) a = false
closes_by (packet p) a = false
closes_by (cells buffer) a = false
closes_by (tps frame buffer) a = false

-- A succession's settings, packets and cells, and whether a close was accepted.
abbrev pub settings_of : List (Event Call) → List Settings
settings_of es = flat_map (λ (e : Event Call). settings_by e.call e.answer) es

abbrev pub packets_of : List (Event Call) → List (List ℕ)
packets_of es = flat_map (λ (e : Event Call). packets_by e.call e.answer) es

abbrev pub cells_of : List (Event Call) → List ℕ
cells_of es = flat_map (λ (e : Event Call). cells_by e.call e.answer e.buffer) es

abbrev pub closed_by : List (Event Call) → Bool
closed_by [] = false
closed_by (e ∷ es) = closes_by e.call e.answer || closed_by es

-- the accepted packets, and the closing ones once a close was accepted
abbrev pub sent_packets : List (Event Call) → List (List ℕ)
sent_packets es = packets_of es ++ cond (closed_by es) (flat_map closing_packets (settings_of es)) []

-- a cell waits once bytes of accepted calls give it, and until cells writes it
abbrev pub waiting : Model → List (Event Call) → List ℕ
waiting M es = drop (length (cells_of es)) (M.sends (bytes (sent_packets es)))

-- the packets in a super-frame
abbrev pub frame_of : List Settings → ℕ
frame_of [] = 0
frame_of (s ∷ ss) = super_frame_packets s

-- What decides a call. `begun` counts the accepted packets of a super-frame begun.
pub record Standing : Type 0 where
  pub settings : List Settings
  pub closed : Bool
  pub begun : ℕ
  pub waits : List ℕ

abbrev pub standing : Model → List (Event Call) → Standing
standing M es = record {
  settings = settings_of es;
  closed = closed_by es;
  begun = length (packets_of es) % frame_of (settings_of es);
  waits = waiting M es;
}

-- the checks of each call, in order
abbrev pub refusal : Model → Standing → Call → Option ℕ
refusal M h (start c) = check (is_started h.settings) 35 (unfit M c)
refusal M h (packet p) =
    check (not (is_started h.settings)) 30
    (check h.closed 34
    (check (not (length p == 188)) 15
    (check (not (slice_index p 0 == 0x47)) 32
    (check (some h.waits) 31
    None))))
refusal M h (cells buffer) = check (not (is_started h.settings)) 30 None
refusal M h close =
    check (not (is_started h.settings)) 30
    (check h.closed 34
    (check (not (h.begun == 0)) 33
    (check (some h.waits) 31
    None)))
refusal M h (tps frame buffer) = check (not (is_started h.settings)) 30 (tps_refused frame buffer)

-- how many of the waiting cells fit
abbrev pub room : List ℕ → List ℕ → ℕ
room waits buffer = min (length waits) (length buffer)

-- the buffer with a list at its front; other places stay
abbrev pub written : List ℕ → List ℕ → List ℕ
written xs buffer = xs ++ drop (length xs) buffer

-- what each call answers where nothing refuses it
abbrev pub accepted : Standing → Call → Answer
accepted h (start c) = done
accepted h (packet p) = done
accepted h (cells buffer) = counted (room h.waits buffer)
accepted h close = done
accepted h (tps frame buffer) = done

-- the buffer as it is passed, and as it is left where nothing refuses the call
abbrev pub passed : Call → List ℕ
passed (start c) = []
passed (packet p) = p
passed (cells buffer) = buffer
passed close = []
passed (tps frame buffer) = buffer

abbrev pub left : Standing → Call → List ℕ
left h (start c) = []
left h (packet p) = p
left h (cells buffer) = written (take (room h.waits buffer) h.waits) buffer
left h close = []
left h (tps frame buffer) = flat_map (λ s. block s frame) h.settings ++ drop 67 buffer

-- what the types of the arguments say: the units of a packet are bytes, an identifier has 16 bits
abbrev pub Typed : Call → Type 0
Typed (start c) = Identifier c.identifier
Typed (packet p) = Under 256 p
Typed (cells buffer) = Unit {0}
Typed close = Unit {0}
Typed (tps frame buffer) = Unit {0}

-- an event that follows what was accepted before it
pub record Follows (M : Model) (before : List (Event Call)) (e : Event Call) : Type 0 where
  pub typed : Typed e.call
  pub answer_is : e.answer ≡ answered (refusal M (standing M before) e.call) (accepted (standing M before) e.call)
  pub buffer_is : e.buffer ≡ buffered (refusal M (standing M before) e.call) (passed e.call) (left (standing M before) e.call)

abbrev pub Succession : Model → List (Event Call) → Type 0
Succession M es = SuccessionBy (Follows M) es
