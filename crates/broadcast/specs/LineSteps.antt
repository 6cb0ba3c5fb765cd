-- The line as a machine: what a call does depends on the phase and the call together.
use Rattle.std.specs.Prelude.{ℕ, ◌+◌, ◌%◌, not, List, [], ◌∷◌, ◌++◌, length, take, drop, None, Option, ◌==◌, slice_index}
use Rattle.settings.specs.declared.Settings.{Settings}
use Rattle.stage.specs.Model.{Model, Sending, fed, new_sending, some}
use Rattle.settings.specs.Codes.{settings_read}
use Rattle.settings.specs.SuperFrame.{super_frame_packets}
use Rattle.tps.specs.Block.{block, refused as tps_refused}
use Rattle.broadcast.specs.Calls.{Event, done, counted, check, bytes, closing_packets}
use Rattle.broadcast.specs.Steps.{Outcome, refuse, unless, starting, event, run, Went}
use Rattle.broadcast.specs.Line.{Call, start, packet, cells, close, tps, room, written, Follows}

-- A line by its phase: idle; open, with the settings, how many packets of a super-frame begun were accepted, and the pile's sending side as the line has
-- fed it, in which the cells wait; closing, which it never leaves, with the settings and the cells that wait.
pub data Line : Type 0 where
  idle : Line
  opened : Settings → ℕ → Sending → Line
  closing : Settings → List ℕ → Line

-- as a start leaves it
abbrev pub started : Model → Settings → Line
started M s = opened s 0 (new_sending M)

abbrev pub packet_checks : List ℕ → List ℕ → Option ℕ
packet_checks waits p =
    check (not (length p == 188)) 15
    (check (not (slice_index p 0 == 0x47)) 32
    (check (some waits) 31
    None))

abbrev pub close_checks : ℕ → List ℕ → Option ℕ
close_checks begun waits =
    check (not (begun == 0)) 33
    (check (some waits) 31
    None)

abbrev pub filled : List ℕ → List ℕ → Line → Outcome Line
filled waits buffer l = record { answer = counted (room waits buffer); buffer = written (take (room waits buffer) waits) buffer; state = l }

abbrev pub signalled : Settings → ℕ → List ℕ → Line → Outcome Line
signalled s frame buffer l =
    unless (tps_refused frame buffer) l buffer (record { answer = done; buffer = block s frame ++ drop 67 buffer; state = l })

abbrev pub step : Model → Line → Call → Outcome Line
step M idle (start c) = starting M idle (started M) (settings_read c)
step M idle (packet p) = refuse 30 idle p
step M idle (cells buffer) = refuse 30 idle buffer
step M idle close = refuse 30 idle []
step M idle (tps frame buffer) = refuse 30 idle buffer
step M (opened s n side) (start c) = refuse 35 (opened s n side) []
step M (opened s n side) (packet p) =
    unless (packet_checks side.waits p) (opened s n side) p
    (record { answer = done; buffer = p; state = opened s ((n + 1) % super_frame_packets s) (fed side p) })
step M (opened s n side) (cells buffer) =
    filled side.waits buffer
    (opened s n (record { waits = drop (room side.waits buffer) side.waits; future = side.future }))
step M (opened s n side) close =
    unless (close_checks n side.waits) (opened s n side) []
    (record { answer = done; buffer = []; state = closing s (fed side (bytes (closing_packets s))).waits })
step M (opened s n side) (tps frame buffer) = signalled s frame buffer (opened s n side)
step M (closing s waits) (start c) = refuse 35 (closing s waits) []
step M (closing s waits) (packet p) = refuse 34 (closing s waits) p
step M (closing s waits) (cells buffer) = filled waits buffer (closing s (drop (room waits buffer) waits))
step M (closing s waits) close = refuse 34 (closing s waits) []
step M (closing s waits) (tps frame buffer) = signalled s frame buffer (closing s waits)

-- the events of calls from a phase on
abbrev pub events : Model → Line → List Call → List (Event Call)
events M l cs = run (step M) l cs

-- the line has gone through a succession over the pile
abbrev pub GoneThrough : Model → List (Event Call) → Line → Type 0
GoneThrough M es l = Went (step M) idle (Follows M) es l

-- a call with this outcome continues every succession that the line has gone through
abbrev pub Continues : Model → Line → Call → Outcome Line → Type 0
Continues M l c o = (es : List (Event Call)) → GoneThrough M es l → GoneThrough M (es ++ (event c o ∷ [])) o.state
