-- What the line's own state means, and what its answers are.
use Rattle.std.specs.Prelude.{◌≡◌, ℕ, Bool, true, false, List, ◌++◌, drop, replicate, Some, None, Ok, Err, Option, Result, ◌==◌}
use Rattle.refusal.specs.declared.Refusal.{Refusal}
use Rattle.refusal.specs.declared.Refusal.TheVariants.{NotStarted, Started, Closed}
use Rattle.refusal.specs.Numbers.{number_of}
use Rattle.stage.specs.Model.{Model, Sending, fed}
use Rattle.broadcast.specs.Calls.{Answer, refused, done, counted, bytes, null_packet}
use Rattle.broadcast.specs.Steps.{Outcome}
use Rattle.broadcast.specs.Line as calls
use Rattle.broadcast.specs.LineSteps as steps
use Rattle.line.specs.declared.pending.Pending.{Pending}
use Rattle.line.specs.declared.frame.Frame.{Frame}
use Rattle.line.specs.declared.phase.Phase.{Phase}
use Rattle.line.specs.declared.phase.Phase.TheVariants.{Idle, Open, Closing}
use Rattle.line.specs.declared.phase.Call.{Call}
use Rattle.line.specs.declared.phase.Call.TheVariants.{Start, Packet, Cells, Close, Tps}
use Rattle.line.specs.declared.feed.Feed.{Feed}
use Rattle.line.specs.declared.Line.{Line}

-- what a call answers
abbrev pub done_by : Result (Unit {0}) Refusal → Answer
done_by (Ok u) = done
done_by (Err r) = refused (number_of r)

abbrev pub counted_by : Result ℕ Refusal → Answer
counted_by (Ok n) = counted n
counted_by (Err r) = refused (number_of r)

abbrev pub outcome : Answer → List ℕ → steps.Line → Outcome steps.Line
outcome a b l = record { answer = a; buffer = b; state = l }

-- the rest of the packet begun
abbrev pub begun_of : Pending → List ℕ
begun_of p = drop p.at p.packet

-- the bytes that are to be handed on: the rest of the packet begun, and null packets
abbrev pub bytes_of : Pending → List ℕ
bytes_of p = drop p.at p.packet ++ bytes (replicate p.nulls null_packet)

-- a side from which n waiting units were taken
abbrev pub dropped : ℕ → Sending → Sending
dropped n s = record { waits = drop n s.waits; future = s.future }

-- a line over a pile that takes no bytes is idle
abbrev pub phase_of : Bool → Phase → Phase
phase_of true p = p
phase_of false p = Idle

-- the frame that a call goes by, which a start has none of, and what is refused by the phase and the call together
abbrev pub admitted : Phase → Call → Result (Option Frame) Refusal
admitted Idle Start = Ok None
admitted Idle Packet = Err NotStarted
admitted Idle Cells = Err NotStarted
admitted Idle Close = Err NotStarted
admitted Idle Tps = Err NotStarted
admitted (Open f) Start = Err Started
admitted (Open f) Packet = Ok (Some f)
admitted (Open f) Cells = Ok (Some f)
admitted (Open f) Close = Ok (Some f)
admitted (Open f) Tps = Ok (Some f)
admitted (Closing f) Start = Err Started
admitted (Closing f) Packet = Err Closed
admitted (Closing f) Cells = Ok (Some f)
admitted (Closing f) Close = Err Closed
admitted (Closing f) Tps = Ok (Some f)

abbrev pub seen : Phase → Sending → steps.Line
seen Idle side = steps.idle
seen (Open f) side = steps.opened f.settings f.begun side
seen (Closing f) side = steps.closing f.settings side.waits

-- the pile's sending side once it was handed what is pending
abbrev pub side_of : {P : Type 0} → (P → Sending) → Feed P → Sending
side_of sending f = fed (sending f.pile) (bytes_of f.pending)

-- a line, as its calls know it
abbrev pub view : {P : Type 0} → (P → Model) → (P → Sending) → Line P → steps.Line
view model sending l = seen (phase_of ((model l.feed.pile).taken == 256) l.phase) (side_of sending l.feed)

-- What a call on the line l has done, once the line is l': its answer, its buffer and the line are those of the call's step.
abbrev pub Does : {P : Type 0} → (P → Model) → (P → Sending) → Line P → Line P → calls.Call → Answer → List ℕ → Type 0
Does model sending l l' c a b = outcome a b (view model sending l') ≡ steps.step (model l.feed.pile) (view model sending l) c

-- The call continues every succession that the line has gone through.
abbrev pub Continues : {P : Type 0} → (P → Model) → (P → Sending) → Line P → Line P → calls.Call → Answer → List ℕ → Type 0
Continues model sending l l' c a b = steps.Continues (model l.feed.pile) (view model sending l) c (outcome a b (view model sending l'))
