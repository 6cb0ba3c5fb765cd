-- What the receiver's own state means, and what its answers are.
use Rattle.std.specs.Prelude.{◌≡◌, ℕ, Bool, true, false, cond, List, ◌++◌, length, Some, None, Ok, Err, Option, Result, nat_lt}
use Rattle.refusal.specs.declared.Refusal.{Refusal}
use Rattle.refusal.specs.Numbers.{number_of}
use Rattle.settings.specs.declared.Settings.{Settings}
use Rattle.stage.specs.declared.Fault.{Fault}
use Rattle.stage.specs.Model.{Model, Heard, Receiving}
use Rattle.broadcast.specs.Calls.{Answer, refused, failed, done, counted}
use Rattle.broadcast.specs.Steps.{Outcome}
use Rattle.broadcast.specs.Receiver as calls
use Rattle.broadcast.specs.ReceiverSteps as steps
use Rattle.receiver.specs.declared.gatherer.Gatherer.{Gatherer}
use Rattle.receiver.specs.declared.missed.Missed.{Missed}
use Rattle.receiver.specs.declared.missed.Missed.TheVariants.{Refused, Failed}
use Rattle.receiver.specs.declared.Receiver.{Receiver}

-- what a call answers
abbrev pub done_by : Result (Unit {0}) Refusal → Answer
done_by (Ok u) = done
done_by (Err r) = refused (number_of r)

abbrev pub collected_by : Result ℕ Missed → Answer
collected_by (Ok n) = counted n
collected_by (Err (Refused r)) = refused (number_of r)
collected_by (Err (Failed f)) = failed f

abbrev pub outcome : Answer → List ℕ → steps.Receiver → Outcome steps.Receiver
outcome a b r = record { answer = a; buffer = b; state = r }

-- the pile's side, before which units were gathered
abbrev pub held : List ℕ → Receiving → Receiving
held us s = record { waits = record { units = us ++ s.waits.units; fault = s.waits.fault }; future = s.future }

-- the pile's receiving side as the receiver has it
abbrev pub side_of : {P : Type 0} → (P → Receiving) → Gatherer P → Receiving
side_of receiving g = held g.packet.items (receiving g.pile)

-- is a packet whole? If not, a fault may wait.
abbrev pub none_or : Option Fault → Result Bool Fault
none_or None = Ok false
none_or (Some f) = Err f

abbrev pub found : Heard → Result Bool Fault
found h = cond (nat_lt (length h.units) 188) (none_or h.fault) (Ok true)

abbrev pub tuned_by : Option Settings → Receiving → steps.Receiver
tuned_by None side = steps.idle
tuned_by (Some s) side = steps.tuned s side

-- a receiver, as its calls know it
abbrev pub view : {P : Type 0} → (P → Receiving) → Receiver P → steps.Receiver
view receiving r = tuned_by r.settings (side_of receiving r.gatherer)

-- What a call on the receiver r has done, once the receiver is r': its answer, its buffer and the receiver are those of the call's step.
abbrev pub Does : {P : Type 0} → (P → Model) → (P → Receiving) → Receiver P → Receiver P → calls.Call → Answer → List ℕ → Type 0
Does model receiving r r' c a b = outcome a b (view receiving r') ≡ steps.step (model r.gatherer.pile) (view receiving r) c

-- The call continues every succession that the receiver has gone through.
abbrev pub Continues : {P : Type 0} → (P → Model) → (P → Receiving) → Receiver P → Receiver P → calls.Call → Answer → List ℕ → Type 0
Continues model receiving r r' c a b = steps.Continues (model r.gatherer.pile) (view receiving r) c (outcome a b (view receiving r'))
