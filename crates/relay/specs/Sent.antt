-- What sending comes to, on Ok and on each Err.
use Rattle.std.specs.Prelude.{◌≡◌, ℕ, Ok, Err, Result}
use Rattle.refusal.specs.Numbers.{number_of}
use Rattle.broadcast.specs.Calls.{refused, done}
use Rattle.broadcast.specs.Steps.{Outcome}
use Rattle.broadcast.specs.LineSteps.{Line, idle}
use Rattle.relay.specs.declared.stop.Stop.{Stop}
use Rattle.relay.specs.declared.stop.Stop.TheVariants.{Refused, Wrong, Failed, Memory}
use Rattle.relay.specs.Waiting.{Emptied, Without}

-- The cells of the line l go into a sink, and the line is l' then: all of them, or, where the sink fails, some first ones. A line that isn't started refuses it.
abbrev pub Drained : Line → Line → Result ℕ Stop → Type 0
Drained l l' (Ok cells) = Emptied l l' cells
Drained l l' (Err (Failed e)) = (n : ℕ) × Without n l l'
Drained l l' (Err (Refused r)) = (l ≡ idle) × (l' ≡ l)
Drained l l' (Err (Wrong text)) = ⊥
Drained l l' (Err (Memory e)) = ⊥

-- A call with the outcome o on the line l, which is l' once its cells went into a sink. The line's refusal leaves it as it was. A sink that fails doesn't undo
-- the call: the cells that the sink was not given wait.
abbrev pub Sent : Outcome Line → Line → Line → Result ℕ Stop → Type 0
Sent o l l' (Ok cells) = (o.answer ≡ done) × Emptied o.state l' cells
Sent o l l' (Err (Failed e)) = (o.answer ≡ done) × ((n : ℕ) × Without n o.state l')
Sent o l l' (Err (Refused r)) = (o.answer ≡ refused (number_of r)) × (l' ≡ l)
Sent o l l' (Err (Wrong text)) = ⊥
Sent o l l' (Err (Memory e)) = ⊥
