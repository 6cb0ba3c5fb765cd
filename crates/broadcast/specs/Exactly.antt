-- The steps that the contracts of the calls cite go exactly the successions.
use Rattle.std.specs.Prelude.{◌≡◌, List}
use Rattle.std.specs.List.{AllByRecursion}
use Rattle.stage.specs.Model.{Model}
use Rattle.stage.specs.Rule.{Rule}
use Rattle.broadcast.specs.Calls.{Event, calls_of}
use Rattle.broadcast.specs.Line as line
use Rattle.broadcast.specs.Receiver as receiver
use Rattle.broadcast.specs.LineSteps as line_steps
use Rattle.broadcast.specs.ReceiverSteps as receiver_steps

-- what they answer to any calls is a succession, and every succession is what they answer to its calls
pub record StepsExact (M : Model) : Type 0 where
  pub line_goes : (cs : List line.Call) → AllByRecursion line.Typed cs → line.Succession M (line_steps.events M line_steps.idle cs)
  pub line_only : (es : List (Event line.Call)) → line.Succession M es → line_steps.events M line_steps.idle (calls_of es) ≡ es
  pub receiver_goes : (cs : List receiver.Call) → receiver.Succession M (receiver_steps.events M receiver_steps.idle cs)
  pub receiver_only : (es : List (Event receiver.Call)) → receiver.Succession M es → receiver_steps.events M receiver_steps.idle (calls_of es) ≡ es

abbrev pub StepsGoSuccessions : Type 0
StepsGoSuccessions = (M : Model) → Rule M → StepsExact M
