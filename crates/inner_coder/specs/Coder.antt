-- The inner coder as a stage: its model for a rate and for a code that was read, and its sides as they are now.
use Rattle.std.specs.Prelude.{ℕ, Bool, List, [], Some, None, Ok, Err, Option, Result}
use Rattle.refusal.specs.declared.Refusal.{Refusal}
use Rattle.settings.specs.declared.rate.Rate.{Rate}
use Rattle.stage.specs.declared.Fault.{Fault}
use Rattle.stage.specs.Optional.{unknown}
use Rattle.stage.specs.Model.{Heard, Model, Sending, Receiving, clean, hushed}
use Rattle.stage.specs.Waiting.{listed}
use Rattle.holds.specs.Capped.{capped}
use Rattle.inner_coder.specs.declared.coder.InnerCoder.{InnerCoder}
use Rattle.inner_coder.specs.declared.puncturing.Sent.{Sent}
use Rattle.inner_coder.specs.declared.puncturing.Sent.TheVariants as sent
use Rattle.inner_coder.specs.declared.puncturing.Left.{Left}
use Rattle.inner_coder.specs.declared.puncturing.Left.TheVariants.{Nothing, Both, X, Y}
use Rattle.inner_coder.specs.Convolution.{Walk, coded, decoded, start, start_hearing, emitted}
use Rattle.inner_coder.specs.Walks.{walk_of}

abbrev pub inner_code : Rate → Model
inner_code rate = record {
  taken = 2;
  given = 2;
  size = 1;
  hold = capped (λ m. m);
  sends = coded rate start;
  hears = decoded rate start_hearing;
}

abbrev pub inner_coder : Result Rate Refusal → Model
inner_coder (Ok rate) = inner_code rate
inner_coder (Err refusal) = unknown

-- a sending side in which nothing waits, by its walk
abbrev pub idle_at : Rate → Walk → Sending
idle_at rate w = record { waits = []; future = coded rate w }

-- what waits: the units of the last bit that are not taken yet
abbrev pub units_left : Option Sent → ℕ → List ℕ
units_left None r = []
units_left (Some sent) r = emitted sent r

-- what is left of a bit, as an option of what is sent of one
abbrev pub sent_of : Left → Option Sent
sent_of Nothing = None
sent_of Both = Some sent.Both
sent_of X = Some sent.X
sent_of Y = Some sent.Y

abbrev pub model_of : InnerCoder → Model
model_of c = inner_code c.sending.rate

abbrev pub sending_of : InnerCoder → Sending
sending_of c = record { waits = units_left (sent_of c.waits) c.sending.register; future = coded c.sending.rate (walk_of c.sending) }

-- what has arrived: a bit that is not taken yet, nothing, or a fault
abbrev pub arrival : Result (Option ℕ) Fault → Heard
arrival (Ok bit) = clean (listed bit)
arrival (Err fault) = record { units = []; fault = Some fault }

-- a receiving side, by its walk, whether a second unit is to come, and what has arrived
abbrev pub hearing_side : Rate → Walk → Bool → Result (Option ℕ) Fault → Receiving
hearing_side rate w second arrived = record {
  waits = arrival arrived;
  future = λ ys. hushed (arrival arrived).fault (decoded rate (record { walk = w; second = second }) ys);
}

abbrev pub receiving_of : InnerCoder → Receiving
receiving_of c = hearing_side c.hearing.rate (walk_of c.hearing) c.second c.arrived
