-- Units between the parts of a pile: the upper part has given them, and the lower part has yet to be handed them.
use Rattle.std.specs.Prelude.{ℕ, List}
use Rattle.stage.specs.Model.{Model, Sending, ahead}
use Rattle.stage.specs.Piled.{fitting}

-- the upper side u with the queued units us in front of what waits, as far as a lower part with the model k takes them
abbrev pub queueing : Model → List ℕ → Sending → Sending
queueing k us u = ahead (fitting k.taken us) u
