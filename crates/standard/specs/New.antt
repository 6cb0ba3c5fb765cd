-- What a stage is that was just made, by the model and the sides of its kind.
use Rattle.std.specs.Prelude.{◌≡◌}
use Rattle.stage.specs.Model.{Model, Sending, Receiving, new_sending, new_receiving}

-- s is new, and its model is M
pub record IsNew {S : Type 0} (model : S → Model) (sending : S → Sending) (receiving : S → Receiving) (s : S) (M : Model) : Type 0 where
  pub model_is : model s ≡ M
  pub sends : sending s ≡ new_sending M
  pub hears : receiving s ≡ new_receiving M
