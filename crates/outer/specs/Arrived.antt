-- What waits of what has arrived: nothing, or the bytes that a value stands for, or the fault.
use Rattle.std.specs.Prelude.{ℕ, List, [], Some, None, Ok, Err, Option, Result}
use Rattle.stage.specs.declared.Fault.{Fault}
use Rattle.stage.specs.Model.{Heard, clean, silence}

abbrev pub arrived_heard : (ℕ → List ℕ) → Result (Option ℕ) Fault → Heard
arrived_heard bytes (Ok None) = silence
arrived_heard bytes (Ok (Some x)) = clean (bytes x)
arrived_heard bytes (Err f) = record { units = []; fault = Some f }
