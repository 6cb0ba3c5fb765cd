-- Calls as steps of a machine, which the contracts of the calls cite: a state and a call give an outcome.
use Rattle.std.specs.Prelude.{◌≡◌, ℕ, List, [], ◌∷◌, Some, None, Ok, Err, Option, Result}
use Rattle.refusal.specs.declared.Refusal.{Refusal}
use Rattle.refusal.specs.Numbers.{number_of}
use Rattle.settings.specs.declared.Settings.{Settings}
use Rattle.stage.specs.Model.{Model}
use Rattle.broadcast.specs.Calls.{Answer, refused, done, Event, calls_of, SuccessionBy, unfit_pile}

-- What a call answers, what its buffer then holds, and the state after it.
pub record Outcome (S : Type 0) : Type 0 where
  pub answer : Answer
  pub buffer : List ℕ
  pub state : S

-- a refusal leaves all as it was
abbrev pub refuse : {S : Type 0} → ℕ → S → List ℕ → Outcome S
refuse number s buffer = record { answer = refused number; buffer = buffer; state = s }

-- an outcome by the checks
abbrev pub unless : {S : Type 0} → Option ℕ → S → List ℕ → Outcome S → Outcome S
unless (Some number) s buffer o = refuse number s buffer
unless None s buffer o = o

-- A start where the machine is idle, by what its codes mean: `new` is the state for the settings.
abbrev pub starting : {S : Type 0} → Model → S → (Settings → S) → Result Settings Refusal → Outcome S
starting M idle new (Err r) = refuse (number_of r) idle []
starting M idle new (Ok s) = unless (unfit_pile M s) idle [] (record { answer = done; buffer = []; state = new s })

abbrev pub event : {S C : Type 0} → C → Outcome S → Event C
event c o = record { call = c; answer = o.answer; buffer = o.buffer }

-- the events of calls from a state on, and the state after them
abbrev pub run : {S C : Type 0} → (S → C → Outcome S) → S → List C → List (Event C)
run step s [] = []
run step s (c ∷ cs) = event c (step s c) ∷ run step (step s c).state cs

abbrev pub state_after : {S C : Type 0} → (S → C → Outcome S) → S → List C → S
state_after step s [] = s
state_after step s (c ∷ cs) = state_after step (step s c).state cs

-- The machine, which is `first` when it is new, has gone through a succession and is now at s.
pub record Went {S C : Type 0} (step : S → C → Outcome S) (first : S) (Follows : List (Event C) → Event C → Type 0) (es : List (Event C)) (s : S) : Type 0 where
  pub in_order : SuccessionBy Follows es
  pub leads : state_after step first (calls_of es) ≡ s
