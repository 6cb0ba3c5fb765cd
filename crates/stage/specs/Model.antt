-- What a stage is, without its make: what is fixed about it, and each of its two sides as it is now.
--   Heard                  units, and then perhaps a fault, which is last
--   Model                  what is fixed; sending takes units below `taken` and gives units below `given`, receiving does the reverse
--   Sending, Receiving     a side as it is now: what `waits`, and its `future`, which is what it will give for each list of further units
--   new_sending M          the sides of a new stage: nothing waits, and the futures are `sends` and `hears` of the model
--   and_then h k           h and then k, unless a fault has ended h
--   after f xs             the future f once it was given xs
--   fed s xs, told s xs    a side once it was handed xs
--   ahead us s             the side s with the units us in front of what waits
--   answer, offered, heard    what an offer answers, and the side after it
--   first, sent; first_heard, collected    what a take answers, and the side after it
--   heard_of s             the receiving side that does what the sending side s does, with no fault
-- A name for receiving that has a twin for sending ends in `heard`: `some` and `some_heard`, `after` and `after_heard`.
-- A fault ends what is heard, so what is heard is no list, and no definition serves both; `heard_of` carries what holds of hearing over to sending.
use Rattle.std.specs.Prelude.{ℕ, ◌<◌, Bool, true, false, List, [], ◌∷◌, ◌++◌, length, drop, Some, None, Ok, Err, Option, Result}
use Rattle.refusal.specs.declared.Refusal.{Refusal}
use Rattle.refusal.specs.declared.Refusal.TheVariants.{UnitTooLarge, SomethingWaits}
use Rattle.stage.specs.declared.Fault.{Fault}

-- units, and then perhaps a fault, which is last
pub record Heard : Type 0 where
  pub units : List ℕ
  pub fault : Option Fault

-- what is fixed: `size` is the number of stages, `sends` and `hears` are the futures of new sides
pub record Model : Type 0 where
  pub taken : ℕ
  pub given : ℕ
  pub size : ℕ
  pub hold : ℕ → ℕ
  pub sends : List ℕ → List ℕ
  pub hears : List ℕ → Heard

pub record Sending : Type 0 where
  pub waits : List ℕ
  pub future : List ℕ → List ℕ

pub record Receiving : Type 0 where
  pub waits : Heard
  pub future : List ℕ → Heard

-- units with no fault
abbrev pub clean : List ℕ → Heard
clean us = record { units = us; fault = None }

abbrev pub silence : Heard
silence = clean []

-- h, and then k, unless a fault has ended h
abbrev pub ended : Option Fault → Heard → Heard → Heard
ended (Some f) h k = h
ended None h k = record { units = h.units ++ k.units; fault = k.fault }

abbrev pub and_then : Heard → Heard → Heard
and_then h k = ended h.fault h k

-- h, unless there is a fault, after which nothing comes
abbrev pub hushed : Option Fault → Heard → Heard
hushed None h = h
hushed (Some f) h = silence

-- w without the units us and the fault that begin it
abbrev pub rest_of : Option Fault → List ℕ → Heard → Heard
rest_of (Some f) us w = silence
rest_of None us w = record { units = drop (length us) w.units; fault = w.fault }

-- what f gives for ys after it was given xs
abbrev pub after : (List ℕ → List ℕ) → List ℕ → List ℕ → List ℕ
after f xs ys = drop (length (f xs)) (f (xs ++ ys))

abbrev pub after_heard : (List ℕ → Heard) → List ℕ → List ℕ → Heard
after_heard f xs ys = rest_of (f xs).fault (f xs).units (f (xs ++ ys))

-- A side that was handed further units: what its future gives for them waits too, and the new future is what the old one gives after that.
abbrev pub fed : Sending → List ℕ → Sending
fed s xs = record { waits = s.waits ++ s.future xs; future = after s.future xs }

abbrev pub told : Receiving → List ℕ → Receiving
told r xs = record { waits = and_then r.waits (r.future xs); future = after_heard r.future xs }

abbrev pub ahead : List ℕ → Sending → Sending
ahead us s = record { waits = us ++ s.waits; future = s.future }

-- does something wait?
abbrev pub some : List ℕ → Bool
some [] = false
some (x ∷ xs) = true

abbrev pub some_fault : Option Fault → Bool
some_fault None = false
some_fault (Some f) = true

abbrev pub some_or : List ℕ → Bool → Bool
some_or [] b = b
some_or (x ∷ xs) b = true

abbrev pub some_heard : Heard → Bool
some_heard h = some_or h.units (some_fault h.fault)

-- the sides of a new stage
abbrev pub new_sending : Model → Sending
new_sending M = record { waits = []; future = M.sends }

abbrev pub new_receiving : Model → Receiving
new_receiving M = record { waits = silence; future = M.hears }

-- An offer. `fits`: the unit is below what the side takes; `busy`: something waits in the side.
abbrev pub answer : Bool → Bool → Result (Unit {0}) Refusal
answer false busy = Err UnitTooLarge
answer true true = Err SomethingWaits
answer true false = Ok tt

abbrev pub offered : Bool → Bool → Sending → ℕ → Sending
offered false busy s u = s
offered true true s u = s
offered true false s u = record { waits = s.future (u ∷ []); future = after s.future (u ∷ []) }

abbrev pub heard : Bool → Bool → Receiving → ℕ → Receiving
heard false busy s u = s
heard true true s u = s
heard true false s u = record { waits = s.future (u ∷ []); future = after_heard s.future (u ∷ []) }

-- A take: the first waiting unit, and what then waits. A fault stays.
abbrev pub first : List ℕ → Option ℕ
first [] = None
first (x ∷ xs) = Some x

abbrev pub others : List ℕ → List ℕ
others [] = []
others (x ∷ xs) = xs

abbrev pub fault_or : Option Fault → Result (Option ℕ) Fault
fault_or None = Ok None
fault_or (Some f) = Err f

abbrev pub first_or : List ℕ → Result (Option ℕ) Fault → Result (Option ℕ) Fault
first_or [] r = r
first_or (x ∷ xs) r = Ok (Some x)

abbrev pub first_heard : Heard → Result (Option ℕ) Fault
first_heard h = first_or h.units (fault_or h.fault)

abbrev pub sent : Sending → Sending
sent s = record { waits = others s.waits; future = s.future }

abbrev pub collected : Receiving → Receiving
collected s = record { waits = record { units = others s.waits.units; fault = s.waits.fault }; future = s.future }

-- a unit that is answered is below n
abbrev pub BelowSome : ℕ → Option ℕ → Type 0
BelowSome n None = Unit {0}
BelowSome n (Some x) = x < n

abbrev pub BelowOk : ℕ → Result (Option ℕ) Fault → Type 0
BelowOk n (Ok o) = BelowSome n o
BelowOk n (Err f) = Unit {0}

-- the receiving side that does what s does, with no fault
abbrev pub heard_of : Sending → Receiving
heard_of s = record { waits = clean s.waits; future = λ ys. clean (s.future ys) }
