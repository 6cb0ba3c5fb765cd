-- What line and receiver share: answers, events and successions of them, the checks of a call, packets, and the checks of start.
use Rattle.std.specs.Prelude.{◌≡◌, ℕ, ◌*◌, Bool, true, false, not, ◌||◌, List, [], ◌∷◌, ◌++◌, map, replicate, Some, None, Ok, Err, Option, Result, ◌==◌, nat_le}
use Rattle.std.specs.List.{flat_map}
use Rattle.refusal.specs.declared.Refusal.{Refusal}
use Rattle.refusal.specs.Numbers.{number_of}
use Rattle.settings.specs.declared.codes.Codes.{Codes}
use Rattle.settings.specs.declared.Settings.{Settings}
use Rattle.stage.specs.declared.Fault.{Fault}
use Rattle.stage.specs.Model.{Model}
use Rattle.settings.specs.Codes.{settings_read}
use Rattle.settings.specs.SuperFrame.{super_frame_packets}

-- What a call answers: a refusal by its number, a fault that waits, or that it is done, with a count where it has one.
pub data Answer : Type 0 where
  refused : ℕ → Answer
  failed : Fault → Answer
  done : Answer
  counted : ℕ → Answer

-- A call that was made, with what it answered and what its buffer then held.
pub record Event (C : Type 0) : Type 0 where
  pub call : C
  pub answer : Answer
  pub buffer : List ℕ

abbrev pub calls_of : {C : Type 0} → List (Event C) → List C
calls_of es = map (λ e. e.call) es

-- A succession: each event follows from the events before it.
abbrev pub SuccessionBy : {C : Type 0} → (List (Event C) → Event C → Type 0) → List (Event C) → Type 0
SuccessionBy {C} Follows es =
    (before : List (Event C)) (e : Event C) (later : List (Event C)) → es ≡ before ++ (e ∷ later) → Follows before e

-- The checks of a call, in order: the first that finds something gives the number.
abbrev pub check : Bool → ℕ → Option ℕ → Option ℕ
check true number rest = Some number
check false number rest = rest

-- what a call answers, by its checks
abbrev pub answered : Option ℕ → Answer → Answer
answered (Some number) a = refused number
answered None a = a

-- what its buffer then holds: a refusal leaves it as it was
abbrev pub buffered : Option ℕ → List ℕ → List ℕ → List ℕ
buffered (Some number) old new = old
buffered None old new = new

-- the bytes of packets, in order
abbrev pub bytes : List (List ℕ) → List ℕ
bytes ps = flat_map (λ p. p) ps

unfoldable pub null_packet : List ℕ
null_packet = 0x47 ∷ 0x1f ∷ 0xff ∷ 0x10 ∷ replicate 184 0xff

-- the packets that close a broadcast: one super-frame of null packets
abbrev pub closing_packets : Settings → List (List ℕ)
closing_packets s = replicate (super_frame_packets s) null_packet

-- start's check of the pile: it takes bytes, and holds back less than a super-frame
abbrev pub unfit_pile : Model → Settings → Option ℕ
unfit_pile M s = check (not (M.taken == 256) || nat_le (188 * super_frame_packets s) (M.hold 0)) 36 None

-- start's checks of the codes and of the pile
abbrev pub unfit_for : Model → Result Settings Refusal → Option ℕ
unfit_for M (Err r) = Some (number_of r)
unfit_for M (Ok s) = unfit_pile M s

abbrev pub unfit : Model → Codes → Option ℕ
unfit M c = unfit_for M (settings_read c)

-- the settings that known codes mean
abbrev pub meant : Result Settings Refusal → List Settings
meant (Ok s) = s ∷ []
meant (Err r) = []

-- was a start accepted?
abbrev pub is_started : List Settings → Bool
is_started [] = false
is_started (s ∷ ss) = true
