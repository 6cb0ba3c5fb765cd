-- A pile: an upper stage over a lower one. Sending, units go from upper to lower; receiving, from lower to upper.
--   fits u l            the parts fit: the upper's given is at most the lower's taken
--   piled u l           the model of a pile of parts with the models u and l
--   hand_up             what an upper part gives for what the lower part hands up; the first fault ends it
--   misfit_at size      a unit was handed up that is not below the upper's given: cause 1 at the upper's last stage
--   joined_sending, joined_receiving   a side of a pile, from the sides of its parts, where these fit
--   piled_sending, piled_receiving     the same, and new where they do not
use Rattle.std.specs.Prelude.{◌≡◌, ℕ, ◌+◌, min, Bool, true, false, cond, List, [], ◌∷◌, ◌++◌, Some, None, Option, nat_le, nat_lt}
use Rattle.stage.specs.declared.Fault.{Fault}
use Rattle.stage.specs.Model.{Heard, Model, Sending, Receiving, after, after_heard, and_then, hushed, new_sending, new_receiving}
use Rattle.stage.specs.Rule.{Rule}
use Rattle.holds.specs.Capped.{most}

-- units handed up, as far as the upper part hears them
abbrev pub keep_if : Bool → ℕ → List ℕ → List ℕ
keep_if true x xs = x ∷ xs
keep_if false x xs = []

abbrev pub fitting : ℕ → List ℕ → List ℕ
fitting g [] = []
fitting g (x ∷ xs) = keep_if (nat_lt x g) x (fitting g xs)

-- a lower part's fault, whose stage number adds the upper's size
abbrev pub lifted : ℕ → Option Fault → Option Fault
lifted size None = None
lifted size (Some f) = Some (record { stage = min (f.stage + size) most; cause = f.cause })

abbrev pub misfit_at : ℕ → Fault
misfit_at size = record { stage = size; cause = 1 }

-- the fault that the units handed up, and then perhaps a fault of the lower part, end in
abbrev pub or_misfit : Bool → ℕ → Option Fault → Option Fault
or_misfit true size o = o
or_misfit false size o = Some (misfit_at size)

abbrev pub ending : ℕ → ℕ → List ℕ → Option Fault → Option Fault
ending size g [] o = lifted size o
ending size g (x ∷ xs) o = or_misfit (nat_lt x g) size (ending size g xs o)

-- what an upper part of `size` stages, which gives units below g and has the future f, gives for h
abbrev pub hand_up : ℕ → ℕ → (List ℕ → Heard) → Heard → Heard
hand_up size g f h = and_then (f (fitting g h.units)) (record { units = []; fault = ending size g h.units h.fault })

abbrev pub fits : Model → Model → Bool
fits u l = nat_le u.given l.taken

abbrev pub piled_if : Bool → Model → Model → Model
piled_if b u l = record {
  taken = cond b u.taken 0;
  given = cond b l.given 0;
  size = min (u.size + l.size) most;
  hold = λ m. u.hold (l.hold m);
  sends = λ xs. l.sends (u.sends xs);
  hears = λ ys. hand_up u.size u.given u.hears (l.hears ys);
}

abbrev pub piled : Model → Model → Model
piled u l = piled_if (fits u l) u l

-- What waits includes what the lower part gives once the upper part's waiting units reach it.
abbrev pub joined_sending : Sending → Sending → Sending
joined_sending u l = record {
  waits = l.waits ++ l.future u.waits;
  future = λ xs. after l.future u.waits (u.future xs);
}

-- the sending side of a pile of parts with the models m and k
abbrev pub piled_sending : Model → Model → Sending → Sending → Sending
piled_sending m k u l = cond (fits m k) (joined_sending u l) (new_sending (piled m k))

-- What the upper part gives once what waits in the lower part reaches it. `misfit`: a unit that did not fit already has.
abbrev pub arriving : Bool → ℕ → ℕ → (List ℕ → Heard) → Heard → Heard
arriving true size g f h = record { units = []; fault = Some (misfit_at size) }
arriving false size g f h = hand_up size g f h

abbrev pub joined_waits : Bool → Model → Receiving → Receiving → Heard
joined_waits misfit m u l = and_then u.waits (arriving misfit m.size m.given u.future l.waits)

abbrev pub joined_receiving : Bool → Model → Receiving → Receiving → Receiving
joined_receiving misfit m u l = record {
  waits = joined_waits misfit m u l;
  future = λ ys. hushed (joined_waits misfit m u l).fault
      (hand_up m.size m.given (after_heard u.future (fitting m.given l.waits.units)) (l.future ys));
}

abbrev pub piled_receiving : Bool → Model → Model → Receiving → Receiving → Receiving
piled_receiving misfit m k u l = cond (fits m k) (joined_receiving misfit m u l) (new_receiving (piled m k))

-- Any stage above any other keeps the rule, with the upper hold of the lower hold.
abbrev pub PilesKeepTheRule : Type 0
PilesKeepTheRule = (U L : Model) → Rule U → Rule L → Rule (piled U L) × ((m : ℕ) → (piled U L).hold m ≡ U.hold (L.hold m))
