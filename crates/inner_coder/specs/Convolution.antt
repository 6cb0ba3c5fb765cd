-- The convolutional code of EN 300 744, clause 4.3.3, step by step.
--   x_of r, y_of r        the outputs of a register of seven bits: the input is the highest, and six earlier bits follow
--   shifted r b           the register with one bit more
--   emitted sent r        the units that are sent of a register
--   coded rate w          what is sent for a list of bits from the walk w on
--   decoded rate h        what is heard in a list of units from the place h on
use Rattle.std.specs.Prelude.{ℕ, ◌+◌, ◌*◌, ◌/◌, ◌%◌, Bool, true, false, cond, List, [], ◌∷◌, Some, ◌==◌, bit_and, count_ones}
use Rattle.settings.specs.declared.rate.Rate.{Rate}
use Rattle.stage.specs.declared.Fault.{Fault}
use Rattle.stage.specs.Model.{Heard, clean, silence}
use Rattle.stage.specs.Machine.{gives, hears_from}
use Rattle.inner_coder.specs.declared.puncturing.Sent.{Sent}
use Rattle.inner_coder.specs.declared.puncturing.Sent.TheVariants.{Both, X, Y}
use Rattle.inner_coder.specs.Puncturing.{period, sent_at, onward}

-- one where an odd number of the tapped bits are ones
abbrev pub tapped : ℕ → ℕ → ℕ
tapped taps r = count_ones (bit_and r taps) % 2

abbrev pub x_of : ℕ → ℕ
x_of r = tapped 0o171 r

abbrev pub y_of : ℕ → ℕ
y_of r = tapped 0o133 r

abbrev pub shifted : ℕ → ℕ → ℕ
shifted r b = 64 * b + r / 2

abbrev pub emitted : Sent → ℕ → List ℕ
emitted Both r = x_of r ∷ y_of r ∷ []
emitted X r = x_of r ∷ []
emitted Y r = y_of r ∷ []

-- Sending: the place in the puncturing period, and the register.
pub record Walk : Type 0 where
  pub phase : ℕ
  pub register : ℕ

abbrev pub start : Walk
start = record { phase = 0; register = 0 }

abbrev pub walked : Rate → Walk → ℕ → Walk
walked rate w b = record { phase = onward (period rate) w.phase; register = shifted w.register b }

abbrev pub sends_one : Rate → Walk → ℕ → List ℕ
sends_one rate w b = emitted (sent_at rate w.phase) (shifted w.register b)

abbrev pub coded : Rate → Walk → List ℕ → List ℕ
coded rate = gives (sends_one rate) (walked rate)

-- Receiving: the walk, and whether the second unit of the last bit is still to come.
pub record Hearing : Type 0 where
  pub walk : Walk
  pub second : Bool

abbrev pub start_hearing : Hearing
start_hearing = record { walk = start; second = false }

-- the first unit of a register
abbrev pub first_of : Sent → ℕ → ℕ
first_of Both r = x_of r
first_of X r = x_of r
first_of Y r = y_of r

-- 1 where u isn't v
abbrev pub differ : ℕ → ℕ → ℕ
differ u v = cond (u == v) 0 1

-- the bit whose first unit is u: one where a zero would have sent another
abbrev pub bit_from : Rate → Walk → ℕ → ℕ
bit_from rate w u = differ u (first_of (sent_at rate w.phase) (w.register / 2))

abbrev pub disagrees : Fault
disagrees = record { stage = 1; cause = 4 }

abbrev pub agreement : Bool → Heard
agreement true = silence
agreement false = record { units = []; fault = Some disagrees }

abbrev pub hears_unit : Rate → Walk → Bool → ℕ → Heard
hears_unit rate w true u = agreement (u == y_of w.register)
hears_unit rate w false u = clean (bit_from rate w u ∷ [])

abbrev pub is_both : Sent → Bool
is_both Both = true
is_both X = false
is_both Y = false

abbrev pub after_unit : Rate → Walk → Bool → ℕ → Hearing
after_unit rate w true u = record { walk = w; second = false }
after_unit rate w false u = record { walk = walked rate w (bit_from rate w u); second = is_both (sent_at rate w.phase) }

abbrev pub hears_one : Rate → Hearing → ℕ → Heard
hears_one rate h u = hears_unit rate h.walk h.second u

abbrev pub hearing_after : Rate → Hearing → ℕ → Hearing
hearing_after rate h u = after_unit rate h.walk h.second u

abbrev pub decoded : Rate → Hearing → List ℕ → Heard
decoded rate = hears_from (hears_one rate) (hearing_after rate)
