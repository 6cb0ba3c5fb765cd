-- The outer coder as a stage: each packet of 188 bytes is followed by its sixteen parity bytes.
use Rattle.std.specs.Prelude.{ℕ, zero, suc, ◌+◌, Bool, true, false, cond, ◌&&◌, List, [], ◌∷◌, ◌++◌, length, take, drop, Some, None, Ok, Err, Option, Result, ◌==◌, nat_lt}
use Rattle.reed.specs.Code.{remainder, stepped}
use Rattle.reed.specs.Field.{power, value}
use Rattle.stage.specs.declared.Fault.{Fault}
use Rattle.stage.specs.Machine.{gives, hears_from}
use Rattle.stage.specs.Model.{Heard, Model, Sending, Receiving, clean, silence, hushed}
use Rattle.holds.specs.Capped.{capped}
use Rattle.stage.specs.Waiting.{listed}
use Rattle.outer.specs.Arrived.{arrived_heard}
pub use Rattle.outer.specs.Faults.{failed_root}
use Rattle.outer.specs.declared.outer_coder.OuterCoder.{OuterCoder}

-- Sending: how many bytes of the packet have gone, and the remainder that they leave.
pub record Progress : Type 0 where
  pub gone : ℕ
  pub so_far : List ℕ

abbrev pub new_packet : Progress
new_packet = record { gone = 0; so_far = remainder [] }

-- a byte is passed on at once, and the 188th brings the parity
abbrev pub passes : Progress → ℕ → List ℕ
passes s x = x ∷ cond (nat_lt s.gone 187) [] (stepped s.so_far x)

abbrev pub progressed : Progress → ℕ → Progress
progressed s x = cond (nat_lt s.gone 187) (record { gone = s.gone + 1; so_far = stepped s.so_far x }) new_packet

abbrev pub coded : Progress → List ℕ → List ℕ
coded = gives passes progressed

-- Receiving: the bytes of the block so far. Is a block zero at the powers of λ below n?
unfoldable pub vanishes : ℕ → List ℕ → Bool
vanishes zero block = true
vanishes (suc i) block = value (power i) block == 0 && vanishes i block

abbrev pub checked : Bool → List ℕ → Heard
checked true block = clean (take 188 block)
checked false block = record { units = []; fault = Some failed_root }

abbrev pub decoded : List ℕ → Heard
decoded block = checked (vanishes 16 block) block

-- the 204th byte brings the packet, or the fault
abbrev pub hears_block : List ℕ → ℕ → Heard
hears_block block y = cond (nat_lt (length block) 203) silence (decoded (block ++ y ∷ []))

abbrev pub gathered : List ℕ → ℕ → List ℕ
gathered block y = cond (nat_lt (length block) 203) (block ++ y ∷ []) []

abbrev pub restored_from : List ℕ → List ℕ → Heard
restored_from = hears_from hears_block gathered

abbrev pub plus_187 : ℕ → ℕ
plus_187 m = m + 187

abbrev pub outer_coder : Model
outer_coder = record {
  taken = 256;
  given = 256;
  size = 1;
  hold = capped plus_187;
  sends = coded new_packet;
  hears = restored_from [];
}

-- Sending: the byte `out` waits, and after it the bytes of the parity `due`.
abbrev pub coder_sending : OuterCoder → Sending
coder_sending s = record {
  waits = listed s.out ++ s.due;
  future = coded (record { gone = s.sent; so_far = s.parity });
}

-- Receiving: a block is gathered, or the bytes of a packet wait from a place on, or the fault.
abbrev pub begun : List ℕ → Result (Option ℕ) Fault → List ℕ
begun block (Ok None) = block
begun packet (Ok (Some place)) = []
begun block (Err f) = []

abbrev pub coder_hearing : List ℕ → Result (Option ℕ) Fault → Receiving
coder_hearing block arrived = record {
  waits = arrived_heard (λ place. drop place block) arrived;
  future = λ ys. hushed (arrived_heard (λ place. drop place block) arrived).fault (restored_from (begun block arrived) ys);
}

abbrev pub coder_receiving : OuterCoder → Receiving
coder_receiving s = coder_hearing s.block.items s.arrived
