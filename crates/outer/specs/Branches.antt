-- The outer interleaver of EN 300 744, clause 4.3.2: twelve branches, which take the bytes in turn.
-- A branch is a queue of fixed length: a byte goes in, and the oldest one leaves.
use Rattle.std.specs.Prelude.{ℕ, ◌+◌, ◌*◌, ◌%◌, min, Bool, true, false, not, ◌&&◌, List, [], ◌∷◌, ◌++◌, map, drop, replicate, Some, None, ◌==◌, nat_lt, slice_index, slice_index_or, slice_set}
use Rattle.stage.specs.declared.Fault.{Fault}
use Rattle.stage.specs.Model.{Heard, silence}
use Rattle.stage.specs.Machine.{gives, hears_from}

pub record Branches : Type 0 where
  pub turn : ℕ
  pub queues : List (List ℕ)

-- the branch whose turn it is
abbrev pub queue_now : Branches → List ℕ
queue_now s = slice_index_or s.queues s.turn []

abbrev pub oldest : List ℕ → ℕ
oldest q = slice_index q 0

abbrev pub passed : Branches → ℕ → ℕ
passed s x = oldest (queue_now s ++ x ∷ [])

abbrev pub passing : Branches → ℕ → Branches
passing s x = record { turn = (s.turn + 1) % 12; queues = slice_set s.queues s.turn (drop 1 (queue_now s ++ x ∷ [])) }

-- how many of its own bytes each branch holds: sending 17 j, receiving 17 (11 − j)
abbrev pub sending_depths : List ℕ
sending_depths = 0 ∷ 17 ∷ 34 ∷ 51 ∷ 68 ∷ 85 ∷ 102 ∷ 119 ∷ 136 ∷ 153 ∷ 170 ∷ 187 ∷ []

abbrev pub hearing_depths : List ℕ
hearing_depths = 187 ∷ 170 ∷ 153 ∷ 136 ∷ 119 ∷ 102 ∷ 85 ∷ 68 ∷ 51 ∷ 34 ∷ 17 ∷ 0 ∷ []

-- places not yet reached hold 0
unfoldable pub new_branches : List ℕ → Branches
new_branches depths = record { turn = 0; queues = map (λ d. replicate d 0) depths }

-- sending: each byte that goes in sends one byte
abbrev pub sends_one : Branches → ℕ → List ℕ
sends_one s x = passed s x ∷ []

abbrev pub interleaved : Branches → List ℕ → List ℕ
interleaved = gives sends_one passing

-- receiving: the branches, and how many bytes have arrived, up to 2244
pub record Arriving : Type 0 where
  pub branches : Branches
  pub count : ℕ

abbrev pub new_arriving : Arriving
new_arriving = record { branches = new_branches hearing_depths; count = 0 }

abbrev pub unreached : Fault
unreached = record { stage = 1; cause = 3 }

-- a byte other than 0 came where none can be yet
abbrev pub misplaced : Arriving → ℕ → Bool
misplaced s y = not (y == 0) && nat_lt s.count (204 * s.branches.turn)

abbrev pub hears_if : Bool → Bool → ℕ → Heard
hears_if true early x = record { units = []; fault = Some unreached }
hears_if false true x = silence
hears_if false false x = record { units = x ∷ []; fault = None }

abbrev pub hears_one : Arriving → ℕ → Heard
hears_one s y = hears_if (misplaced s y) (nat_lt s.count 2244) (passed s.branches y)

abbrev pub arriving_after : Arriving → ℕ → Arriving
arriving_after s y = record { branches = passing s.branches y; count = min (s.count + 1) 2244 }

abbrev pub restored : Arriving → List ℕ → Heard
restored = hears_from hears_one arriving_after
