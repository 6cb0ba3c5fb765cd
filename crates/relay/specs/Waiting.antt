-- What waits in a line or in a receiver, as its calls know it.
use Rattle.std.specs.Prelude.{◌≡◌, ℕ, ◌-◌, ◌^◌, min, List, [], length, drop}
use Rattle.broadcast.specs.LineSteps as line
use Rattle.broadcast.specs.Receiver.{Next, nothing, next}
use Rattle.broadcast.specs.ReceiverSteps as receiver

-- the cells that wait in a line
abbrev pub cells_in : line.Line → List ℕ
cells_in line.idle = []
cells_in (line.opened s n side) = side.waits
cells_in (line.closing s waits) = waits

-- the line without them
abbrev pub emptied : line.Line → line.Line
emptied line.idle = line.idle
emptied (line.opened s n side) = line.opened s n (record { waits = []; future = side.future })
emptied (line.closing s waits) = line.closing s []

-- The line l without its first n cells is l'.
pub record Without (n : ℕ) (l l' : line.Line) : Type 0 where
  pub rest_is : cells_in l' ≡ drop n (cells_in l)
  pub line_is : emptied l' ≡ emptied l

-- The line l is emptied, which is l' then, and n of its cells were counted, up to the largest number of 64 bits.
pub record Emptied (l l' : line.Line) (n : ℕ) : Type 0 where
  pub line_is : l' ≡ emptied l
  pub count_is : n ≡ min (length (cells_in l)) (2 ^ 64 - 1)

-- what can be collected from a receiver
abbrev pub ready_in : receiver.Receiver → Next
ready_in receiver.idle = nothing
ready_in (receiver.tuned s side) = next side.waits
