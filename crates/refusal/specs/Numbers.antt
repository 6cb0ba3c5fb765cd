-- The numbers by which the outside knows the refusals.
use Rattle.std.specs.Prelude.{ℕ, Some, None, Ok, Err, Option, Result}
use Rattle.refusal.specs.declared.Refusal.{Refusal}
use Rattle.refusal.specs.declared.Refusal.TheVariants.{UnknownMode, UnknownConstellation, UnknownRate, UnknownGuard, PacketLength, BufferShort, FrameOrParity, RecordMalformed, UnitTooLarge, SomethingWaits, NotStarted, CellsWait, FirstByte, PartSuperFrame, Closed, Started, PileUnfit}

abbrev pub number_of : Refusal → ℕ
number_of UnknownMode = 11
number_of UnknownConstellation = 12
number_of UnknownRate = 13
number_of UnknownGuard = 14
number_of PacketLength = 15
number_of BufferShort = 16
number_of FrameOrParity = 17
number_of RecordMalformed = 18
number_of UnitTooLarge = 21
number_of SomethingWaits = 22
number_of NotStarted = 30
number_of CellsWait = 31
number_of FirstByte = 32
number_of PartSuperFrame = 33
number_of Closed = 34
number_of Started = 35
number_of PileUnfit = 36

-- the number, where something was refused
abbrev pub refused_by : {X : Type 0} → Result X Refusal → Option ℕ
refused_by (Ok x) = None
refused_by (Err r) = Some (number_of r)
