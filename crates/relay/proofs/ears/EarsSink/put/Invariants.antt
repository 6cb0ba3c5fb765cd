use Rattle.std.proofs.Common.{◌≡◌, ◌+◌, ◌-◌, ◌^◌, min, None}
use Rattle.relay.specs.Listening.{ears_of}
use Rattle.relay.proofs.Asking.{Putting}
use Rattle.relay.proofs.ears.EarsSink.put.Given as goal

abbrev pub invariant-loop-cell : goal.invariant-loop-cell
invariant-loop-cell g l = record {
  fixed : g.P.Stage.model l.self.receiver.gatherer.pile ≡ g.P.Stage.model l.initial.self.receiver.gatherer.pile;
  putting : Putting (g.P.Stage.model l.initial.self.receiver.gatherer.pile) l.units l.cell-index (ears_of g.P.Stage.receiving l.initial.self) (ears_of g.P.Stage.receiving l.self);
  cells : l.self.missed ≡ None → l.self.cells ≡ min (l.initial.self.cells + l.cell-index) (2 ^ 64 - 1);
}
