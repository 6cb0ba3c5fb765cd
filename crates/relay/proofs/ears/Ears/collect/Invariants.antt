use Rattle.std.proofs.Common.{◌≡◌, [], length}
use Rattle.receiver.specs.View.{view}
use Rattle.relay.specs.Listening.{ears_of, Listened}
use Rattle.relay.proofs.Collecting.{bytes_in}
use Rattle.relay.proofs.ears.Ears.collect.Given as goal

abbrev pub invariant-loop-self : goal.invariant-loop-self
invariant-loop-self g l = record {
  long : length l.packet ≡ 188;
  fixed : g.P.Stage.model l.self.receiver.gatherer.pile ≡ g.P.Stage.model l.initial.self.receiver.gatherer.pile;
  cells : l.self.cells ≡ l.initial.self.cells;
  missed : l.self.missed ≡ l.initial.self.missed;
  listened : Listened (g.P.Stage.model l.initial.self.receiver.gatherer.pile) [] (ears_of g.P.Stage.receiving l.initial.self) (ears_of g.P.Stage.receiving l.self);
}

abbrev pub decreases-loop-self : goal.decreases-loop-self
decreases-loop-self g l = length (bytes_in (view g.P.Stage.receiving l.self.receiver))
