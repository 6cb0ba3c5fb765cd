use Rattle.std.proofs.Common.{◌≡◌, length}
use Rattle.line.specs.View.{view}
use Rattle.relay.specs.Waiting.{cells_in}
use Rattle.relay.proofs.Taking.{Draining}
use Rattle.relay.proofs.sending.drain.Given as goal

abbrev pub invariant-loop-count : goal.invariant-loop-count
invariant-loop-count g l = record {
  fixed : g.P.Stage.model l.line.feed.pile ≡ g.P.Stage.model l.initial.line.feed.pile;
  long : length l.buffer ≡ 4096;
  draining : Draining (view g.P.Stage.model g.P.Stage.sending l.initial.line) (view g.P.Stage.model g.P.Stage.sending l.line) l.cells;
}

abbrev pub decreases-loop-count : goal.decreases-loop-count
decreases-loop-count g l = length (cells_in (view g.P.Stage.model g.P.Stage.sending l.line))
