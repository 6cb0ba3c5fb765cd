use Rattle.std.proofs.Common.{◌≡◌, length}
use Rattle.stage.specs.Passing.{Gives}
use Rattle.line.specs.View.{bytes_of, side_of}
use Rattle.line.proofs.feed.Feed.fill.Given as goal

abbrev pub invariant-loop-count : goal.invariant-loop-count
invariant-loop-count g l =
    let p = g.P.Stage in
    (p.model l.self.pile ≡ p.model l.initial.self.pile)
    × Gives (p.model l.initial.self.pile) (side_of p.sending l.initial.self) (side_of p.sending l.self)
    l.initial.buffer l.buffer l.count

abbrev pub decreases-loop-count : goal.decreases-loop-count
decreases-loop-count g l = length (bytes_of l.self.pending)
