use Rattle.std.proofs.Common.{◌≡◌, length}
use Rattle.stage.specs.Piled.{joined_receiving}
use Rattle.pile.proofs.Pile.settle_up.Given as goal

abbrev pub invariant-loop-self : goal.invariant-loop-self
invariant-loop-self g l =
    let u = g.U.Stage in
    let w = g.L.Stage in
    let p = l.initial.self in
    let m = u.model p.upper in
    record {
      upper_fixed : u.model l.self.upper ≡ m;
      lower_fixed : w.model l.self.lower ≡ w.model p.lower;
      upper_other : u.sending l.self.upper ≡ u.sending p.upper;
      lower_other : w.sending l.self.lower ≡ w.sending p.lower;
      down : l.self.down ≡ p.down;
      side : joined_receiving l.self.misfit m (u.receiving l.self.upper) (w.receiving l.self.lower)
          ≡ joined_receiving p.misfit m (u.receiving p.upper) (w.receiving p.lower);
    }

abbrev pub decreases-loop-self : goal.decreases-loop-self
decreases-loop-self g l = length (g.L.Stage.receiving l.self.lower).waits.units
