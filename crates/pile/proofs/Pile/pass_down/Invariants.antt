use Rattle.std.proofs.Common.{◌≡◌, ◌≤◌, length, take, drop}
use Rattle.stage.specs.Model.{fed}
use Rattle.stage.specs.Passing.{Gives}
use Rattle.stage.specs.Piled.{piled, joined_sending}
use Rattle.stage.specs.Rule.{Under}
use Rattle.pile.specs.Queued.{queueing}
use Rattle.pile.proofs.Pile.pass_down.Given as goal

abbrev pub invariant-loop-used : goal.invariant-loop-used
invariant-loop-used g l =
    let u = g.U.Stage in
    let w = g.L.Stage in
    let p = l.initial.self in
    let m = u.model p.upper in
    let k = w.model p.lower in
    record {
      upper_fixed : u.model l.self.upper ≡ m;
      lower_fixed : w.model l.self.lower ≡ k;
      upper_other : u.receiving l.self.upper ≡ u.receiving p.upper;
      lower_other : w.receiving l.self.lower ≡ w.receiving p.lower;
      misfit : l.self.misfit ≡ p.misfit;
      within : l.used ≤ length l.input;
      under : Under m.taken (take l.used l.input);
      gives : Gives (piled m k)
          (fed (joined_sending (queueing k p.down (u.sending p.upper)) (w.sending p.lower)) (take l.used l.input))
          (joined_sending (queueing k l.self.down (u.sending l.self.upper)) (w.sending l.self.lower))
          l.initial.output l.output l.made;
    }

abbrev pub decreases-loop-used : goal.decreases-loop-used
decreases-loop-used g l = length (fed (g.U.Stage.sending l.self.upper) (drop l.used l.input)).waits
