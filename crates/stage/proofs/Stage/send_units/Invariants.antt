use Rattle.std.proofs.Common.{◌≡◌, ◌-◌, ◌≤◌, length, take}
use Rattle.stage.specs.Model.{fed}
use Rattle.stage.specs.Rule.{Under}
use Rattle.stage.specs.Passing.{Gives}
use Rattle.stage.proofs.Stage.send_units.Given as goal

abbrev pub invariant-loop-used : goal.invariant-loop-used
invariant-loop-used g l =
    let s = g.Self.Stage in
    let m = s.model l.initial.self in
    record {
      fixed : s.model l.self ≡ m;
      other : s.receiving l.self ≡ s.receiving l.initial.self;
      within : l.used ≤ length l.input;
      under : Under m.taken (take l.used l.input);
      gives : Gives m (fed (s.sending l.initial.self) (take l.used l.input)) (s.sending l.self) l.initial.output l.output l.made;
    }

abbrev pub decreases-loop-used : goal.decreases-loop-used
decreases-loop-used g l = length l.input - l.used
