use Rattle.std.proofs.Common.{◌≡◌}
use Rattle.stage.specs.Passing.{Gives}
use Rattle.stage.proofs.Stage.send_drain.Given as goal

abbrev pub invariant-loop-made : goal.invariant-loop-made
invariant-loop-made g l =
    let s = g.Self.Stage in
    let m = s.model l.initial.self in
    record {
      fixed : s.model l.self ≡ m;
      other : s.receiving l.self ≡ s.receiving l.initial.self;
      gives : Gives m (s.sending l.initial.self) (s.sending l.self) l.initial.output l.output l.made;
    }
