use Rattle.stage.specs.Piled.{piled}
use Rattle.stage.proofs.Passing.{drained_by}
use Rattle.stage.proofs.PilingDown.{piled_sends}
use Rattle.pile.specs.Queued.{queueing}
use Rattle.pile.proofs.rule.PileStage.send_drain.Goals as goal

pub returns : goal.returns
returns g c =
    let u = g.U.Stage in
    let l = g.L.Stage in
    let p = c.args.self.now in
    let m = u.model p.upper in
    let k = l.model p.lower in
    let passed = c.send_pass.ensures in
    record {
      fixed = passed.fixed;
      other = passed.other;
      drains = drained_by (piled m k) c.send_pass.result
          (piled_sends m k (queueing k p.down (u.sending p.upper)) (l.sending p.lower) (g.met.U.Stage.rule p.upper).sends_grow
          (g.met.L.Stage.rule p.lower).sends_grow (g.met.U.Stage.sends p.upper) (g.met.L.Stage.sends p.lower)) passed.passes;
    }
