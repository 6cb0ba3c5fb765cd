use Rattle.stage.proofs.Passing.{only_settled}
use Rattle.stage.proofs.PassingDown.{joined_sends}
use Rattle.pile.specs.Queued.{queueing}
use Rattle.pile.proofs.Pile.settle_down.Goals as goal

pub returns-then-parts_fit-clause-side : goal.returns-then-parts_fit-clause-side
returns-then-parts_fit-clause-side g c =
    let u = g.U.Stage in
    let l = g.L.Stage in
    let p = c.args.self.now in
    only_settled
    (joined_sends (queueing (l.model p.lower) p.down (u.sending p.upper)) (l.sending p.lower) (g.met.U.Stage.sends p.upper) (g.met.L.Stage.sends p.lower))
    c.pass_down.ensures.passes
