use Rattle.broadcast.specs.Line.{close}
use Rattle.broadcast.specs.LineSteps.{step}
use Rattle.line.specs.View.{view}
use Rattle.relay.specs.declared.stop.Stop.TheVariants.{Refused}
use Rattle.relay.proofs.Steps.{close-sends, told, sent-none, sent-drained}
use Rattle.relay.proofs.sending.close.Goals as goal

pub returns-in_err-close-clause-sent : goal.returns-in_err-close-clause-sent
returns-in_err-close-clause-sent g c =
    let model = g.P.Stage.model c.args.line.now.feed.pile in
    let seen = view g.P.Stage.model g.P.Stage.sending in
    let l = seen c.args.line.now in
    rw (told c.from_residual.result (Refused c.in_err-close.field-0.0) c.from_residual.ensures.1)
    (sent-none (step model l close) l (seen c.close.new.self) _ _ (close-sends model l) c.in_err-close.ensures.does)

pub returns-clause-sent : goal.returns-clause-sent
returns-clause-sent g c =
    let model = g.P.Stage.model c.args.line.now.feed.pile in
    let seen = view g.P.Stage.model g.P.Stage.sending in
    let l = seen c.args.line.now in
    sent-drained (step model l close) l (seen c.close.new.self) (seen c.drain.new.line) _ c.drain.result (close-sends model l) c.in_ok-close.ensures.does c.drain.ensures.drained
