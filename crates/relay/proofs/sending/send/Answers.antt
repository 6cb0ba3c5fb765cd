use Rattle.broadcast.specs.Line.{packet}
use Rattle.broadcast.specs.LineSteps.{step}
use Rattle.line.specs.View.{view}
use Rattle.relay.specs.declared.stop.Stop.TheVariants.{Refused}
use Rattle.relay.proofs.Steps.{packet-sends, told, sent-none, sent-drained}
use Rattle.relay.proofs.sending.send.Goals as goal

pub returns-in_err-packet-clause-sent : goal.returns-in_err-packet-clause-sent
returns-in_err-packet-clause-sent g c =
    let model = g.P.Stage.model c.args.line.now.feed.pile in
    let seen = view g.P.Stage.model g.P.Stage.sending in
    let l = seen c.args.line.now in
    rw (told c.from_residual.result (Refused c.in_err-packet.field-0.0) c.from_residual.ensures.1)
    (sent-none (step model l (packet c.args.packet.now)) l (seen c.packet.new.self) _ _ (packet-sends model l c.args.packet.now) c.in_err-packet.ensures.does)

pub returns-clause-sent : goal.returns-clause-sent
returns-clause-sent g c =
    let model = g.P.Stage.model c.args.line.now.feed.pile in
    let seen = view g.P.Stage.model g.P.Stage.sending in
    let l = seen c.args.line.now in
    sent-drained (step model l (packet c.args.packet.now)) l (seen c.packet.new.self) (seen c.drain.new.line) _ c.drain.result (packet-sends model l c.args.packet.now) c.in_ok-packet.ensures.does c.drain.ensures.drained
