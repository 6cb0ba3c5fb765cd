use Rattle.std.proofs.Common.{arith}
use Rattle.tps.proofs.Writing.{sent-room}
use Rattle.tps.proofs.field.send_all.Goals as goal

pub send-requires-clause-room : goal.send-requires-clause-room
send-requires-clause-room c =
    let l = c.loop-field in
    omega (arith, sent-room l.bits.items c.args.fields.now l.field-index c.loop-field-test.true l.invariant)
