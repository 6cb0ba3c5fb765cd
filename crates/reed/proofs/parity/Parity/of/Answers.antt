use Rattle.std.proofs.Common.{get_or, take, sym, ap, ◌∙◌}
use Rattle.reed.specs.Code.{stepped, remainder}
use Rattle.reed.proofs.Sizes.{remainder-push}
use Rattle.reed.proofs.parity.Parity.of.Goals as goal
use Rattle.std.proofs.lemmas.List.{take_more}

pub loop-byte-preserved : goal.loop-byte-preserved
loop-byte-preserved c =
    let m = c.args.message.now in
    let at = c.loop-byte.byte-index in
    c.push.ensures.parity ∙ ap (λ r. stepped r (get_or m at 0)) c.loop-byte.invariant
    ∙ sym (ap remainder (take_more m at 0 c.loop-byte-test.true) ∙ remainder-push (take at m) (get_or m at 0))
