use Rattle.std.proofs.Common.{◌≡◌, true, sym, ap, ◌∙◌}
use Rattle.std.proofs.lemmas.Bool.{and_parts}
use Rattle.stage.specs.Model.{Sending, some, sent}
use Rattle.stage.specs.Piled.{fits, joined_sending, piled_sending}
use Rattle.stage.proofs.PilingDown.{settled_sent, sending_fits}
use Rattle.pile.specs.Queued.{queueing}
use Rattle.pile.proofs.Queueing.{down_queued}
use Rattle.pile.proofs.rule.PileStage.send_take.Goals as goal

pub returns-clause-side : goal.returns-clause-side
returns-clause-side g c =
    let u = g.U.Stage in
    let l = g.L.Stage in
    let p = c.args.self.now in
    let down = c.settle_down.ensures in
    let took = c.send_take.ensures in
    let m = u.model p.upper in
    let k = l.model p.lower in
    let u₀ : Sending = queueing k p.down (u.sending p.upper) in
    let u₁ : Sending = queueing k c.settle_down.new.self.down (u.sending c.settle_down.new.self.upper) in
    let l₁ : Sending = l.sending c.settle_down.new.self.lower in
    let fit : fits m k ≡ true = (and_parts (fits m k) (some l₁.waits) (sym down.answers ∙ c.if-not-settle_down.false)).0 in
    let lower_same : l.model c.send_take.new.self ≡ k = took.fixed ∙ down.lower_fixed in
    let whole : joined_sending u₁ l₁ ≡ piled_sending m k u₀ (l.sending p.lower) =
    down.side ∙ sym (sending_fits m k u₀ (l.sending p.lower) fit) in
    let grow = g.met.L.Stage.sends c.settle_down.new.self.lower in
    down_queued c.settle_down.new.self.down (u.sending c.settle_down.new.self.upper) (l.sending c.send_take.new.self) down.upper_fixed lower_same fit
    ∙ ap (joined_sending u₁) took.side ∙ settled_sent u₁ l₁ grow (down.settled fit) ∙ ap sent whole
