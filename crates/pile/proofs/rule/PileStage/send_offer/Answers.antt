use Rattle.std.proofs.Common.{rules, ◌≡◌, true, ltb, [], sym, refl, ap, ◌∙◌, arith}
use Rattle.stage.specs.Model.{Sending, ahead, some, answer, offered}
use Rattle.stage.specs.Piled.{fits, fitting, joined_sending}
use Rattle.stage.proofs.Waits.{none_waits}
use Rattle.stage.proofs.PilingDown.{offer_down, offer_answer}
use Rattle.pile.specs.Queued.{queueing}
use Rattle.pile.proofs.Queueing.{both_none, below_since, quiet_since, down_queued}
use Rattle.pile.proofs.rule.PileStage.send_offer.Goals as goal

pub returns : goal.returns
returns g c =
    let u = g.U.Stage in
    let l = g.L.Stage in
    let p = c.args.self.now in
    let v = c.args.unit in
    let down = c.settle_down.ensures in
    let gave = c.send_offer.ensures in
    let m = u.model p.upper in
    let k = l.model p.lower in
    let q = c.settle_down.new.self.down in
    let u₀ : Sending = queueing k p.down (u.sending p.upper) in
    let l₀ : Sending = l.sending p.lower in
    let u₁ : Sending = u.sending c.settle_down.new.self.upper in
    let l₁ : Sending = l.sending c.settle_down.new.self.lower in
    let below = below_since (fits m k) m.taken v (omega (arith, c.if-from-taken.false, c.from.ensures, c.taken.ensures)) in
    let fit : fits m k ≡ true = below.0 in
    let upper_same : u.model c.send_offer.new.self ≡ m = gave.fixed ∙ down.upper_fixed in
    let lower_idle : l₁.waits ≡ [] = none_waits l₁.waits (quiet_since (some l₁.waits) fit (sym down.answers ∙ c.if-settle_down.false)) in
    let idle = both_none (fitting k.taken q) u₁.waits (down.settled fit lower_idle) in
    let whole : joined_sending u₁ l₁ ≡ joined_sending u₀ l₀ = sym (ap (λ w. joined_sending (ahead w u₁) l₁) idle.0) ∙ down.side in
    let top : (u.model c.settle_down.new.self.upper).taken ≡ m.taken = ap (λ m. m.taken) down.upper_fixed in
    let su = g.met.U.Stage.sends c.settle_down.new.self.upper in
    let sl = g.met.L.Stage.sends c.settle_down.new.self.lower in
    let u₂ : Sending = u.sending c.send_offer.new.self in
    record {
      fixed = search rules;
      other = search rules;
      answers = gave.answers ∙ ap (λ n. answer (ltb v n) (some u₁.waits)) top ∙ offer_answer m k u₀ l₀ u₁ l₁ v fit sl idle.1 lower_idle whole;
      side = down_queued q u₂ l₁ upper_same down.lower_fixed fit
          ∙ ap (λ w. joined_sending (ahead w u₂) l₁) idle.0
          ∙ offer_down m k u₀ l₀ u₁ l₁ v fit sl idle.1 lower_idle whole u₂ l₁ su below.1
          (gave.side ∙ ap (λ n. offered (ltb v n) (some u₁.waits) u₁ v) top) refl;
    }
