use Rattle.std.proofs.Common.{rules, ◌≡◌, true, false, ltb, sym, ap, ◌∙◌, arith}
use Rattle.stage.specs.Model.{Receiving, some_heard, answer, heard}
use Rattle.stage.specs.Piled.{fits, joined_receiving}
use Rattle.stage.proofs.PilingUp.{quiet_parts, heard-answer, offer_up, same_up}
use Rattle.pile.proofs.Queueing.{below_since, quiet_since}
use Rattle.pile.proofs.rule.PileStage.receive_offer.Goals as goal

pub returns : goal.returns
returns g c =
    let u = g.U.Stage in
    let l = g.L.Stage in
    let p = c.args.self.now in
    let v = c.args.unit in
    let up = c.settle_up.ensures in
    let gave = c.receive_offer.ensures in
    let m = u.model p.upper in
    let k = l.model p.lower in
    let u₀ : Receiving = u.receiving p.upper in
    let l₀ : Receiving = l.receiving p.lower in
    let u₁ : Receiving = u.receiving c.settle_up.new.self.upper in
    let l₁ : Receiving = l.receiving c.settle_up.new.self.lower in
    let l₂ : Receiving = l.receiving c.receive_offer.new.self in
    let su = g.met.U.Stage.hears c.settle_up.new.self.upper in
    let sl = g.met.L.Stage.hears c.settle_up.new.self.lower in
    let below = below_since (fits m k) k.given v (omega (arith, c.if-from-given.false, c.from.ensures, c.given.ensures)) in
    let fit : fits m k ≡ true = below.0 in
    let quiet = quiet_parts m u₁ l₁ c.settle_up.new.self.misfit su (up.settled fit) (quiet_since _ fit (sym up.answers ∙ c.if-settle_up.false)) in
    let lower_same : l.model c.receive_offer.new.self ≡ k = gave.fixed ∙ up.lower_fixed in
    let top : (l.model c.settle_up.new.self.lower).given ≡ k.given = ap (λ m. m.given) up.lower_fixed in
    let whole : joined_receiving false m u₁ l₁ ≡ joined_receiving p.misfit m u₀ l₀ =
    ap (λ b. joined_receiving b m u₁ l₁) (sym quiet.0) ∙ up.side in
    record {
      fixed = search rules;
      other = search rules;
      answers = gave.answers ∙ ap (λ n. answer (ltb v n) (some_heard l₁.waits)) top
          ∙ heard-answer m k p.misfit u₀ l₀ u₁ l₁ v fit su quiet.1 quiet.2 whole;
      side = same_up c.settle_up.new.self.misfit u₁ l₂ up.upper_fixed lower_same fit
          ∙ ap (λ b. joined_receiving b m u₁ l₂) quiet.0
          ∙ offer_up m k p.misfit u₀ l₀ u₁ l₁ v fit su quiet.1 quiet.2 whole l₂ sl below.1
          (gave.side ∙ ap (λ n. heard (ltb v n) (some_heard l₁.waits) l₁ v) top);
    }
