use Rattle.std.proofs.Common.{◌≡◌, ◌-◌, true, [], length, take, drop, sym, refl, ap, ◌∙◌, subst, arith}
use Rattle.stage.specs.Model.{Model, Sending, some}
use Rattle.stage.specs.Piled.{fitting, piled, joined_sending}
use Rattle.stage.specs.Rule.{Under}
use Rattle.stage.proofs.Feeding.{fed_none}
use Rattle.stage.proofs.Passing.{gives_none, gives_of, passes_of}
use Rattle.stage.proofs.PassingDown.{joined_sends}
use Rattle.pile.specs.Queued.{queueing}
use Rattle.pile.proofs.Queueing.{none_in}
use Rattle.pile.proofs.Turning.{within, all_below, fewer, stopped, turned, finished}
use Rattle.pile.proofs.Pile.pass_down.Goals as goal

pub loop-used-init : goal.loop-used-init
loop-used-init g c =
    let u = g.U.Stage in
    let l = g.L.Stage in
    let k = l.model c.args.self.now.lower in
    let M = piled (u.model c.args.self.now.upper) k in
    let above : Sending = queueing k c.args.self.now.down (u.sending c.args.self.now.upper) in
    let below : Sending = l.sending c.args.self.now.lower in
    let grow = joined_sends above below (g.met.U.Stage.sends c.args.self.now.upper) (g.met.L.Stage.sends c.args.self.now.lower) in
    record {
      upper_fixed = refl;
      lower_fixed = refl;
      upper_other = refl;
      lower_other = refl;
      misfit = refl;
      within = omega arith;
      under = tt;
      gives = gives_of M (fed_none (joined_sending above below) grow) refl (gives_none M (joined_sending above below) c.args.output.now);
    }

pub returns-then-passed-clause-passes : goal.returns-then-passed-clause-passes
returns-then-passed-clause-passes g c =
    let u = g.U.Stage in
    let l = g.L.Stage in
    let inv = c.loop-used.invariant in
    let low = c.hand_down-passed.ensures in
    let m = u.model c.args.self.now.upper in
    let k = l.model c.args.self.now.lower in
    let J : Sending = joined_sending (queueing k c.args.self.now.down (u.sending c.args.self.now.upper)) (l.sending c.args.self.now.lower) in
    let l₁ : Sending = l.sending c.hand_down-passed.new.lower in
    let more : some l₁.waits ≡ true = sym low.passes.waits ∙ c.if-passed.true in
    stopped m k c.requires J c.args.input.now c.loop-used.used (u.sending c.loop-used.self.upper) (l.sending c.loop-used.self.lower)
    (g.met.L.Stage.sends c.loop-used.self.lower) c.loop-used.self.down inv.gives l₁ c.hand_down-passed.result (passes_of inv.lower_fixed low.passes)
    c.hand_down-passed.new.self low.left more inv.within inv.under

pub loop-used-preserved : goal.loop-used-preserved
loop-used-preserved g c =
    let u = g.U.Stage in
    let l = g.L.Stage in
    let inv = c.loop-used.invariant in
    let low = c.hand_down-passed.ensures in
    let up = c.refill-used.ensures in
    let m = u.model c.args.self.now.upper in
    let k = l.model c.args.self.now.lower in
    let input = c.args.input.now in
    let used = c.loop-used.used in
    let n = c.refill-used.result in
    let u₀ : Sending = u.sending c.args.self.now.upper in
    let l₀ : Sending = l.sending c.args.self.now.lower in
    let J : Sending = joined_sending (queueing k c.args.self.now.down u₀) l₀ in
    let l₁ : Sending = l.sending c.hand_down-passed.new.lower in
    let us = c.refill-used.new.self in
    record {
      upper_fixed = up.fixed ∙ inv.upper_fixed;
      lower_fixed = low.fixed ∙ inv.lower_fixed;
      upper_other = up.other ∙ inv.upper_other;
      lower_other = low.other ∙ inv.lower_other;
      misfit = inv.misfit;
      within = within input used n inv.within up.used;
      under = all_below input used n m.taken inv.under (subst (λ (m : Model). Under m.taken (take n (take (length input - used) (drop used input)))) inv.upper_fixed up.fits);
      gives = turned m k c.requires J input used (u.sending c.loop-used.self.upper) (l.sending c.loop-used.self.lower) (g.met.L.Stage.sends c.loop-used.self.lower)
          c.loop-used.self.down inv.gives l₁ c.hand_down-passed.result (passes_of inv.lower_fixed low.passes) c.hand_down-passed.new.self low.left
          (sym low.passes.waits ∙ c.if-passed.false) (u.sending c.refill-used.new.upper) us n
          (joined_sends (queueing k c.args.self.now.down u₀) l₀ (g.met.U.Stage.sends c.args.self.now.upper) (g.met.L.Stage.sends c.args.self.now.lower))
          (g.met.U.Stage.sends c.loop-used.self.upper) (g.met.L.Stage.sends c.hand_down-passed.new.lower)
          (subst (λ (m : Model). Under m.given us) inv.upper_fixed up.below) up.side inv.within;
    }

pub loop-used-smaller : goal.loop-used-smaller
loop-used-smaller g c =
    let up = c.refill-used.ensures in
    fewer c.args.input.now c.loop-used.used c.refill-used.result (g.U.Stage.sending c.loop-used.self.upper) (g.U.Stage.sending c.refill-used.new.upper)
    c.refill-used.new.self (g.met.U.Stage.sends c.loop-used.self.upper) up.side c.if-is_empty.ensures

pub returns-then-is_empty-clause-passes : goal.returns-then-is_empty-clause-passes
returns-then-is_empty-clause-passes g c =
    let u = g.U.Stage in
    let l = g.L.Stage in
    let inv = c.loop-used.invariant in
    let low = c.hand_down-passed.ensures in
    let up = c.refill-used.ensures in
    let m = u.model c.args.self.now.upper in
    let k = l.model c.args.self.now.lower in
    let input = c.args.input.now in
    let used = c.loop-used.used in
    let n = c.refill-used.result in
    let u₀ : Sending = u.sending c.args.self.now.upper in
    let l₀ : Sending = l.sending c.args.self.now.lower in
    let J : Sending = joined_sending (queueing k c.args.self.now.down u₀) l₀ in
    let l₁ : Sending = l.sending c.hand_down-passed.new.lower in
    let us = c.refill-used.new.self in
    let no_us : us ≡ [] = none_in us (sym c.is_empty.ensures ∙ c.if-is_empty.true) in
    let done = up.none no_us in
    let idle = sym low.passes.waits ∙ c.if-passed.false in
    finished m k c.requires J input used (u.sending c.loop-used.self.upper) (l.sending c.loop-used.self.lower) (g.met.L.Stage.sends c.loop-used.self.lower)
    c.loop-used.self.down inv.gives l₁ c.hand_down-passed.result (passes_of inv.lower_fixed low.passes) c.hand_down-passed.new.self low.left
    idle (u.sending c.refill-used.new.upper) us n
    (joined_sends (queueing k c.args.self.now.down u₀) l₀ (g.met.U.Stage.sends c.args.self.now.upper) (g.met.L.Stage.sends c.args.self.now.lower))
    (g.met.U.Stage.sends c.loop-used.self.upper) (g.met.L.Stage.sends c.hand_down-passed.new.lower)
    (subst (λ (m : Model). Under m.given us) inv.upper_fixed up.below) up.side
    (within input used n inv.within up.used)
    (all_below input used n m.taken inv.under (subst (λ (m : Model). Under m.taken (take n (take (length input - used) (drop used input)))) inv.upper_fixed up.fits))
    no_us done.0 (ap (λ m. fitting m.taken (drop n (take (length input - used) (drop used input)))) (sym inv.upper_fixed) ∙ done.1)
