use Rattle.std.proofs.Common.{◌≡◌, false, ltb, is_err, Some, Ok, sym, ap, ◌∙◌, ap₂}
use Rattle.stage.specs.Model.{Receiving, silence, some_heard, answer, first_heard}
use Rattle.stage.specs.Piled.{joined_receiving}
use Rattle.stage.proofs.PilingUp.{moved_up}
use Rattle.stage.proofs.Waits.{none_heard, none_collected}
use Rattle.pile.proofs.Pile.settle_up.Goals as goal

pub loop-self-preserved : goal.loop-self-preserved
loop-self-preserved g c =
    let u = g.U.Stage in
    let l = g.L.Stage in
    let asked = c.receive_waits.ensures in
    let took = c.receive_take.ensures in
    let gave = c.receive_offer.ensures in
    let inv = c.loop-self.invariant in
    let m = u.model c.args.self.now.upper in
    let u₁ : Receiving = u.receiving c.receive_waits.new.self in
    let l₀ : Receiving = l.receiving c.loop-self.self.lower in
    let u₂ : Receiving = u.receiving c.receive_offer.new.self in
    let l₁ : Receiving = l.receiving c.receive_take.new.self in
    let n = (u.model c.receive_waits.new.self).given in
    let idle : some_heard u₁.waits ≡ false = ap (λ s. some_heard s.waits) asked.side ∙ sym asked.answers ∙ c.if-not-receive_waits.true in
    let got : first_heard l₀.waits ≡ Ok (Some c.in-Ok-Some.unit) = sym took.answers ∙ c.in-Ok-Some.is ∙ ap Ok c.in-Ok-Some.field-0-is in
    let top : n ≡ m.given = ap (λ m. m.given) (asked.fixed ∙ inv.upper_fixed) in
    let refused : c.is_err-self.result ≡ is_err (answer (ltb c.in-Ok-Some.unit n) (some_heard u₁.waits)) = c.is_err-self.ensures.value ∙ ap is_err gave.answers in
    record {
      upper_fixed = gave.fixed ∙ asked.fixed ∙ inv.upper_fixed;
      lower_fixed = took.fixed ∙ inv.lower_fixed;
      upper_other = gave.other ∙ asked.other ∙ inv.upper_other;
      lower_other = took.other ∙ inv.lower_other;
      down = inv.down;
      side = moved_up m u₁ l₀ l₁ c.in-Ok-Some.unit (g.met.U.Stage.hears c.receive_waits.new.self) idle got took.side
          u₂ c.is_err-self.result n top refused gave.side
          ∙ ap₂ (λ b s. joined_receiving b m s l₀) (sym c.loop-self-test.true) asked.side
          ∙ inv.side;
    }

pub returns-in-Ok-None-clause-side : goal.returns-in-Ok-None-clause-side
returns-in-Ok-None-clause-side g c =
    let took = c.receive_take.ensures in
    let l₀ : Receiving = g.L.Stage.receiving c.loop-self.self.lower in
    let empty : l₀.waits ≡ silence = none_heard l₀.waits (sym took.answers ∙ c.in-Ok-None.is ∙ ap Ok c.in-Ok-None.field-0-is) in
    ap₂ (joined_receiving c.loop-self.self.misfit (g.U.Stage.model c.args.self.now.upper)) c.receive_waits.ensures.side
    (took.side ∙ none_collected l₀ (ap (λ h. h.units) empty))
    ∙ c.loop-self.invariant.side
