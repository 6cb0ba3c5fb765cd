use Rattle.std.proofs.Common.{cond, rules, subst, ◌≡◌, false, sym, ap, ◌∙◌}
use Rattle.stage.specs.declared.Passed.{Passed}
use Rattle.stage.specs.Model.{Sending, new_sending}
use Rattle.stage.specs.Passing.{Passes}
use Rattle.stage.specs.Piled.{fits, piled, joined_sending, piled_sending}
use Rattle.stage.proofs.Passing.{none_passes}
use Rattle.stage.proofs.PilingDown.{piled_sends}
use Rattle.pile.specs.Queued.{queueing}
use Rattle.pile.proofs.rule.PileStage.send_pass.Goals as goal

pub returns-then-not-parts_fit-clause-passes : goal.returns-then-not-parts_fit-clause-passes
returns-then-not-parts_fit-clause-passes g c =
    let u = g.U.Stage in
    let l = g.L.Stage in
    let p = c.args.self.now in
    let m = u.model p.upper in
    let k = l.model p.lower in
    let u₀ : Sending = queueing k p.down (u.sending p.upper) in
    let l₀ : Sending = l.sending p.lower in
    let apart : fits m k ≡ false = sym c.parts_fit.ensures ∙ c.if-not-parts_fit.true in
    let grow = piled_sends m k u₀ l₀ (g.met.U.Stage.rule p.upper).sends_grow (g.met.L.Stage.rule p.lower).sends_grow
    (g.met.U.Stage.sends p.upper) (g.met.L.Stage.sends p.lower) in
    let none : c.default.result ≡ record { used = 0; made = 0; waits = false } = search rules in
    subst (λ (p : Passed). Passes (piled m k) (piled_sending m k u₀ l₀) (piled_sending m k u₀ l₀) c.args.input.now c.args.output.now c.args.output.now p) (sym none)
    (none_passes (piled m k) (piled_sending m k u₀ l₀) c.args.input.now c.args.output.now grow
    (ap (λ b. (cond b (joined_sending u₀ l₀) (new_sending (piled m k))).waits) apart) (ap (λ b. cond b m.taken 0) apart))
