use Rattle.std.proofs.Common.{◌≡◌, [], Err, sym, refl, ap, ◌∙◌, rules}
use Rattle.std.proofs.lemmas.Result.{err_from_is_err_and}
use Rattle.refusal.specs.declared.Refusal.{Refusal}
use Rattle.refusal.specs.Numbers.{refused_by}
use Rattle.stage.specs.Model.{Receiving}
use Rattle.receiver.specs.View.{done_by, outcome, held, tuned_by, side_of}
use Rattle.receiver.proofs.Collecting.{start_does, start_refuses}
use Rattle.broadcast.proofs.All.{receiver_continues}
use Rattle.receiver.proofs.Receiver.start.Goals as goal

pub returns-then-is_some-clause-continues : goal.returns-then-is_some-clause-continues
returns-then-is_some-clause-continues g c = receiver_continues _ (g.met.P.Stage.rule _) _ _ _ (search rules)

pub returns-in_err-settings : goal.returns-in_err-settings
returns-in_err-settings g c =
    let p = g.P.Stage in
    let r = c.args.self.now in
    let side : Receiving = side_of p.receiving r.gatherer in
    let why : Refusal = c.in_err-settings.field-0.0 in
    let out = err_from_is_err_and c.from_residual.result c.from_residual.ensures.1 in
    let is : c.from_residual.result ≡ Err why = out.1 ∙ ap Err out.2 in
    let did = ap (λ x. outcome (done_by x) [] (tuned_by r.settings side)) is
    ∙ start_refuses (p.model r.gatherer.pile) c.args.codes.now r.settings (sym c.is_some.ensures ∙ c.if-is_some.false)
    why side (sym (ap refused_by c.in_err-settings.was) ∙ c.fit.ensures.checks) in
    record {
      fixed = refl;
      does = did;
      continues = receiver_continues _ (g.met.P.Stage.rule _) _ _ _ did;
      holds = c.holds.ensures;
    }

pub returns : goal.returns
returns g c =
    let p = g.P.Stage in
    let r = c.args.self.now in
    let side : Receiving = side_of p.receiving r.gatherer in
    let did = start_does (p.model r.gatherer.pile) c.args.codes.now r.settings (sym c.is_some.ensures ∙ c.if-is_some.false)
    c.in_ok-settings.settings side (held (c.renew.new.self.packet.items) (p.receiving c.renew.new.self.pile))
    c.in_ok-settings.ensures.settings
    (sym c.fit.ensures.checks ∙ ap refused_by c.in_ok-settings.was)
    (ap (λ us. held us (p.receiving c.renew.new.self.pile)) c.renew.ensures.none ∙ c.renew.ensures.hears) in
    record {
      fixed = c.renew.ensures.fixed;
      does = did;
      continues = receiver_continues _ (g.met.P.Stage.rule _) _ _ _ did;
      holds = c.holds.ensures;
    }
