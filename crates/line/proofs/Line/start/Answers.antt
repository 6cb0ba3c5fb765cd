use Rattle.std.proofs.Common.{◌≡◌, eqb, [], Err, sym, refl, ap, ◌∙◌, rules}
use Rattle.std.proofs.lemmas.Result.{err_from_is_err_and}
use Rattle.refusal.specs.declared.Refusal.{Refusal}
use Rattle.refusal.specs.Numbers.{refused_by}
use Rattle.stage.specs.Model.{Sending, fed}
use Rattle.stage.proofs.Feeding.{fed_none}
use Rattle.line.specs.View.{done_by, outcome, phase_of, seen, side_of}
use Rattle.line.proofs.Calling.{idle_at, start_does, start_refuses}
use Rattle.broadcast.proofs.All.{line_continues}
use Rattle.line.proofs.Line.start.Goals as goal

pub returns-in_err-admit-clause-continues : goal.returns-in_err-admit-clause-continues
returns-in_err-admit-clause-continues g c = line_continues _ (g.met.P.Stage.rule _) _ _ _ c.identified.ensures (search rules)

pub returns-in_err-settings : goal.returns-in_err-settings
returns-in_err-settings g c =
    let p = g.P.Stage in
    let l = c.args.self.now in
    let m = p.model l.feed.pile in
    let q = phase_of (eqb m.taken 256) l.phase in
    let side : Sending = side_of p.sending l.feed in
    let why : Refusal = c.in_err-settings.field-0.0 in
    let out = err_from_is_err_and c.from_residual-in_err-settings.result c.from_residual-in_err-settings.ensures.1 in
    let is : c.from_residual-in_err-settings.result ≡ Err why = out.1 ∙ ap Err out.2 in
    let did = ap (λ r. outcome (done_by r) [] (seen q side)) is
    ∙ start_refuses m c.args.codes.now why q side
    (idle_at q _ (sym c.admit.ensures ∙ c.in_ok-admit.was)) (sym (ap refused_by c.in_err-settings.was) ∙ c.fit.ensures.checks) in
    record {
      fixed = refl;
      does = did;
      continues = line_continues _ (g.met.P.Stage.rule _) _ _ _ c.identified.ensures did;
      holds = c.holds.ensures;
    }

pub returns : goal.returns
returns g c =
    let p = g.P.Stage in
    let l = c.args.self.now in
    let m = p.model l.feed.pile in
    let s : Sending = p.sending c.renew.new.self.pile in
    let did = start_does m c.args.codes.now c.in_ok-settings.settings (phase_of (eqb m.taken 256) l.phase) (p.model c.renew.new.self.pile).taken
    c.new.result (side_of p.sending l.feed) (side_of p.sending c.renew.new.self)
    (idle_at (phase_of (eqb m.taken 256) l.phase) _ (sym c.admit.ensures ∙ c.in_ok-admit.was)) (ap (λ m. m.taken) c.renew.ensures.fixed)
    c.in_ok-settings.ensures.settings
    (sym c.fit.ensures.checks ∙ ap refused_by c.in_ok-settings.was)
    c.new.ensures.settings c.new.ensures.begun
    (ap (fed s) c.renew.ensures.none ∙ fed_none s (g.met.P.Stage.sends c.renew.new.self.pile) ∙ c.renew.ensures.sends) in
    record {
      fixed = c.renew.ensures.fixed;
      does = did;
      continues = line_continues _ (g.met.P.Stage.rule _) _ _ _ c.identified.ensures did;
      holds = c.holds.ensures;
    }
