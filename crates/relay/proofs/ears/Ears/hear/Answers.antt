use Rattle.std.proofs.Common.{◌≡◌, [], Result, ◌∙◌, inl, inr, subst, refl}
use Rattle.refusal.specs.declared.Refusal.{Refusal}
use Rattle.broadcast.specs.Receiver.{hear}
use Rattle.broadcast.specs.ReceiverSteps.{step}
use Rattle.receiver.specs.View.{view, outcome, done_by}
use Rattle.relay.specs.Listening.{ears_of}
use Rattle.relay.proofs.Asking.{Asked, at-once, again, unheard, noted, some-or}
use Rattle.relay.proofs.ears.Ears.hear.Goals.{in-Err-SomethingWaits+in_ok-collect, in-Err+in-UnknownMode-1, in-Ok-1}
use Rattle.relay.proofs.ears.Ears.hear.Goals as goal

pub returns-in_err-collect-clause-heard : goal.returns-in_err-collect-clause-heard
returns-in_err-collect-clause-heard g c =
    let model = g.P.Stage.model in
    let seen = view g.P.Stage.receiving in
    let e = c.args.self.now in
    let first = subst (λ (a : Result (Unit {0}) Refusal). outcome (done_by a) [] (seen c.hear-answer.new.self) ≡ step (model e.receiver.gatherer.pile) (seen e.receiver) (hear c.args.cell)) c.in-Err-SomethingWaits.is c.hear-answer.ensures.does in
    unheard (model e.receiver.gatherer.pile) (model c.hear-answer.new.self.gatherer.pile) (ears_of g.P.Stage.receiving e) (ears_of g.P.Stage.receiving c.collect.new.self) (seen c.hear-answer.new.self)
    c.args.cell c.in-Err-SomethingWaits.field-0 c.from_residual.result first c.hear-answer.ensures.fixed c.in_err-collect.ensures.collected c.from_residual.ensures.0

pub returns-in-Ok-clause-heard : goal.returns-in-Ok-clause-heard
returns-in-Ok-clause-heard g c =
    let model = g.P.Stage.model in
    let seen = view g.P.Stage.receiving in
    let e = c.args.self.now in
    let asked : Asked (model e.receiver.gatherer.pile) c.args.cell (ears_of g.P.Stage.receiving e) (ears_of g.P.Stage.receiving c.match-answer.self) c.match-answer.answer = elim c.match-answer.branch [
      | in-Err-SomethingWaits+in_ok-collect w ↦
          let first = subst (λ (a : Result (Unit {0}) Refusal). outcome (done_by a) [] (seen c.hear-answer.new.self) ≡ step (model e.receiver.gatherer.pile) (seen e.receiver) (hear c.args.cell)) w.in-Err-SomethingWaits.is c.hear-answer.ensures.does in
          rw (w.self-is, w.answer-is) (again (model e.receiver.gatherer.pile) (model c.hear-answer.new.self.gatherer.pile) (model w.collect.new.self.receiver.gatherer.pile) (ears_of g.P.Stage.receiving e) (ears_of g.P.Stage.receiving w.collect.new.self)
          (seen c.hear-answer.new.self) (seen w.hear-answer-in-Err-SomethingWaits.new.self) c.args.cell w.in-Err-SomethingWaits.field-0 w.hear-answer-in-Err-SomethingWaits.result first c.hear-answer.ensures.fixed
          (w.in_ok-collect.ensures.fixed ∙ c.hear-answer.ensures.fixed) w.in_ok-collect.ensures.collected w.hear-answer-in-Err-SomethingWaits.ensures.does)
      | in-Err+in-UnknownMode-1 w ↦ rw (w.self-is, w.answer-is) (at-once (model e.receiver.gatherer.pile) (ears_of g.P.Stage.receiving e) (seen c.hear-answer.new.self) c.args.cell c.hear-answer.result c.hear-answer.ensures.does)
      | in-Ok-1 w ↦ rw (w.self-is, w.answer-is) (at-once (model e.receiver.gatherer.pile) (ears_of g.P.Stage.receiving e) (seen c.hear-answer.new.self) c.args.cell c.hear-answer.result c.hear-answer.ensures.does)
    ] in
    let now = subst (λ (a : Result (Unit {0}) Refusal). Asked (model e.receiver.gatherer.pile) c.args.cell (ears_of g.P.Stage.receiving e) (ears_of g.P.Stage.receiving c.match-answer.self) a) c.in-Ok.is asked in
    inl (noted _ _ _ _ _ now.0 refl c.saturating_add-self.ensures refl, now.1)

pub returns-in-Err-clause-heard : goal.returns-in-Err-clause-heard
returns-in-Err-clause-heard g c =
    let model = g.P.Stage.model in
    let seen = view g.P.Stage.receiving in
    let e = c.args.self.now in
    let asked : Asked (model e.receiver.gatherer.pile) c.args.cell (ears_of g.P.Stage.receiving e) (ears_of g.P.Stage.receiving c.match-answer.self) c.match-answer.answer = elim c.match-answer.branch [
      | in-Err-SomethingWaits+in_ok-collect w ↦
          let first = subst (λ (a : Result (Unit {0}) Refusal). outcome (done_by a) [] (seen c.hear-answer.new.self) ≡ step (model e.receiver.gatherer.pile) (seen e.receiver) (hear c.args.cell)) w.in-Err-SomethingWaits.is c.hear-answer.ensures.does in
          rw (w.self-is, w.answer-is) (again (model e.receiver.gatherer.pile) (model c.hear-answer.new.self.gatherer.pile) (model w.collect.new.self.receiver.gatherer.pile) (ears_of g.P.Stage.receiving e) (ears_of g.P.Stage.receiving w.collect.new.self)
          (seen c.hear-answer.new.self) (seen w.hear-answer-in-Err-SomethingWaits.new.self) c.args.cell w.in-Err-SomethingWaits.field-0 w.hear-answer-in-Err-SomethingWaits.result first c.hear-answer.ensures.fixed
          (w.in_ok-collect.ensures.fixed ∙ c.hear-answer.ensures.fixed) w.in_ok-collect.ensures.collected w.hear-answer-in-Err-SomethingWaits.ensures.does)
      | in-Err+in-UnknownMode-1 w ↦ rw (w.self-is, w.answer-is) (at-once (model e.receiver.gatherer.pile) (ears_of g.P.Stage.receiving e) (seen c.hear-answer.new.self) c.args.cell c.hear-answer.result c.hear-answer.ensures.does)
      | in-Ok-1 w ↦ rw (w.self-is, w.answer-is) (at-once (model e.receiver.gatherer.pile) (ears_of g.P.Stage.receiving e) (seen c.hear-answer.new.self) c.args.cell c.hear-answer.result c.hear-answer.ensures.does)
    ] in
    let now = subst (λ (a : Result (Unit {0}) Refusal). Asked (model e.receiver.gatherer.pile) c.args.cell (ears_of g.P.Stage.receiving e) (ears_of g.P.Stage.receiving c.match-answer.self) a) c.in-Err.is asked in
    inr (noted _ _ _ _ _ now refl refl refl, rw c.or-self.ensures (some-or c.match-answer.self.missed _))
