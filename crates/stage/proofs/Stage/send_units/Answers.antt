use Rattle.std.proofs.Common.{◌≡◌, Bool, true, ltb, [], get_or, drop, is_err, sym, refl, ap, ◌∙◌, arith}
use Rattle.std.proofs.lemmas.List.{drop_all}
use Rattle.stage.specs.Model.{Sending, some, answer}
use Rattle.stage.specs.Piled.{fitting}
use Rattle.stage.proofs.Passing.{drains_then, pass_more, passed_by, refused_since, refused_stays, none_fit}
use Rattle.stage.proofs.Stage.send_units.Goals as goal
use Rattle.stage.proofs.Stage.send_units.Goals.{then-used-input-via-then-used-input, then-used-input-via-else-used-input+then-is_err}

pub loop-used-preserved : goal.loop-used-preserved
loop-used-preserved g c =
    let s = g.Self.Stage in
    let inv = c.loop-used.invariant in
    let drained = c.send_drain-made.ensures in
    let gave = c.send_offer.ensures in
    let m = s.model c.args.self.now in
    let same : s.model c.send_drain-made.new.self ≡ m = drained.fixed ∙ inv.fixed in
    let unit = get_or c.args.input.now c.loop-used.used 0 in
    let more = pass_more m (s.model c.send_drain-made.new.self) (s.sending c.args.self.now) c.args.input.now c.loop-used.used unit same
    (g.met.Self.Stage.sends c.args.self.now) (omega arith) refl (drains_then m inv.gives inv.fixed drained.drains).gives inv.under
    (c.if-is_err.ensures.value ∙ ap is_err gave.answers) gave.side in
    record {
      fixed = gave.fixed ∙ same;
      other = gave.other ∙ drained.other ∙ inv.other;
      within = omega arith;
      under = more.0;
      gives = more.1;
    }

pub returns-clause-passes : goal.returns-clause-passes
returns-clause-passes g c =
    let s = g.Self.Stage in
    let inv = c.loop-used.invariant in
    let drained = c.send_drain-made.ensures in
    let asked = c.send_waits.ensures in
    let m = s.model c.args.self.now in
    let input = c.args.input.now in
    let used = c.loop-used.used in
    let s₁ : Sending = s.sending c.send_drain-made.new.self in
    let same : s.model c.send_drain-made.new.self ≡ m = drained.fixed ∙ inv.fixed in
    let stopped : (s.sending c.then-used-input.self ≡ s₁) × (s₁.waits ≡ [] → fitting m.taken (drop used input) ≡ []) =
    elim c.then-used-input.branch [
      | then-used-input-via-then-used-input w ↦ (ap s.sending w.self-is, λ _. ap (fitting m.taken) (drop_all used input (omega arith)))
      | then-used-input-via-else-used-input+then-is_err w ↦
          let gave = w.send_offer.ensures in
          let unit = get_or input used 0 in
          let fits : Bool = ltb unit (s.model c.send_drain-made.new.self).taken in
          let no : is_err (answer fits (some s₁.waits)) ≡ true = sym (ap is_err gave.answers) ∙ sym w.is_err.ensures.value ∙ w.if-is_err.true in (
            ap s.sending w.self-is ∙ gave.side ∙ refused_stays fits (some s₁.waits) s₁ unit no,
            λ e. none_fit m.taken used input (omega arith) (ap (λ m. ltb unit m.taken) (sym same) ∙ refused_since fits (some s₁.waits) no (ap some e)),
          )
    ] in
    passed_by m used inv.within inv.under (drains_then m inv.gives inv.fixed drained.drains) stopped.1
    (asked.answers ∙ ap (λ t. some t.waits) stopped.0) (asked.side ∙ stopped.0)
