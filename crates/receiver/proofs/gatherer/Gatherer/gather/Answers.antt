use Rattle.std.proofs.Common.{◌≡◌, Ok, Err, sym, ap, ◌∙◌, arith}
use Rattle.std.proofs.lemmas.Result.{err_from_is_err_and}
use Rattle.stage.specs.declared.Fault.{Fault}
use Rattle.stage.specs.Model.{Receiving}
use Rattle.stage.proofs.Waits.{none_heard, none_collected}
use Rattle.receiver.specs.View.{held, found}
use Rattle.receiver.proofs.Gathering.{gathered-on, found_none, found_fault, found_whole, fault_collected, not_full, full, not_ok, not_both}
use Rattle.receiver.proofs.gatherer.Gatherer.gather.Goals as goal

pub loop-self-preserved : goal.loop-self-preserved
loop-self-preserved g c =
    let p = g.P.Stage in
    let took = c.receive_take.ensures in
    let inv = c.loop-self.invariant in
    let h = c.loop-self.self in (
      took.fixed ∙ inv.0,
      gathered-on (p.receiving h.pile) (p.receiving c.receive_take.new.self) h.packet.items c.push.new.self.items c.in-Some.unit
          (sym took.answers ∙ c.in_ok-unit.was ∙ ap Ok c.in-Some.is) took.side c.push.ensures.items
          ∙ inv.1,
    )

pub returns-in_default : goal.returns-in_default
returns-in_default g c =
    let p = g.P.Stage in
    let took = c.receive_take.ensures in
    let inv = c.loop-self.invariant in
    let h = c.loop-self.self in
    let s : Receiving = p.receiving h.pile in
    let none = sym took.answers ∙ c.in_ok-unit.was ∙ ap Ok c.in_default.is in
    let same : p.receiving c.receive_take.new.self ≡ s = took.side ∙ none_collected s (ap (λ h. h.units) (none_heard s.waits none)) in
    record {
      fixed = took.fixed ∙ inv.0;
      side = ap (held h.packet.items) same ∙ inv.1;
      answers = sym (ap (λ s. found s.waits) (sym inv.1) ∙ found_none h.packet.items s.waits (not_full h.packet.items _ c.is_full.ensures.value c.is_full.ensures.fits c.loop-self-test.true) (none_heard s.waits none));
      silent = λ e. ap (λ s. s.waits) same ∙ none_heard s.waits none;
      whole = λ e. not_both e;
    }

pub returns : goal.returns
returns g c =
    let p = g.P.Stage in
    let inv = c.loop-self.invariant in
    let h = c.loop-self.self in
    let whole = full h.packet.items _ c.is_full.ensures.value c.loop-self-test.false in
    record {
      fixed = inv.0;
      side = inv.1;
      answers = sym (ap (λ s. found s.waits) (sym inv.1) ∙ found_whole h.packet.items (p.receiving h.pile).waits (omega arith));
      silent = λ e. not_both (sym e);
      whole = λ e. whole;
    }

pub returns-in_err-unit : goal.returns-in_err-unit
returns-in_err-unit g c =
    let p = g.P.Stage in
    let took = c.receive_take.ensures in
    let inv = c.loop-self.invariant in
    let h = c.loop-self.self in
    let s : Receiving = p.receiving h.pile in
    let fault : Fault = c.in_err-unit.field-0.0 in
    let out = err_from_is_err_and c.from_residual.result c.from_residual.ensures.1 in
    let is : c.from_residual.result ≡ Err fault = out.1 ∙ ap Err out.2 in
    let failed = sym took.answers ∙ c.in_err-unit.was in
    let same : p.receiving c.receive_take.new.self ≡ s = took.side ∙ fault_collected s fault failed in
    record {
      fixed = took.fixed ∙ inv.0;
      side = ap (held h.packet.items) same ∙ inv.1;
      answers = is ∙ sym (ap (λ s. found s.waits) (sym inv.1) ∙ found_fault h.packet.items s.waits fault (not_full h.packet.items _ c.is_full.ensures.value c.is_full.ensures.fits c.loop-self-test.true) failed);
      silent = λ e. not_ok (sym is ∙ e);
      whole = λ e. not_ok (sym is ∙ e);
    }
