use Rattle.std.proofs.Common.{◌≡◌, true, false, eqb, length, get_or, Ok, sym, ap, ◌∙◌, arith, rules}
use Rattle.std.proofs.lemmas.Bool.{eq-eqb, ne_eqb}
use Rattle.std.specs.Result.{result_ok}
use Rattle.stage.specs.Model.{Receiving}
use Rattle.broadcast.specs.Calls.{counted}
use Rattle.broadcast.proofs.All.{receiver_continues}
use Rattle.receiver.specs.View.{held, side_of, tuned_by, outcome}
use Rattle.receiver.proofs.Collecting.{collect_wrong, collect_does}
use Rattle.receiver.proofs.Receiver.collect.Goals as goal

pub returns-in_err-ok_or-clause-continues : goal.returns-in_err-ok_or-clause-continues
returns-in_err-ok_or-clause-continues g c = receiver_continues _ (g.met.P.Stage.rule _) _ _ _ (search rules)

pub returns-then-buffer-ne188-clause-continues : goal.returns-then-buffer-ne188-clause-continues
returns-then-buffer-ne188-clause-continues g c = receiver_continues _ (g.met.P.Stage.rule _) _ _ _ (search rules)

pub returns-in_err-whole-clause-continues : goal.returns-in_err-whole-clause-continues
returns-in_err-whole-clause-continues g c = receiver_continues _ (g.met.P.Stage.rule _) _ _ _ (search rules)

pub returns-then-not-whole-clause-continues : goal.returns-then-not-whole-clause-continues
returns-then-not-whole-clause-continues g c = receiver_continues _ (g.met.P.Stage.rule _) _ _ _ (search rules)

pub returns-then-deref-ne71 : goal.returns-then-deref-ne71
returns-then-deref-ne71 g c =
    let p = g.P.Stage in
    let r = c.args.self.now in
    let got = c.gather.ensures in
    let us = c.gather.new.self.packet.items in
    let set = c.ok_or.ensures.ok_part ∙ ap result_ok c.in_ok-ok_or.was in
    let full : length us ≡ 188 = got.whole (c.in_ok-whole.was ∙ ap Ok c.if-not-whole.false) in
    let wrong : eqb (get_or us 0 0) 0x47 ≡ false =
    ap (λ xs. eqb (get_or xs 0 0) 0x47) (sym c.deref.ensures.0) ∙ ne_eqb (get_or c.deref.result.now 0 0) 0x47 c.if-deref-ne71.true in
    let did = collect_wrong (p.model r.gatherer.pile) r.settings c.in_ok-ok_or.field-0 set us c.args.buffer.now (side_of p.receiving r.gatherer) (p.receiving c.gather.new.self.pile)
    full got.side (omega arith) wrong in
    record {
      fixed = got.fixed;
      does = did;
      continues = receiver_continues _ (g.met.P.Stage.rule _) _ _ _ did;
      holds = c.holds.ensures;
    }

pub returns : goal.returns
returns g c =
    let p = g.P.Stage in
    let r = c.args.self.now in
    let got = c.gather.ensures in
    let us = c.gather.new.self.packet.items in
    let after : Receiving = p.receiving c.gather.new.self.pile in
    let set = c.ok_or.ensures.ok_part ∙ ap result_ok c.in_ok-ok_or.was in
    let full : length us ≡ 188 = got.whole (c.in_ok-whole.was ∙ ap Ok c.if-not-whole.false) in
    let right : eqb (get_or us 0 0) 0x47 ≡ true =
    ap (λ xs. eqb (get_or xs 0 0) 0x47) (sym c.deref.ensures.0) ∙ eq-eqb (get_or c.deref.result.now 0 0) 0x47 c.if-deref-ne71.false in
    let did = (λ i. outcome (counted 188) ((c.copy_from_slice.ensures.after ∙ c.deref-2.ensures.0) i) (tuned_by r.settings (held (c.clear.ensures i) after)))
    ∙ collect_does (p.model r.gatherer.pile) r.settings c.in_ok-ok_or.field-0 set us c.args.buffer.now (side_of p.receiving r.gatherer) after full got.side (omega arith) right in
    record {
      fixed = got.fixed;
      does = did;
      continues = receiver_continues _ (g.met.P.Stage.rule _) _ _ _ did;
      holds = c.holds.ensures;
    }
