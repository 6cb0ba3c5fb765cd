use Rattle.std.proofs.Common.{◌≡◌, ◌<◌, sym, ap, ◌∙◌, arith, rules}
use Rattle.std.specs.Result.{result_ok}
use Rattle.stage.specs.Model.{Receiving}
use Rattle.broadcast.specs.Receiver.{next, is_some}
use Rattle.broadcast.proofs.All.{receiver_continues}
use Rattle.receiver.specs.View.{held, side_of}
use Rattle.receiver.proofs.Collecting.{hear_busy, hear_does}
use Rattle.receiver.proofs.Receiver.hear.Goals as goal

pub returns-in_err-ok_or-clause-continues : goal.returns-in_err-ok_or-clause-continues
returns-in_err-ok_or-clause-continues g c = receiver_continues _ (g.met.P.Stage.rule _) _ _ _ (search rules)

pub returns-then-offer-clause-continues : goal.returns-then-offer-clause-continues
returns-then-offer-clause-continues g c = receiver_continues _ (g.met.P.Stage.rule _) _ _ _ (search rules)

pub returns-then-from-given-clause-continues : goal.returns-then-from-given-clause-continues
returns-then-from-given-clause-continues g c = receiver_continues _ (g.met.P.Stage.rule _) _ _ _ (search rules)

pub returns-then-waits : goal.returns-then-waits
returns-then-waits g c =
    let p = g.P.Stage in
    let r = c.args.self.now in
    let m = p.model r.gatherer.pile in
    let tried = c.offer.ensures in
    let got = c.waits.ensures in
    let stays = tried.stays c.if-offer.false in
    let side : Receiving = side_of p.receiving r.gatherer in
    let same : side_of p.receiving c.offer.new.self ≡ side = λ i. held (tried.same i).items (stays i) in
    let set = c.ok_or.ensures.ok_part ∙ ap result_ok c.in_ok-ok_or.was in
    let below : c.args.cell < m.given = omega (arith, c.from.ensures, c.given.ensures, ap (λ m. m.given) tried.fixed) in
    let did = hear_busy m r.settings c.in_ok-ok_or.field-0 set c.args.cell side (side_of p.receiving c.waits.new.self) below
    (ap (λ s. is_some (next s.waits)) (sym same) ∙ sym got.answers ∙ c.if-waits.true) (got.side ∙ same) in
    record {
      fixed = got.fixed ∙ tried.fixed;
      does = did;
      continues = receiver_continues _ (g.met.P.Stage.rule _) _ _ _ did;
      holds = c.holds.ensures;
    }

pub returns : goal.returns
returns g c =
    let p = g.P.Stage in
    let r = c.args.self.now in
    let m = p.model r.gatherer.pile in
    let tried = c.offer.ensures in
    let got = c.waits.ensures in
    let gave = c.receive_offer.ensures in
    let stays = tried.stays c.if-offer.false in
    let side : Receiving = side_of p.receiving r.gatherer in
    let same : side_of p.receiving c.offer.new.self ≡ side = λ i. held (tried.same i).items (stays i) in
    let set = c.ok_or.ensures.ok_part ∙ ap result_ok c.in_ok-ok_or.was in
    let below : c.args.cell < m.given = omega (arith, c.from.ensures, c.given.ensures, ap (λ m. m.given) tried.fixed) in
    let did = hear_does m r.settings c.in_ok-ok_or.field-0 set c.args.cell (p.model c.waits.new.self.pile).given c.waits.new.self.packet.items side
    (p.receiving c.waits.new.self.pile) (p.receiving c.receive_offer.new.self) below (ap (λ m. m.given) (got.fixed ∙ tried.fixed))
    (ap (λ s. is_some (next s.waits)) (sym same) ∙ sym got.answers ∙ c.if-waits.false) (got.side ∙ same) (got.silent c.if-waits.false) gave.side in
    record {
      fixed = gave.fixed ∙ got.fixed ∙ tried.fixed;
      does = did;
      continues = receiver_continues _ (g.met.P.Stage.rule _) _ _ _ did;
      holds = c.holds.ensures;
    }
