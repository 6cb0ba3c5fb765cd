use Rattle.std.proofs.Common.{◌≡◌, true, Some, Ok, sym, ap, ◌∙◌}
use Rattle.std.proofs.lemmas.Bool.{and_parts}
use Rattle.stage.specs.Model.{Receiving, collected}
use Rattle.stage.specs.Piled.{fits, joined_receiving, piled_receiving}
use Rattle.stage.proofs.PilingUp.{take-unit, same_up, receiving_fits}
use Rattle.pile.proofs.rule.PileStage.receive_take.Goals as goal

pub returns-in-Some-clause-side : goal.returns-in-Some-clause-side
returns-in-Some-clause-side g c =
    let u = g.U.Stage in
    let l = g.L.Stage in
    let p = c.args.self.now in
    let v = c.in-Some.unit in
    let up = c.settle_up.ensures in
    let took = c.receive_take.ensures in
    let m = u.model p.upper in
    let k = l.model p.lower in
    let misfit = c.settle_up.new.self.misfit in
    let u₁ : Receiving = u.receiving c.settle_up.new.self.upper in
    let l₁ : Receiving = l.receiving c.settle_up.new.self.lower in
    let fit : fits m k ≡ true = (and_parts (fits m k) _ (sym up.answers ∙ c.if-not-settle_up.false)).0 in
    let upper_same : u.model c.receive_take.new.self ≡ m = took.fixed ∙ up.upper_fixed in
    let whole : joined_receiving misfit m u₁ l₁ ≡ piled_receiving p.misfit m k (u.receiving p.upper) (l.receiving p.lower) =
    up.side ∙ sym (receiving_fits m k p.misfit (u.receiving p.upper) (l.receiving p.lower) fit) in
    let is : c.receive_take.result ≡ Ok (Some v) = c.in_ok-unit.was ∙ ap Ok c.in-Some.is in
    let done = take-unit misfit m u₁ l₁ v (sym took.answers ∙ is) in
    same_up misfit (u.receiving c.receive_take.new.self) l₁ upper_same up.lower_fixed fit
    ∙ ap (λ s. joined_receiving misfit m s l₁) took.side ∙ done.1 ∙ ap collected whole
