use Rattle.std.proofs.Common.{ltb, sym, ap, ◌∙◌}
use Rattle.stage.specs.Faultless.{clean_some, heard_of_offered}
use Rattle.stage.specs.Model.{some, heard_of, heard}
use Rattle.dispersal.specs.EnergyDispersal.{side_of}
use Rattle.dispersal.proofs.energy_dispersal.EnergyDispersalStage.receive_offer.Goals as goal

pub returns-clause-side : goal.returns-clause-side
returns-clause-side c =
    let s = side_of c.args.self.now.arriving in
    let u = c.args.unit in
    ap heard_of c.offer.ensures.side
    ∙ sym (heard_of_offered (ltb u 256) (some s.waits) s u)
    ∙ sym (ap (λ busy. heard (ltb u 256) busy (heard_of s) u) (clean_some s.waits))
