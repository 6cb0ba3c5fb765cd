use Rattle.std.proofs.Common.{◌≡◌, Ok, ap, ◌∙◌}
use Rattle.settings.specs.Constellation.{constellation_read}
use Rattle.stage.specs.Model.{new_sending, new_receiving}
use Rattle.inner_interleaver.specs.BitInterleaver.{bit_interleaving, bit_interleaver}
use Rattle.inner_interleaver.proofs.Read.{was_ok}
use Rattle.inner_interleaver.proofs.bit_interleaver.BitInterleaver.new.Goals as goal

pub returns : goal.returns
returns c =
    let new = c.of.ensures in
    let is : Ok c.in_ok-constellation.constellation ≡ constellation_read c.args.constellation =
    was_ok c.try_from.result c.in_ok-constellation.constellation c.in_ok-constellation.ensures.value ∙ c.try_from.ensures in
    record {
      model = ap bit_interleaving new.model ∙ ap bit_interleaver is;
      sends = new.sends ∙ ap (λ o. new_sending (bit_interleaver o)) is;
      hears = new.hears ∙ ap (λ o. new_receiving (bit_interleaver o)) is;
    }
