use Rattle.std.proofs.Common.{ℕ, List, length, inl, inr, sym, ◌∙◌, ap₂, arith, Option}
use Rattle.std.proofs.lemmas.Bool.{cases_lt, lt-ltb}
use Rattle.stage.proofs.Blocks.{heard-more, heard_whole}
use Rattle.stage.proofs.Offers.{accepted-heard}
use Rattle.stage.proofs.Waiting.{some-listed}
use Rattle.stage.specs.Blocks.{block_receiving}
use Rattle.stage.specs.Model.{Receiving}
use Rattle.stage.specs.Waiting.{listed}
use Rattle.outer.specs.Serializer.{byte_of, same, serial_receiving}
use Rattle.outer.proofs.serializer.SerializerStage.receive_offer.Goals as goal

abbrev side : Option ℕ → List ℕ → Receiving
side back bits = block_receiving same byte_of 8 (listed back) tt bits

pub returns-clause-side : goal.returns-clause-side
returns-clause-side c =
    let s = c.args.self.now in
    let u = c.args.unit in
    let push = c.push-self.ensures in
    accepted-heard _ _ (serial_receiving s) _ u (lt-ltb u 2 c.if-unit-ge2.false) (some-listed s.back ∙ sym c.if-is_some.ensures)
    (elim (cases_lt (length s.arriving) 7) [
      | inl l ↦ let made = push.more l in ap₂ side made.0 made.1 ∙ sym (heard-more same byte_of 8 (listed s.back) tt s.arriving u (omega arith))
      | inr g ↦
          let made = push.whole (omega (arith, push.short)) in
          ap₂ side made.0 made.1 ∙ sym (heard_whole same byte_of 8 (listed s.back) tt s.arriving u (omega arith))
    ])
