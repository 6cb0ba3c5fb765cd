use Rattle.std.proofs.Common.{ℕ, List, [], sym, ap, ◌∙◌, arith, lit≤}
use Rattle.std.proofs.lemmas.Bool.{lt-ltb}
use Rattle.stage.proofs.Blocks.{sent_whole}
use Rattle.stage.proofs.Offers.{accepted-sent}
use Rattle.stage.specs.Blocks.{block_sending}
use Rattle.outer.specs.Serializer.{bits_of, same, serial_sending}
use Rattle.outer.proofs.serializer.SerializerStage.send_offer.Goals as goal

pub returns-clause-side : goal.returns-clause-side
returns-clause-side c =
    let s = c.args.self.now in
    let u = c.args.unit in
    accepted-sent _ _ (serial_sending s) _ u (lt-ltb u 256 (omega arith)) (sym c.if-waits.ensures)
    (ap (λ (bits : List ℕ). block_sending same bits_of 1 bits tt []) c.of-self.ensures ∙ sym (sent_whole same bits_of 1 s.leaving tt [] u (lit≤ tt)))
