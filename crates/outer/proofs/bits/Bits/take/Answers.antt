use Rattle.std.proofs.Common.{sym, ap, ◌∙◌, arith}
use Rattle.stage.specs.Model.{first, others}
use Rattle.outer.specs.Serializing.{last_bits_taken}
use Rattle.outer.proofs.bits.Bits.take.Goals as goal

pub returns-clause-answers : goal.returns-clause-answers
returns-clause-answers c =
    let b = c.self.inside in
    sym (ap first (last_bits_taken b.left b.byte (omega arith))) ∙ ap first c.self.view_is

pub returns-clause-left : goal.returns-clause-left
returns-clause-left c =
    let b = c.self.inside in
    sym (ap others (last_bits_taken b.left b.byte (omega arith))) ∙ ap others c.self.view_is
