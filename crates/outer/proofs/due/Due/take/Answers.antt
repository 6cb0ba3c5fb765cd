use Rattle.std.proofs.Common.{◌≡◌, ◌-◌, ◌∷◌, take, sym, ap, ◌∙◌, arith}
use Rattle.stage.specs.Model.{first, others}
use Rattle.outer.proofs.Dues.{due_taken}
use Rattle.outer.proofs.due.Due.take.Goals as goal

pub returns : goal.returns
returns c =
    let d = c.self.inside in
    let e : c.args.self.now ≡ c.shift.result ∷ take (d.left - 1) c.shift.new.self =
    sym c.self.view_is
    ∙ due_taken d.parity _ d.left c.shift.result (omega arith) c.self.invariant c.shift.ensures.first c.shift.ensures.rest in
    record { answers = sym (ap first e); left = sym (ap others e) }
