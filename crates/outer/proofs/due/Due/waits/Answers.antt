use Rattle.std.proofs.Common.{sym, ap, ◌∙◌}
use Rattle.stage.specs.Model.{some}
use Rattle.outer.proofs.Dues.{some_due}
use Rattle.outer.proofs.due.Due.waits.Goals as goal

pub returns : goal.returns
returns c = sym (some_due c.self.inside.left c.self.inside.parity c.self.invariant) ∙ ap some c.self.view_is
