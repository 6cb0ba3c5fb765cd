use Rattle.std.proofs.Common.{get_or, ap, ◌∙◌}
use Rattle.reed.proofs.Registering.{sixteen-first}
use Rattle.reed.proofs.parity.Parity.first.Goals as goal

pub returns : goal.returns
returns c = sixteen-first c.self.inside.register c.self.invariant ∙ ap (λ bytes. get_or bytes 0 0) c.self.view_is
