use Rattle.std.proofs.Common.{drop, ap, ◌∙◌}
use Rattle.pile.proofs.Queueing.{used_of}
use Rattle.pile.proofs.queue.Queue.hand_down.Goals as goal

pub returns-clause-left : goal.returns-clause-left
returns-clause-left g c =
    let q = c.self.inside in
    let used = c.send_pass-passed.result.used in
    used_of q.units q.at q.end used ∙ ap (drop used) c.self.view_is
