use Rattle.std.proofs.Common.{take, ap, ◌∙◌}
use Rattle.std.proofs.lemmas.List.{append-nil, take-replicate}
use Rattle.outer.proofs.branch.Branch.new.Goals as goal

pub returns : goal.returns
returns c =
    append-nil c.truncate.new.self.items
    ∙ c.truncate.ensures.items
    ∙ ap (take c.args.depth) c.from-store.ensures.0
    ∙ take-replicate c.args.depth 187 0 c.requires
