use Rattle.std.proofs.Common.{◌≡◌, not, [], ◌∷◌, sym, ◌∙◌, rules}
use Rattle.stage.specs.Model.{some_heard}
use Rattle.outer.specs.Arrived.{arrived_heard}
use Rattle.outer.proofs.Arriving.{some_arrived}
use Rattle.outer.proofs.outer_coder.OuterCoderStage.receive_waits.Goals as goal

pub returns-clause-answers : goal.returns-clause-answers
returns-clause-answers c =
    let s = c.args.self.now in
    let e : not c.match-matches.matches ≡ some_heard (arrived_heard (λ at. at ∷ []) s.arrived) = search rules in
    e ∙ sym (some_arrived s.block.items s.arrived s.within)
