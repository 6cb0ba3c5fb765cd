use Rattle.std.proofs.Common.{◌≡◌, ap, ◌∙◌}
use Rattle.standard.specs.Pile.{standard_model}
use Rattle.standard.proofs.Seven.{standard_holds_lem}
use Rattle.standard.proofs.hold.Goals as goal

pub returns : goal.returns
returns c =
    let s = c.args.settings.now in
    let m = c.args.m in
    let asked : c.hold.result ≡ (standard_model s).hold m = c.hold.ensures ∙ ap (λ M. M.hold m) c.standard.ensures.model_is in
    asked ∙ (standard_holds_lem s).hold m
