use Rattle.std.proofs.Common.{drop, sym, ap, ◌∙◌, arith}
use Rattle.stage.specs.Piled.{fitting}
use Rattle.line.proofs.Filling.{all_used}
use Rattle.line.proofs.feed.hand_on.Goals as goal

pub returns : goal.returns
returns g c =
    let passed = c.send_pass.ensures in
    let used = c.send_pass.result.used in
    let bytes = c.args.bytes.now in
    record {
      fixed = passed.fixed;
      passes = passed.passes;
      all = λ e. all_used bytes used (λ i. let h = c.type_inv.bytes i in omega arith) passed.passes.input_has
          (ap (λ n. fitting n (drop used bytes)) (sym c.requires) ∙ passed.passes.used_up e);
    }
