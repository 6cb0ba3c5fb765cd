use Rattle.std.proofs.Common.{◌<◌, sym, ap, ◌∙◌, arith}
use Rattle.stage.proofs.Passing.{gives_more}
use Rattle.stage.proofs.Stage.send_drain.Goals as goal

pub loop-made-preserved : goal.loop-made-preserved
loop-made-preserved g c =
    let inv = c.loop-made.invariant in
    let took = c.send_take.ensures in
    let m = g.Self.Stage.model c.args.self.now in
    let below : c.in-Some.unit < m.given = omega (arith, c.in-Some.ensures.below, ap (λ m. m.given) inv.fixed) in
    record {
      fixed = took.fixed ∙ inv.fixed;
      other = took.other ∙ inv.other;
      gives = gives_more m inv.gives (omega arith) (sym took.answers ∙ c.in-Some.is) below took.side;
    }
