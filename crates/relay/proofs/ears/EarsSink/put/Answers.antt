use Rattle.std.proofs.Common.{◌≡◌, None, Err, sym, ◌∙◌, refl, get_or, arith}
use Rattle.relay.specs.Listening.{ears_of}
use Rattle.relay.proofs.Asking.{another, sink-fails, none-of}
use Rattle.relay.proofs.ears.EarsSink.put.Goals as goal

pub returns-in_err-hear-clause-put : goal.returns-in_err-hear-clause-put
returns-in_err-hear-clause-put g c =
    let model = g.P.Stage.model in
    let ears = ears_of g.P.Stage.receiving in
    let clear : c.loop-cell.self.missed ≡ None = none-of _ (sym c.is_some.ensures ∙ c.if-is_some.false) in
    sink-fails (model c.args.self.now.receiver.gatherer.pile) (model c.loop-cell.self.receiver.gatherer.pile) c.args.units.now c.loop-cell.cell-index (get_or c.args.units.now c.loop-cell.cell-index 0)
    (ears c.args.self.now) (ears c.loop-cell.self) (ears c.hear.new.self) (Err c.in_err-hear.field-0.0) c.from_residual.result c.loop-cell.invariant.fixed c.loop-cell.invariant.putting clear
    c.in_err-hear.ensures.heard refl c.from_residual.ensures.0

pub loop-cell-preserved : goal.loop-cell-preserved
loop-cell-preserved g c =
    let model = g.P.Stage.model in
    let ears = ears_of g.P.Stage.receiving in
    let clear : c.loop-cell.self.missed ≡ None = none-of _ (sym c.is_some.ensures ∙ c.if-is_some.false) in
    record {
      fixed = c.in_ok-hear.ensures.fixed ∙ c.loop-cell.invariant.fixed;
      putting = another (model c.args.self.now.receiver.gatherer.pile) (model c.loop-cell.self.receiver.gatherer.pile) c.args.units.now c.loop-cell.cell-index 0
          (ears c.args.self.now) (ears c.loop-cell.self) (ears c.hear.new.self) c.loop-cell.invariant.fixed c.loop-cell-test.true c.loop-cell.invariant.putting clear c.in_ok-hear.ensures.heard;
      cells = λ z. let before = c.loop-cell.invariant.cells clear in let one = c.in_ok-hear.ensures.cells z in omega arith;
    }
