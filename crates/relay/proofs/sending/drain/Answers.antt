use Rattle.std.proofs.Common.{◌<◌, length, refl, arith, ◌∙◌}
use Rattle.line.specs.View.{view}
use Rattle.relay.specs.declared.stop.Stop.TheVariants.{Refused, Failed}
use Rattle.relay.proofs.Steps.{told}
use Rattle.relay.proofs.Taking.{taken, untaken, begun, further, onward, fewer, all-taken}
use Rattle.relay.proofs.sending.drain.Goals as goal

pub loop-count-init : goal.loop-count-init
loop-count-init g c = record { fixed = refl; long = refl; draining = begun _ }

pub returns-in_err-count-clause-fixed : goal.returns-in_err-count-clause-fixed
returns-in_err-count-clause-fixed g c = c.in_err-count.ensures.fixed ∙ c.loop-count.invariant.fixed

pub returns-in_err-count-clause-drained : goal.returns-in_err-count-clause-drained
returns-in_err-count-clause-drained g c =
    let model = g.P.Stage.model in
    let seen = view model g.P.Stage.sending in
    let none = untaken (model c.loop-count.line.feed.pile) _ (seen c.loop-count.line) (seen c.cells.new.self) c.loop-count.buffer c.cells.new.buffer _ _ c.loop-count.invariant.draining c.in_err-count.ensures.does in
    rw (told c.from_residual.result (Refused c.in_err-count.field-0.0) c.from_residual.ensures.1) none

pub returns-in_err-put-clause-fixed : goal.returns-in_err-put-clause-fixed
returns-in_err-put-clause-fixed g c = c.in_ok-count.ensures.fixed ∙ c.loop-count.invariant.fixed

pub returns-in_err-put-clause-drained : goal.returns-in_err-put-clause-drained
returns-in_err-put-clause-drained g c =
    let model = g.P.Stage.model in
    let seen = view model g.P.Stage.sending in
    let took = taken (model c.loop-count.line.feed.pile) (seen c.loop-count.line) (seen c.cells.new.self) c.loop-count.buffer c.cells.new.buffer c.in_ok-count.count c.in_ok-count.ensures.does in
    rw (told c.from_residual-in_err-put.result (Failed c.in_err-put.field-0.0) c.from_residual-in_err-put.ensures.1) (further _ _ _ _ _ _ c.loop-count.invariant.draining took)

pub returns-then-count-eq0-clause-fixed : goal.returns-then-count-eq0-clause-fixed
returns-then-count-eq0-clause-fixed g c = c.in_ok-count.ensures.fixed ∙ c.loop-count.invariant.fixed

pub returns-then-count-eq0-clause-drained : goal.returns-then-count-eq0-clause-drained
returns-then-count-eq0-clause-drained g c =
    let model = g.P.Stage.model in
    let seen = view model g.P.Stage.sending in
    let some : 0 < length c.loop-count.buffer = omega (arith, c.loop-count.invariant.long) in
    let took = taken (model c.loop-count.line.feed.pile) (seen c.loop-count.line) (seen c.cells.new.self) c.loop-count.buffer c.cells.new.buffer c.in_ok-count.count c.in_ok-count.ensures.does in
    all-taken _ _ _ _ _ _ some c.loop-count.invariant.draining took c.if-count-eq0.true

pub loop-count-smaller : goal.loop-count-smaller
loop-count-smaller g c =
    let model = g.P.Stage.model in
    let seen = view model g.P.Stage.sending in
    let took = taken (model c.loop-count.line.feed.pile) (seen c.loop-count.line) (seen c.cells.new.self) c.loop-count.buffer c.cells.new.buffer c.in_ok-count.count c.in_ok-count.ensures.does in
    fewer _ _ _ _ took c.if-count-eq0.false

pub loop-count-preserved : goal.loop-count-preserved
loop-count-preserved g c =
    let model = g.P.Stage.model in
    let seen = view model g.P.Stage.sending in
    let took = taken (model c.loop-count.line.feed.pile) (seen c.loop-count.line) (seen c.cells.new.self) c.loop-count.buffer c.cells.new.buffer c.in_ok-count.count c.in_ok-count.ensures.does in
    record {
      fixed = c.in_ok-count.ensures.fixed ∙ c.loop-count.invariant.fixed;
      long = omega (arith, c.cells.auto.buffer, c.loop-count.invariant.long);
      draining = rw c.saturating_add-cells.ensures (onward _ _ _ _ _ _ c.loop-count.invariant.draining took);
    }
