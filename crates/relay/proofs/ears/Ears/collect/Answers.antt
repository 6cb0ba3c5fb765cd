use Rattle.std.proofs.Common.{refl, ◌∙◌, Some, arith}
use Rattle.receiver.specs.View.{view}
use Rattle.relay.specs.Listening.{Ears, ears_of}
use Rattle.relay.proofs.Hearing.{none}
use Rattle.relay.proofs.Collecting.{collected, packet-more, ends, ends-missed, failed-sink}
use Rattle.relay.proofs.ears.Ears.collect.Goals as goal

pub loop-self-init : goal.loop-self-init
loop-self-init g c = record { long = refl; fixed = refl; cells = refl; missed = refl; listened = none _ _ }

pub returns-in-Ok-eq0-clause-collected : goal.returns-in-Ok-eq0-clause-collected
returns-in-Ok-eq0-clause-collected g c =
    let model = g.P.Stage.model in
    let e = c.loop-self.self in
    let after : Ears = record { receiver = view g.P.Stage.receiving c.collect.new.self; cells = e.cells; packets = e.packets; missed = e.missed } in
    ends _ (model e.receiver.gatherer.pile) _ (ears_of g.P.Stage.receiving e) after c.loop-self.invariant.fixed c.loop-self.invariant.listened c.loop-self.packet c.collect.new.buffer
    c.in-Ok-eq0.field-0 c.loop-self.invariant.long c.loop-self.invariant.missed c.in-Ok-eq0.ensures.does c.in-Ok-eq0.field-0-test refl refl refl

pub returns-in-Ok-eq0-clause-all : goal.returns-in-Ok-eq0-clause-all
returns-in-Ok-eq0-clause-all g c _ =
    let seen = view g.P.Stage.receiving in
    let got = collected (g.P.Stage.model c.loop-self.self.receiver.gatherer.pile) (seen c.loop-self.self.receiver) (seen c.collect.new.self) c.loop-self.packet c.collect.new.buffer c.in-Ok-eq0.field-0 c.loop-self.invariant.long c.in-Ok-eq0.ensures.does in
    got.none c.in-Ok-eq0.field-0-test

pub loop-self-smaller : goal.loop-self-smaller
loop-self-smaller g c =
    let seen = view g.P.Stage.receiving in
    let got = collected (g.P.Stage.model c.loop-self.self.receiver.gatherer.pile) (seen c.loop-self.self.receiver) (seen c.collect.new.self) c.loop-self.packet c.collect.new.buffer c.in-Ok.field-0 c.loop-self.invariant.long c.in-Ok.ensures.does in
    got.some c.in-Ok.field-0-test.1

pub returns-in-Err-clause-collected : goal.returns-in-Err-clause-collected
returns-in-Err-clause-collected g c =
    let model = g.P.Stage.model in
    let e = c.loop-self.self in
    let after : Ears = record { receiver = view g.P.Stage.receiving c.collect.new.self; cells = e.cells; packets = e.packets; missed = Some c.in-Err.missed } in
    ends-missed _ (model e.receiver.gatherer.pile) _ (ears_of g.P.Stage.receiving e) after c.loop-self.invariant.fixed c.loop-self.invariant.listened c.loop-self.packet c.collect.new.buffer
    c.in-Err.missed c.loop-self.invariant.long c.in-Err.ensures.does refl refl refl

pub returns-in_err-put-in-Ok-clause-collected : goal.returns-in_err-put-in-Ok-clause-collected
returns-in_err-put-in-Ok-clause-collected g c =
    let model = g.P.Stage.model in
    let e = c.loop-self.self in
    let seen = view g.P.Stage.receiving in
    let after : Ears = record { receiver = seen c.collect.new.self; cells = e.cells; packets = c.saturating_add-self.result; missed = e.missed } in
    let got = collected (model e.receiver.gatherer.pile) (seen e.receiver) (seen c.collect.new.self) c.loop-self.packet c.collect.new.buffer c.in-Ok.field-0 c.loop-self.invariant.long c.in-Ok.ensures.does in
    let more = packet-more _ (model e.receiver.gatherer.pile) _ (ears_of g.P.Stage.receiving e) after c.loop-self.invariant.fixed c.loop-self.invariant.listened c.loop-self.packet c.collect.new.buffer
    c.in-Ok.field-0 c.in-Ok.ensures.does (got.full c.in-Ok.field-0-test.1) refl c.saturating_add-self.ensures in
    failed-sink _ _ after c.from_residual.result c.from_residual.ensures.0 more c.loop-self.invariant.missed

pub loop-self-preserved : goal.loop-self-preserved
loop-self-preserved g c =
    let model = g.P.Stage.model in
    let e = c.loop-self.self in
    let seen = view g.P.Stage.receiving in
    let after : Ears = record { receiver = seen c.collect.new.self; cells = e.cells; packets = c.saturating_add-self.result; missed = e.missed } in
    let got = collected (model e.receiver.gatherer.pile) (seen e.receiver) (seen c.collect.new.self) c.loop-self.packet c.collect.new.buffer c.in-Ok.field-0 c.loop-self.invariant.long c.in-Ok.ensures.does in
    record {
      long = omega (arith, c.collect.auto.buffer, c.loop-self.invariant.long);
      fixed = c.in-Ok.ensures.fixed ∙ c.loop-self.invariant.fixed;
      cells = c.loop-self.invariant.cells;
      missed = c.loop-self.invariant.missed;
      listened = packet-more _ (model e.receiver.gatherer.pile) _ (ears_of g.P.Stage.receiving e) after c.loop-self.invariant.fixed c.loop-self.invariant.listened c.loop-self.packet c.collect.new.buffer
          c.in-Ok.field-0 c.in-Ok.ensures.does (got.full c.in-Ok.field-0-test.1) refl c.saturating_add-self.ensures;
    }
