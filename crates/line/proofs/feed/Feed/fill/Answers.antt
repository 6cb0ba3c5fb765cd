use Rattle.std.proofs.Common.{◌≡◌, ◌+◌, [], ◌++◌, length, drop, replicate, sym, refl, ap, ◌∙◌, arith}
use Rattle.stage.specs.Model.{Sending, fed}
use Rattle.stage.proofs.Passing.{gives_of, gives_then, room_left, passes_of}
use Rattle.broadcast.specs.Calls.{bytes, null_packet}
use Rattle.line.proofs.Filling.{handed-on, fewer, none_pending, none_fed, filled_by}
use Rattle.line.proofs.feed.Feed.fill.Goals as goal

pub invariant_of-self : goal.invariant_of-self
invariant_of-self g c = record { within = omega (arith, c.hand_on-passed.ensures.passes.input_has) }

pub loop-count-preserved : goal.loop-count-preserved
loop-count-preserved g c =
    let p = g.P.Stage in
    let inv = c.loop-count.invariant in
    let handed = c.hand_on-passed.ensures in
    let m = p.model c.args.self.now.pile in
    let at_hand = c.load.new.self in
    let s : Sending = p.sending c.loop-count.self.pile in
    let s' : Sending = p.sending c.hand_on-passed.new.pile in
    let more = handed-on m s s' (g.met.P.Stage.sends c.loop-count.self.pile) at_hand.packet (bytes (replicate at_hand.nulls null_packet)) at_hand.at c.begun.ensures.rest
    c.hand_on-passed.result (passes_of inv.0 handed.passes) in
    (handed.fixed ∙ inv.0, gives_then m (gives_of m refl (ap (fed s) (sym c.load.ensures.same)) inv.1) refl more)

pub loop-count-smaller : goal.loop-count-smaller
loop-count-smaller g c =
    let p = g.P.Stage in
    let at_hand = c.load.new.self in
    let less = fewer (p.model c.loop-count.self.pile) (p.sending c.loop-count.self.pile) (p.sending c.hand_on-passed.new.pile) (g.met.P.Stage.sends c.loop-count.self.pile)
    at_hand.packet (bytes (replicate at_hand.nulls null_packet)) at_hand.at c.begun.ensures.rest c.hand_on-passed.result c.hand_on-passed.ensures.passes (omega arith) in
    omega (arith, less, ap length c.load.ensures.same)

pub returns-then-passed-eq0 : goal.returns-then-passed-eq0
returns-then-passed-eq0 g c =
    let p = g.P.Stage in
    let inv = c.loop-count.invariant in
    let handed = c.hand_on-passed.ensures in
    let m = p.model c.args.self.now.pile in
    let at_hand = c.load.new.self in
    let s : Sending = p.sending c.loop-count.self.pile in
    let s' : Sending = p.sending c.hand_on-passed.new.pile in
    let so_far = gives_of m refl (ap (fed s) (sym c.load.ensures.same)) inv.1 in
    let more = handed-on m s s' (g.met.P.Stage.sends c.loop-count.self.pile) at_hand.packet (bytes (replicate at_hand.nulls null_packet)) at_hand.at c.begun.ensures.rest
    c.hand_on-passed.result (passes_of inv.0 handed.passes) in
    let ns = bytes (replicate at_hand.nulls null_packet) in
    let settled : s'.waits ≡ [] → drop (at_hand.at + c.hand_on-passed.result.used) at_hand.packet ++ ns ≡ [] =
    λ e. none_pending m s s' (g.met.P.Stage.sends c.loop-count.self.pile) at_hand.packet ns at_hand.at c.begun.ensures.rest
    c.hand_on-passed.result (passes_of inv.0 handed.passes) c.if-passed-eq0.true (handed.all e) c.load.ensures.ready in
    let done = filled_by m _ _ _ _ _ (record {
      gives = gives_then m so_far refl more;
      all_that_fit = λ h.
          let idle = handed.passes.drains.all_that_fit (room_left m so_far c.hand_on-passed.result.made h) in
          none_fed s' _ (g.met.P.Stage.sends c.hand_on-passed.new.pile) idle (settled idle);
    }) in
    record { fixed = handed.fixed ∙ inv.0; count = done.0; filled = done.1; side = done.2; settled = settled }
