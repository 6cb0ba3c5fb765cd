use Rattle.std.proofs.Common.{◌≡◌, eqb, [], replicate, Ok, sym, ap, ◌∙◌, arith, rules}
use Rattle.stage.specs.Model.{Sending, fed}
use Rattle.stage.proofs.Waits.{none_waits}
use Rattle.broadcast.specs.Calls.{bytes, closing_packets, null_packet}
use Rattle.line.specs.View.{bytes_of, side_of}
use Rattle.line.proofs.Calling.{close_does, fed_further}
use Rattle.broadcast.proofs.All.{line_continues}
use Rattle.line.proofs.Line.close.Goals as goal

pub returns-in_err-admit-clause-continues : goal.returns-in_err-admit-clause-continues
returns-in_err-admit-clause-continues g c = line_continues _ (g.met.P.Stage.rule _) _ _ _ tt (search rules)

pub returns-then-frame-ne0-clause-continues : goal.returns-then-frame-ne0-clause-continues
returns-then-frame-ne0-clause-continues g c = line_continues _ (g.met.P.Stage.rule _) _ _ _ tt (search rules)

pub returns-then-pump-clause-continues : goal.returns-then-pump-clause-continues
returns-then-pump-clause-continues g c = line_continues _ (g.met.P.Stage.rule _) _ _ _ tt (search rules)

pub returns : goal.returns
returns g c =
    let p = g.P.Stage in
    let l = c.args.self.now in
    let f = c.unwrap-frame.result in
    let pumped = c.pump.ensures in
    let s : Sending = p.sending c.pump.new.self.pile in
    let ps = bytes_of c.pump.new.self.pending in
    let side : Sending = side_of p.sending l.feed in
    let none : ps ≡ [] = pumped.none c.if-pump.false in
    let grow = g.met.P.Stage.sends c.pump.new.self.pile in
    let begun : f.begun ≡ 0 = omega arith in
    let did = close_does (p.model l.feed.pile) (eqb (p.model l.feed.pile).taken 256) (eqb (p.model c.pump.new.self.pile).taken 256)
    l.phase f side (fed s (bytes_of c.set_nulls.new.self))
    (sym c.admit.ensures ∙ c.in_ok-admit.was ∙ ap Ok c.unwrap-frame.ensures) (ap (λ m. eqb m.taken 256) pumped.fixed)
    begun (none_waits side.waits (sym pumped.answers ∙ c.if-pump.false))
    (ap (fed s) (c.set_nulls.ensures ∙ ap (λ n. bytes (replicate n null_packet)) f.whole)
    ∙ fed_further s side ps grow pumped.side none (bytes (closing_packets f.settings))) in
    record {
      fixed = pumped.fixed;
      does = did;
      continues = line_continues _ (g.met.P.Stage.rule _) _ _ _ tt did;
      holds = c.holds.ensures;
    }
