use Rattle.std.proofs.lemmas.Grind.{common_steps}
use Rattle.std.proofs.Common.{ℕ, List, Fits, w8, ◌≡◌, eqb, [], length, get_or, Ok, sym, ap, ◌∙◌, arith, rules, ◌<◌}
use Rattle.stage.specs.Rule.{Under}
use Rattle.stage.specs.Model.{Sending, fed}
use Rattle.stage.proofs.Waits.{none_waits}
use Rattle.line.specs.View.{bytes_of, side_of}
use Rattle.line.proofs.Calling.{packet_does, fed_further}
use Rattle.broadcast.proofs.All.{line_continues}
use Rattle.std.proofs.ByRecursion.{All-from_get_or}
use Rattle.line.proofs.Line.packet.Goals as goal

-- the bytes of a slice of u8
under : (xs : List ℕ) → ((i : ℕ) → Fits w8 (get_or xs i 0)) → Under 256 xs
under xs h = All-from_get_or (λ x. x < 256) xs 0 (λ i k. omega (arith, h i))

pub returns-in_err-admit-clause-continues : goal.returns-in_err-admit-clause-continues
returns-in_err-admit-clause-continues g c = line_continues _ (g.met.P.Stage.rule _) _ _ _ (under _ c.type_inv.packet) (search rules)

pub returns-in_default-clause-continues : goal.returns-in_default-clause-continues
returns-in_default-clause-continues g c = line_continues _ (g.met.P.Stage.rule _) _ _ _ (under _ c.type_inv.packet) (search rules)

pub returns-then-rest-ne187-clause-continues : goal.returns-then-rest-ne187-clause-continues
returns-then-rest-ne187-clause-continues g c = line_continues _ (g.met.P.Stage.rule _) _ _ _ (under _ c.type_inv.packet) (search rules)

pub returns-then-sync-ne71-clause-continues : goal.returns-then-sync-ne71-clause-continues
returns-then-sync-ne71-clause-continues g c = line_continues _ (g.met.P.Stage.rule _) _ _ _ (under _ c.type_inv.packet) (grind (arith, common_steps))

pub returns-then-pump-clause-continues : goal.returns-then-pump-clause-continues
returns-then-pump-clause-continues g c = line_continues _ (g.met.P.Stage.rule _) _ _ _ (under _ c.type_inv.packet) (search rules)

pub returns : goal.returns
returns g c =
    let p = g.P.Stage in
    let l = c.args.self.now in
    let xs = c.args.packet.now in
    let pumped = c.pump.ensures in
    let s : Sending = p.sending c.pump.new.self.pile in
    let ps = bytes_of c.pump.new.self.pending in
    let side : Sending = side_of p.sending l.feed in
    let none : ps ≡ [] = pumped.none c.if-pump.false in
    let grow = g.met.P.Stage.sends c.pump.new.self.pile in
    let whole : length xs ≡ 188 = omega arith in
    let sync : get_or xs 0 0 ≡ 0x47 = omega arith in
    let did = packet_does (p.model l.feed.pile) xs whole sync (eqb (p.model l.feed.pile).taken 256) (eqb (p.model c.pump.new.self.pile).taken 256)
    l.phase c.unwrap-frame.result c.counted.result side (fed s (bytes_of c.set_packet.new.self))
    (sym c.admit.ensures ∙ c.in_ok-admit.was ∙ ap Ok c.unwrap-frame.ensures) (ap (λ m. eqb m.taken 256) pumped.fixed)
    (none_waits side.waits (sym pumped.answers ∙ c.if-pump.false)) c.counted.ensures.settings c.counted.ensures.begun
    (ap (fed s) c.set_packet.ensures ∙ fed_further s side ps grow pumped.side none xs) in
    record {
      fixed = pumped.fixed;
      does = did;
      continues = line_continues _ (g.met.P.Stage.rule _) _ _ _ (under _ c.type_inv.packet) did;
      holds = c.holds.ensures;
    }
