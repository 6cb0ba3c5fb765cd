use Rattle.std.proofs.Common.{◌≡◌, sym, ap, ◌∙◌, arith}
use Rattle.stage.specs.Model.{Sending, fed, some}
use Rattle.stage.proofs.Waits.{none_waits}
use Rattle.line.specs.View.{bytes_of, dropped, side_of}
use Rattle.line.proofs.Filling.{waits_fed}
use Rattle.line.proofs.feed.Feed.pump.Goals as goal

pub returns : goal.returns
returns g c =
    let p = g.P.Stage in
    let filled = c.fill.ensures in
    let asked = c.send_waits.ensures in
    let side : Sending = side_of p.sending c.args.self.now in
    let s : Sending = p.sending c.fill.new.self.pile in
    let ps = bytes_of c.fill.new.self.pending in
    let zero : c.fill.result ≡ 0 = omega (arith, filled.count) in
    let same = filled.side ∙ ap (λ n. dropped n side) zero in
    record {
      fixed = asked.fixed ∙ filled.fixed;
      side = ap (λ s. fed s ps) asked.side ∙ same;
      answers = asked.answers ∙ waits_fed s ps (g.met.P.Stage.sends c.fill.new.self.pile) filled.settled ∙ ap (λ s. some s.waits) same;
      none = λ e. filled.settled (none_waits s.waits (sym asked.answers ∙ e));
    }
