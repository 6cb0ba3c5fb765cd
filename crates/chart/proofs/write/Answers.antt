use Rattle.std.proofs.Common.{length, Some, ap, ◌∙◌}
use Rattle.std.proofs.lemmas.Result.{err_from_is_err_and}
use Rattle.refusal.specs.Numbers.{number_of, refused_by}
use Rattle.chart.specs.Chart.{mark}
use Rattle.chart.proofs.Charting.{answered, refused, accepted}
use Rattle.chart.proofs.write.Goals as goal

pub returns-in_err-permute : goal.returns-in_err-permute
returns-in_err-permute c =
    let err = err_from_is_err_and c.from_residual.result c.from_residual.ensures.1 in
    let said = c.in_err-permute.ensures.answer in
    let after = c.permute.ensures.buffer (mark 0 0) in
    record {
      answer = ap refused_by err.1 ∙ ap (λ e. Some (number_of e)) err.2
          ∙ answered c.args.mode _ c.new-addresses.ensures c.args.parity _ c.args.marks.now _ c.in_place.ensures after _ said;
      buffer = refused c.args.mode _ c.new-addresses.ensures c.args.parity _ c.args.marks.now _ c.in_place.ensures after _ said;
    }

pub returns : goal.returns
returns c =
    let said = c.in_ok-permute.ensures.answer in
    let after = c.permute.ensures.buffer (mark 0 0) in
    record {
      answer = answered c.args.mode _ c.new-addresses.ensures c.args.parity _ c.args.marks.now _ c.in_place.ensures after _ said;
      buffer = accepted c.args.mode _ c.new-addresses.ensures c.args.parity _ c.args.marks.now _ c.in_place.ensures after said
          c.land.new.marks _ (ap length c.list.ensures) c.land.auto.marks c.land.ensures;
    }
