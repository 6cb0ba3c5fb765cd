use Rattle.chart.proofs.Charting.{chart_holds_lem}
use Rattle.chart.proofs.laws.chart_holds.Goals as goal

pub returns : goal.returns
returns c = chart_holds_lem c.args.mode c.args.parity
