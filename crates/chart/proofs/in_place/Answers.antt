use Rattle.std.proofs.Common.{rules}
use Rattle.std.proofs.lemmas.List.FromFn.{fill_by_all}
use Rattle.chart.specs.Chart.{mark, unmoved}
use Rattle.chart.proofs.in_place.Goals as goal

pub returns : goal.returns
unfolding unmoved
returns c = fill_by_all (λ q. mark q q) c.from_fn.result 6048 (mark 0 0) c.from_fn.ensures.items.long (λ k h. let w = (c.from_fn.ensures.items.at k (mark 0 0) h).2 in search rules)
