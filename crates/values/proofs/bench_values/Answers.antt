use Rattle.values.proofs.Values.{bench_values_lem}
use Rattle.values.proofs.bench_values.Goals as goal

pub returns : goal.returns
returns c = bench_values_lem
