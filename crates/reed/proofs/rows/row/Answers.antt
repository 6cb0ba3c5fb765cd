use Rattle.std.proofs.Common.{arith}
use Rattle.reed.specs.Code.{factors}
use Rattle.reed.specs.Field.{doubled, times, product, power}
use Rattle.reed.proofs.Rowing.{multiples, row_is}
use Rattle.reed.proofs.rows.row.Goals as goal

-- antt computes both tables
pub returns : goal.returns
unfolding multiples factors product times doubled power
returns c = row_is c.args.factor (omega arith)
