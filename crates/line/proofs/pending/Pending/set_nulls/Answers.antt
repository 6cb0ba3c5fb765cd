use Rattle.std.proofs.Common.{◌++◌, replicate, ap, arith}
use Rattle.std.proofs.lemmas.List.{drop_all}
use Rattle.broadcast.specs.Calls.{bytes, null_packet}
use Rattle.line.proofs.pending.Pending.set_nulls.Goals as goal

pub returns : goal.returns
returns c = ap (λ w. w ++ bytes (replicate c.args.count null_packet)) (drop_all 188 c.args.self.now.packet (omega arith))
