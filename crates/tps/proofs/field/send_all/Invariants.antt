use Rattle.std.proofs.Common.{◌≡◌, ◌++◌, drop}
use Rattle.tps.specs.Field.{sent}
use Rattle.tps.proofs.field.send_all.Given as goal

abbrev pub invariant-loop-field : goal.invariant-loop-field
invariant-loop-field l = l.bits.items ++ sent (drop l.field-index l.fields) ≡ sent l.fields
