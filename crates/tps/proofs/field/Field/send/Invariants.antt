use Rattle.std.proofs.Common.{◌≡◌, ◌-◌, ◌/◌, ◌^◌, ◌++◌}
use Rattle.tps.specs.Field.{bits}
use Rattle.tps.proofs.field.Field.send.Given as goal

abbrev pub invariant-loop-place : goal.invariant-loop-place
invariant-loop-place l = l.sent.items ≡ l.initial.sent.items ++ bits (l.self.width - l.place) (l.self.value / 2 ^ l.place)
