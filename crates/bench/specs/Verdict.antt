-- Whether packets came back as they were sent. Packets count from 0.
use Rattle.std.specs.Prelude.{ℕ, cond, Some, None, Option, nat_lt}
use Rattle.bench.specs.declared.comparison.Verdict.{Verdict}
use Rattle.bench.specs.declared.comparison.Verdict.TheVariants.{Equal, Changed, Lost}

-- the first changed one tells, then the first that is not back
abbrev pub verdict_of : ℕ → ℕ → Option ℕ → Verdict
verdict_of sent returned (Some k) = Changed k
verdict_of sent returned None = cond (nat_lt returned sent) (Lost returned) Equal
