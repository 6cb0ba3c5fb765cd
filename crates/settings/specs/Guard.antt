-- The guard interval, by its code.
use Rattle.std.specs.Prelude.{ℕ, List, [], ◌∷◌, Result}
use Rattle.refusal.specs.declared.Refusal.{Refusal}
use Rattle.refusal.specs.declared.Refusal.TheVariants.{UnknownGuard}
use Rattle.settings.specs.declared.guard.Guard.{Guard}
use Rattle.settings.specs.declared.guard.Guard.TheVariants.{ThirtySecond, Sixteenth, Eighth, Quarter}
use Rattle.settings.specs.Coded.{value_at}

-- EN 300 744, table 14
abbrev pub guards : List Guard
guards = ThirtySecond ∷ Sixteenth ∷ Eighth ∷ Quarter ∷ []

abbrev pub guard_read : ℕ → Result Guard Refusal
guard_read = value_at guards UnknownGuard

abbrev pub guard_code : Guard → ℕ
guard_code ThirtySecond = 0
guard_code Sixteenth = 1
guard_code Eighth = 2
guard_code Quarter = 3
