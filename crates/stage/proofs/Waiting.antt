-- A unit that may wait, by what is_some answers.
use Rattle.std.proofs.Common.{◌≡◌, ℕ, false, [], is_some, Some, None, Option, refl}
use Rattle.std.proofs.lemmas.Bool.{true≢false}
use Rattle.stage.specs.Model.{clean, some_heard}
use Rattle.stage.specs.Waiting.{listed}

pub some-listed : (o : Option ℕ) → some_heard (clean (listed o)) ≡ is_some o
some-listed None = refl
some-listed (Some x) = refl

pub none_listed : (o : Option ℕ) → is_some o ≡ false → listed o ≡ []
none_listed None e = refl
none_listed (Some x) e = absurd (true≢false e)
