-- Settings and answers in words.
use Rattle.std.specs.Prelude.{ℕ, List, ◌++◌, Ok, Err, codes, Result}
use Rattle.refusal.specs.declared.Refusal.{Refusal}
use Rattle.refusal.specs.Words.{refusal_words}
use Rattle.settings.specs.declared.Settings.{Settings}
use Rattle.settings.specs.Mode.{mode_name}
use Rattle.settings.specs.Constellation.{constellation_name}
use Rattle.settings.specs.Rate.{rate_name}

abbrev pub settings_name : List ℕ → Settings → List ℕ
settings_name what s =
    what ++ (codes ", " ++ (mode_name s.mode ++ (codes " " ++ (constellation_name s.constellation ++ (codes " " ++ rate_name s.rate)))))

abbrev pub answer_name : Result (Unit {0}) Refusal → List ℕ
answer_name (Ok done) = codes "accepted"
answer_name (Err r) = refusal_words r
