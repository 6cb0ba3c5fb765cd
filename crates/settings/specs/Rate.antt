-- The rate of the inner code, by its code, and as a fraction.
use Rattle.std.specs.Prelude.{ℕ, List, [], ◌∷◌, codes, Result}
use Rattle.refusal.specs.declared.Refusal.{Refusal}
use Rattle.refusal.specs.declared.Refusal.TheVariants.{UnknownRate}
use Rattle.settings.specs.declared.rate.Rate.{Rate}
use Rattle.settings.specs.declared.rate.Rate.TheVariants.{Half, TwoThirds, ThreeQuarters, FiveSixths, SevenEighths}
use Rattle.settings.specs.Coded.{value_at}

-- EN 300 744, table 13
abbrev pub rates : List Rate
rates = Half ∷ TwoThirds ∷ ThreeQuarters ∷ FiveSixths ∷ SevenEighths ∷ []

abbrev pub rate_read : ℕ → Result Rate Refusal
rate_read = value_at rates UnknownRate

abbrev pub rate_code : Rate → ℕ
rate_code Half = 0
rate_code TwoThirds = 1
rate_code ThreeQuarters = 2
rate_code FiveSixths = 3
rate_code SevenEighths = 4

abbrev pub rate_over : Rate → ℕ
rate_over Half = 1
rate_over TwoThirds = 2
rate_over ThreeQuarters = 3
rate_over FiveSixths = 5
rate_over SevenEighths = 7

abbrev pub rate_under : Rate → ℕ
rate_under Half = 2
rate_under TwoThirds = 3
rate_under ThreeQuarters = 4
rate_under FiveSixths = 6
rate_under SevenEighths = 8

-- as it is printed
abbrev pub rate_name : Rate → List ℕ
rate_name Half = codes "1/2"
rate_name TwoThirds = codes "2/3"
rate_name ThreeQuarters = codes "3/4"
rate_name FiveSixths = codes "5/6"
rate_name SevenEighths = codes "7/8"
