-- The puncturing patterns of EN 300 744, clause 4.3.3, table 2.
--   pattern_of rate      what is sent for each bit of a period: a column of the table is `Both`, or the row that has a 1
--   period rate          the bits of a period
--   sent_at rate k       what is sent for the bit at place k of the period
--   onward period k      the place after k, round and round
use Rattle.std.specs.Prelude.{ℕ, ◌+◌, cond, List, [], ◌∷◌, length, ◌==◌, slice_index_or}
use Rattle.settings.specs.declared.rate.Rate.{Rate}
use Rattle.settings.specs.declared.rate.Rate.TheVariants.{Half, TwoThirds, ThreeQuarters, FiveSixths, SevenEighths}
use Rattle.inner_coder.specs.declared.puncturing.Sent.{Sent}
use Rattle.inner_coder.specs.declared.puncturing.Sent.TheVariants.{Both, X, Y}
use Rattle.inner_coder.specs.declared.puncturing.Left.{Left}
use Rattle.inner_coder.specs.declared.puncturing.Left.TheVariants as left

abbrev pub pattern_of : Rate → List Sent
pattern_of Half = Both ∷ []
pattern_of TwoThirds = Both ∷ Y ∷ []
pattern_of ThreeQuarters = Both ∷ Y ∷ X ∷ []
pattern_of FiveSixths = Both ∷ Y ∷ X ∷ Y ∷ X ∷ []
pattern_of SevenEighths = Both ∷ Y ∷ Y ∷ Y ∷ X ∷ Y ∷ X ∷ []

abbrev pub period : Rate → ℕ
period rate = length (pattern_of rate)

abbrev pub sent_at : Rate → ℕ → Sent
sent_at rate k = slice_index_or (pattern_of rate) k Both

-- all of what is sent is left to take
abbrev pub all_of : Sent → Left
all_of Both = left.Both
all_of X = left.X
all_of Y = left.Y

abbrev pub onward : ℕ → ℕ → ℕ
onward period k = cond (k + 1 == period) 0 (k + 1)
