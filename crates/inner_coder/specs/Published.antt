-- The inner code in the words of EN 300 744, clause 4.3.3: by places in the list of bits, with no register.
use Rattle.std.specs.Prelude.{◌≡◌, ℕ, ◌+◌, ◌-◌, ◌%◌, cond, List, [], ◌∷◌, length, nat_le, slice_index}
use Rattle.std.specs.List.{range_with_len, flat_map}
use Rattle.settings.specs.declared.rate.Rate.{Rate}
use Rattle.stage.specs.Rule.{Under}
use Rattle.inner_coder.specs.declared.puncturing.Sent.{Sent}
use Rattle.inner_coder.specs.declared.puncturing.Sent.TheVariants.{Both, X, Y}
use Rattle.inner_coder.specs.Puncturing.{sent_at, period}
use Rattle.inner_coder.specs.Coder.{inner_code}

-- the bit j places before place k, zero before the first
abbrev pub ago : List ℕ → ℕ → ℕ → ℕ
ago bs k j = cond (nat_le j k) (slice_index bs (k - j)) 0

-- X = 171 octal and Y = 133 octal: the sums modulo 2 of the tapped bits
abbrev pub x_at : List ℕ → ℕ → ℕ
x_at bs k = (ago bs k 0 + ago bs k 1 + ago bs k 2 + ago bs k 3 + ago bs k 6) % 2

abbrev pub y_at : List ℕ → ℕ → ℕ
y_at bs k = (ago bs k 0 + ago bs k 2 + ago bs k 3 + ago bs k 5 + ago bs k 6) % 2

abbrev pub chosen : Sent → ℕ → ℕ → List ℕ
chosen Both x y = x ∷ y ∷ []
chosen X x y = x ∷ []
chosen Y x y = y ∷ []

-- the units of the bit at place k: the puncturing period runs on
abbrev pub units_at : Rate → List ℕ → ℕ → List ℕ
units_at rate bs k = chosen (sent_at rate (k % period rate)) (x_at bs k) (y_at bs k)

abbrev pub published : Rate → List ℕ → List ℕ
published rate bs = flat_map (units_at rate bs) (range_with_len 0 (length bs))

-- a new inner coder sends what is published
abbrev pub SendsPublished : Type 0
SendsPublished = (rate : Rate) (bs : List ℕ) → Under 2 bs → (inner_code rate).sends bs ≡ published rate bs
