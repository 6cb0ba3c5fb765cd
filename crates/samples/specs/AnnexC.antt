-- The printed example of EN 300 744, annex C.
use Rattle.std.specs.Prelude.{ℕ, zero, suc, ◌+◌, ◌-◌, ◌*◌, ◌/◌, ◌%◌, ◌^◌, cond, List, [], ◌∷◌, ◌++◌, codes, decimal, nat_lt, slice_index}

-- carriers from one end on, but for every twelfth
abbrev pub data_carriers : ℕ → ℕ
data_carriers k = k - k / 12

-- carriers 0 and 1704 are the ends
abbrev pub cell_of : ℕ → ℕ
cell_of k = cond (nat_lt k 852) (data_carriers k - 1) (1512 - data_carriers (1704 - k))

abbrev pub digit_of : ℕ → ℕ → ℕ
digit_of n place = cond (nat_lt place 16) (n / 2 ^ place % 2) 0

-- the number whose digits, the highest first, stand at one place of one cell in n symbols
unfoldable pub number_of : List ℕ → ℕ → ℕ → ℕ → ℕ
number_of cells q place zero = 0
number_of cells q place (suc n) = (2 * number_of cells q place n + digit_of (slice_index cells (1512 * n + q)) place) % 2 ^ 16

abbrev pub numbers_of : List ℕ → ℕ → List ℕ
numbers_of cells q =
    number_of cells q 5 14 ∷ number_of cells q 4 14 ∷ number_of cells q 3 14 ∷ number_of cells q 2 14 ∷ number_of cells q 1 14 ∷ number_of cells q 0 14 ∷ []

abbrev pub joined : List ℕ → ℕ → List ℕ
joined bits k = codes ", " ++ decimal (slice_index bits k)

abbrev pub listed : List ℕ → List ℕ
listed bits = decimal (slice_index bits 0) ++ (joined bits 1 ++ (joined bits 2 ++ (joined bits 3 ++ (joined bits 4 ++ joined bits 5))))
