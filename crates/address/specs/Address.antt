-- The address sequence H of the symbol interleaver (EN 300 744, clause 4.3.4.2).
--   row_of m         what differs from mode to mode
--   stepped, wired   R' one step on; R from R'
--   addresses_of m   H(0), H(1), up to H(N − 1)
use Rattle.std.specs.Prelude.{ℕ, zero, suc, ◌+◌, ◌-◌, ◌*◌, ◌/◌, ◌%◌, ◌^◌, Bool, true, false, List, [], ◌∷◌, nat_lt}
use Rattle.settings.specs.declared.mode.Mode.{Mode}
use Rattle.settings.specs.declared.mode.Mode.TheVariants.{TwoK, EightK}
use Rattle.settings.specs.Mode.{symbol_cells}

pub record Row : Type 0 where
  -- how many bits R' has: Nr − 1
  pub bits : ℕ
  -- the bits of R' whose sum modulo 2 comes in at its top
  pub taps : List ℕ
  -- the place in R of each bit of R', bit 0 first: tables 3a and 3b from right to left
  pub wires : List ℕ

abbrev pub row_of : Mode → Row
row_of TwoK = record {
  bits = 10;
  taps = 0 ∷ 3 ∷ [];
  wires = 4 ∷ 3 ∷ 9 ∷ 6 ∷ 2 ∷ 8 ∷ 1 ∷ 5 ∷ 7 ∷ 0 ∷ [];
}
row_of EightK = record {
  bits = 12;
  taps = 0 ∷ 1 ∷ 4 ∷ 6 ∷ [];
  wires = 7 ∷ 1 ∷ 4 ∷ 2 ∷ 9 ∷ 6 ∷ 8 ∷ 10 ∷ 0 ∷ 3 ∷ 11 ∷ 5 ∷ [];
}

-- bit k of n
abbrev pub bit : ℕ → ℕ → ℕ
bit k n = n / 2 ^ k % 2

abbrev pub fed_back : List ℕ → ℕ → ℕ
fed_back [] r = 0
fed_back (t ∷ ts) r = (bit t r + fed_back ts r) % 2

-- R' one step on
abbrev pub stepped : Row → ℕ → ℕ
stepped w r = r / 2 + fed_back w.taps r * 2 ^ (w.bits - 1)

-- R' with the index i + 1, from the one with the index i
abbrev pub following : Row → ℕ → ℕ → ℕ
following w zero r = 0
following w (suc zero) r = 1
following w (suc (suc i)) r = stepped w r

-- R from R'
abbrev pub wired : List ℕ → ℕ → ℕ
wired [] r = 0
wired (p ∷ ps) r = r % 2 * 2 ^ p + wired ps (r / 2)

-- the toggling bit above R
abbrev pub address : Row → ℕ → ℕ → ℕ
address w i r = i % 2 * 2 ^ w.bits + wired w.wires r

abbrev pub kept : Bool → ℕ → List ℕ → List ℕ
kept true x xs = x ∷ xs
kept false x xs = xs

-- the addresses below n of the next words of R', the first of which is r and has the index i
abbrev pub addresses_from : Row → ℕ → ℕ → ℕ → ℕ → List ℕ
addresses_from w n zero i r = []
addresses_from w n (suc turns) i r = kept (nat_lt (address w i r) n) (address w i r) (addresses_from w n turns (i + 1) (following w i r))

-- H: the addresses below N of all 2 ^ Nr words of R'
unfoldable pub addresses_of : Mode → List ℕ
addresses_of m = addresses_from (row_of m) (symbol_cells m) (2 ^ ((row_of m).bits + 1)) 0 0
