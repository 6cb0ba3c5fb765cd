-- H against what is known from elsewhere.
use Rattle.std.specs.Prelude.{◌≡◌, ℕ, ◌+◌, ◌*◌, ◌%◌, List, [], ◌∷◌, take}
use Rattle.settings.specs.declared.mode.Mode.TheVariants.{TwoK, EightK}
use Rattle.address.specs.Address.{addresses_of}

-- one number for a whole list in its order
abbrev pub digest : ℕ → List ℕ → ℕ
digest n [] = n
digest n (x ∷ xs) = digest ((n * 8191 + x) % 2305843009213693951) xs

abbrev pub Published : Type 0
Published =
    (take 5 (addresses_of TwoK) ≡ 0 ∷ 1024 ∷ 16 ∷ 1025 ∷ 128 ∷ [])
    × (take 4 (addresses_of EightK) ≡ 0 ∷ 4096 ∷ 128 ∷ 4128 ∷ [])

-- the digests that tools/address.py works out by a program of its own
abbrev pub Recomputed : Type 0
Recomputed = (digest 0 (addresses_of TwoK) ≡ 1087465283622987082) × (digest 0 (addresses_of EightK) ≡ 1885542779636269596)
