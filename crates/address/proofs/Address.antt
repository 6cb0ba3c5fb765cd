-- H is a permutation, by one computed test for each mode; what else is computed from the rows.
use Rattle.std.proofs.Common.{◌≡◌, ℕ, ◌≤◌, List, length, sym, refl, ap, ◌∙◌, subst₂, lit≤}
use Rattle.settings.specs.declared.mode.Mode.{Mode}
use Rattle.settings.specs.declared.mode.Mode.TheVariants.{TwoK, EightK}
use Rattle.settings.specs.Mode.{symbol_cells}
use Rattle.address.specs.Address.{addresses_of}
use Rattle.address.specs.Permutation.{Permutes}
use Rattle.address.proofs.Permutation.{permutes}

permute_2K : Permutes 1512 (addresses_of TwoK)
unfolding addresses_of
permute_2K = permutes 1512 (addresses_of TwoK) refl

permute_8K : Permutes 6048 (addresses_of EightK)
unfolding addresses_of
permute_8K = permutes 6048 (addresses_of EightK) refl

pub addresses_permute : (m : Mode) → Permutes (symbol_cells m) (addresses_of m)
addresses_permute TwoK = permute_2K
addresses_permute EightK = permute_8K

-- a list that is H permutes as many numbers as it has
pub table_permutes : (m : Mode) (table : List ℕ) → table ≡ addresses_of m → Permutes (length table) table
table_permutes m table e = subst₂ Permutes (sym (addresses_permute m).size ∙ ap length (sym e)) (sym e) (addresses_permute m)

-- the store for the longest symbol has room for every one
pub words_fit : (m : Mode) → symbol_cells m ≤ 6048
words_fit TwoK = lit≤ tt
words_fit EightK = lit≤ tt
