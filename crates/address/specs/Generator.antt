-- What the generator of H has yet to give.
use Rattle.std.specs.Prelude.{ℕ, ◌+◌, ◌-◌, ◌^◌, List}
use Rattle.settings.specs.declared.mode.Mode.{Mode}
use Rattle.settings.specs.Mode.{symbol_cells}
use Rattle.address.specs.Address.{row_of, addresses_from}

-- the addresses below N of the words of R' from r, which has the index i, to the last of all 2 ^ Nr
unfoldable pub addresses_left : Mode → ℕ → ℕ → List ℕ
addresses_left m i r = addresses_from (row_of m) (symbol_cells m) (2 ^ ((row_of m).bits + 1) - i) i r
