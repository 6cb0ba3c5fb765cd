-- The symbol interleaver as a stage of blocks: its model for a mode and a constellation and for codes that were read, and its sides as they are now.
use Rattle.std.specs.Prelude.{ℕ, ◌+◌, ◌-◌, ◌*◌, ◌^◌, List, [], take, drop, Ok, Err, Result}
use Rattle.address.specs.Address.{addresses_of}
use Rattle.permute.specs.declared.parity.Parity.{Parity}
use Rattle.permute.specs.declared.parity.Parity.TheVariants.{Even}
use Rattle.permute.specs.Parity.{opposite}
use Rattle.permute.specs.Permuted.{permuted}
use Rattle.refusal.specs.declared.Refusal.{Refusal}
use Rattle.settings.specs.declared.constellation.Constellation.{Constellation}
use Rattle.settings.specs.declared.mode.Mode.{Mode}
use Rattle.settings.specs.Constellation.{word_bits}
use Rattle.settings.specs.Mode.{symbol_cells}
use Rattle.stage.specs.Blocks.{blockwise, block_sending}
use Rattle.stage.specs.Optional.{unknown}
use Rattle.stage.specs.Model.{Model, Sending, Receiving, heard_of}
use Rattle.inner_interleaver.specs.declared.side.Side.{Side}
use Rattle.inner_interleaver.specs.declared.symbol_interleaver.SymbolInterleaver.{SymbolInterleaver}

-- symbols are even and odd in turn; the other parity undoes a symbol
abbrev pub encode : Mode → Parity → List ℕ → List ℕ
encode m p ws = permuted p (addresses_of m) 0 ws

abbrev pub decode : Mode → Parity → List ℕ → List ℕ
decode m p ws = permuted (opposite p) (addresses_of m) 0 ws

-- how many words may be missing when the last m are
abbrev pub words_missing : ℕ → ℕ → ℕ
words_missing n m = m + 2 * n - 2

abbrev pub symbol_interleaving : Mode → Constellation → Model
symbol_interleaving m c =
    blockwise (symbol_cells m) (symbol_cells m) (2 ^ word_bits c) (2 ^ word_bits c) (words_missing (symbol_cells m)) opposite Even (encode m) (decode m)

abbrev pub symbol_interleaver : Result Mode Refusal → Result Constellation Refusal → Model
symbol_interleaver (Ok m) (Ok c) = symbol_interleaving m c
symbol_interleaver (Ok m) (Err refusal) = unknown
symbol_interleaver (Err refusal) c = unknown

-- a side in which nothing is gathered and nothing waits
abbrev pub idle : Mode → Parity → Sending
idle m p = block_sending opposite (encode m) (symbol_cells m) [] p []

-- a side moves symbols by its parity in turn: words are gathered, or the moved ones wait from the place `at` on
abbrev pub side_of : Side → Sending
side_of s = block_sending opposite (encode s.mode) (symbol_cells s.mode) (drop s.at (take (symbol_cells s.mode) s.moved)) s.parity s.words.items

abbrev pub model_of : SymbolInterleaver → Model
model_of s = symbol_interleaving s.out.mode s.out.constellation

abbrev pub sending_of : SymbolInterleaver → Sending
sending_of s = side_of s.out

abbrev pub receiving_of : SymbolInterleaver → Receiving
receiving_of s = heard_of (side_of s.back)
