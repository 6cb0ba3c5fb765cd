-- The chart of the symbol interleaver: a mark for each word of a symbol, by the place that the word comes to.
--   chart_of m p     the marks for a mode and a parity
--   checked          what the call refuses, in the order of its checks
--   buffer_after     what the caller's buffer then holds
--   Charts           what a chart is, in the clause's words
use Rattle.std.specs.Prelude.{◌≡◌, ℕ, ◌<◌, cond, List, ◌++◌, map, length, drop, Some, None, Ok, Err, Option, Result, nat_lt, slice_index, slice_index_or}
use Rattle.std.specs.List.{range_with_len}
use Rattle.refusal.specs.Numbers.{number_of}
use Rattle.refusal.specs.declared.Refusal.{Refusal}
use Rattle.settings.specs.declared.mode.Mode.{Mode}
use Rattle.settings.specs.Mode.{symbol_cells}
use Rattle.address.specs.Address.{addresses_of}
use Rattle.permute.specs.declared.parity.Parity.{Parity}
use Rattle.permute.specs.declared.parity.Parity.TheVariants.{Even, Odd}
use Rattle.permute.specs.Permuted.{word_at}
use Rattle.chart.specs.declared.mark.Mark.{Mark}

abbrev pub mark : ℕ → ℕ → Mark
mark before after = record { before = before; after = after }

abbrev pub mark_at : List Mark → ℕ → Mark
mark_at marks k = slice_index_or marks k (mark 0 0)

-- the marks of n words that stay where they are
unfoldable pub unmoved : ℕ → List Mark
unmoved n = map (λ q. mark q q) (range_with_len 0 n)

unfoldable pub chart_of : Mode → Parity → List Mark
chart_of m p = map (λ place. mark (word_at p (addresses_of m) place) place) (range_with_len 0 (symbol_cells m))

-- the mode's code, then the parity's, then the room
abbrev pub checked : Result Mode Refusal → Result Parity Refusal → ℕ → Option ℕ
checked (Err e) p room = Some (number_of e)
checked (Ok m) (Err e) room = Some (number_of e)
checked (Ok m) (Ok p) room = cond (nat_lt room (symbol_cells m)) (Some 16) None

-- the chart and what stood past it; where something is refused, what stood there
abbrev pub buffer_after : Result Mode Refusal → Result Parity Refusal → List Mark → List Mark
buffer_after (Err e) p marks = marks
buffer_after (Ok m) (Err e) marks = marks
buffer_after (Ok m) (Ok p) marks = cond (nat_lt (length marks) (symbol_cells m)) marks (chart_of m p ++ drop (symbol_cells m) marks)

-- in an even symbol word q goes to H(q), in an odd one word H(q) to q
abbrev pub Goes : Parity → List ℕ → ℕ → ℕ → Type 0
Goes Even hs before after = after ≡ slice_index hs before
Goes Odd hs before after = before ≡ slice_index hs after

pub record Charts (n : ℕ) (p : Parity) (hs : List ℕ) (marks : List Mark) : Type 0 where
  pub size : length marks ≡ n
  -- each word has a mark, and no other
  pub marked : (q : ℕ) → q < n → (k : ℕ) × ((k < n) × ((mark_at marks k).before ≡ q))
  pub once : (j k : ℕ) → j < n → k < n → (mark_at marks j).before ≡ (mark_at marks k).before → j ≡ k
  pub told : (k : ℕ) → k < n → Goes p hs (mark_at marks k).before (mark_at marks k).after
  -- marks stand by the place after the interleaver
  pub rising : (k : ℕ) → k < n → (mark_at marks k).after ≡ k
