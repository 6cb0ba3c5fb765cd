-- A list that has each number below n once, and nothing else.
use Rattle.std.specs.Prelude.{◌≡◌, ℕ, ◌<◌, List, length, slice_index}

pub record Permutes (n : ℕ) (xs : List ℕ) : Type 0 where
  pub size : length xs ≡ n
  pub within : (q : ℕ) → q < n → slice_index xs q < n
  pub apart : (p q : ℕ) → p < n → q < n → slice_index xs p ≡ slice_index xs q → p ≡ q
  pub reached : (k : ℕ) → k < n → (q : ℕ) × ((q < n) × (slice_index xs q ≡ k))
