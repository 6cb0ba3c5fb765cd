-- The outer interleaver in its own words: which byte leaves where.
use Rattle.std.specs.Prelude.{◌≡◌, ℕ, ◌+◌, ◌-◌, ◌*◌, ◌%◌, ◌<◌, cond, List, length, nat_le, slice_index}
use Rattle.outer.specs.OuterInterleaver.{outer_interleaver}

-- the byte d places before place p, 0 before the first
abbrev pub past : List ℕ → ℕ → ℕ → ℕ
past xs p d = cond (nat_le d p) (slice_index xs (p - d)) 0

-- Byte t leaves as byte t + 204 (t mod 12); places not yet reached hold 0.
pub record Leaves : Type 0 where
  pub as_many : (xs : List ℕ) → length (outer_interleaver.sends xs) ≡ length xs
  pub later : (xs : List ℕ) (t : ℕ) → t + 204 * (t % 12) < length xs
      → slice_index (outer_interleaver.sends xs) (t + 204 * (t % 12)) ≡ slice_index xs t
  pub unreached : (xs : List ℕ) (p : ℕ) → p < 204 * (p % 12) → slice_index (outer_interleaver.sends xs) p ≡ 0

-- bytes 0, 1 and 203 leave as bytes 0, 205 and 2447
pub record LeavingVectors : Type 0 where
  pub byte_0 : (xs : List ℕ) → 2447 < length xs → slice_index (outer_interleaver.sends xs) 0 ≡ slice_index xs 0
  pub byte_1 : (xs : List ℕ) → 2447 < length xs → slice_index (outer_interleaver.sends xs) 205 ≡ slice_index xs 1
  pub byte_203 : (xs : List ℕ) → 2447 < length xs → slice_index (outer_interleaver.sends xs) 2447 ≡ slice_index xs 203
