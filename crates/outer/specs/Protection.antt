-- The outer coder in its own words: what is sent is a row of codewords, and what is received is taken as one.
use Rattle.std.specs.Prelude.{◌≡◌, ℕ, ◌<◌, List, [], ◌++◌, length, take, Some}
use Rattle.reed.specs.Code.{Codeword}
use Rattle.stage.specs.Model.{and_then, clean}
use Rattle.outer.specs.OuterCoder.{outer_coder, failed_root}

-- Each packet is sent as a codeword that begins with it; what is left over is passed on.
pub record SendsCodewords : Type 0 where
  pub packet : (packet rest : List ℕ) → length packet ≡ 188
      → (parity : List ℕ) × Codeword (packet ++ parity) × (outer_coder.sends (packet ++ rest) ≡ (packet ++ parity) ++ outer_coder.sends rest)
  pub tail : (tail : List ℕ) → length tail < 188 → outer_coder.sends tail ≡ tail

-- 204 bytes give the first 188 of them where they are a codeword, and cause 2 where not; fewer give nothing.
pub record HearsCodewords : Type 0 where
  pub codeword : (block rest : List ℕ) → Codeword block → outer_coder.hears (block ++ rest) ≡ and_then (clean (take 188 block)) (outer_coder.hears rest)
  pub other : (block rest : List ℕ) → length block ≡ 204 → (Codeword block → ⊥) → outer_coder.hears (block ++ rest) ≡ record { units = []; fault = Some failed_root }
  pub tail : (tail : List ℕ) → length tail < 204 → outer_coder.hears tail ≡ clean []
