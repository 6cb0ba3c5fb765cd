-- Stages that work on blocks. A side gathers the units of a block and then gives the code of them; units short of a block give nothing.
-- A block has a kind, which turns from each block to the next: where the code is the same for all blocks it is one kind, and even and odd blocks are two.
use Rattle.std.specs.Prelude.{◌≡◌, ℕ, ◌+◌, ◌-◌, ◌*◌, ◌<◌, ◌≤◌, cond, List, [], ◌∷◌, ◌++◌, length, nat_le}
use Rattle.stage.specs.Model.{Model, Sending, Receiving, clean, heard_of}
use Rattle.stage.specs.Rule.{Under}
use Rattle.holds.specs.Capped.{capped}

-- what a side gives for further units, where its block of B units is of kind k and holds `held` already
unfoldable pub blocks : {K : Type 0} → (K → K) → (K → List ℕ → List ℕ) → ℕ → K → List ℕ → List ℕ → List ℕ
blocks turn code B k held [] = []
blocks turn code B k held (x ∷ xs) =
    cond (nat_le B (length held + 1))
    (code k (held ++ x ∷ []) ++ blocks turn code B (turn k) [] xs)
    (blocks turn code B k (held ++ x ∷ []) xs)

-- A block of B units below `taken` becomes one of C units below `given`, and decoding undoes it.
pub record Coding {K : Type 0} (B C taken given : ℕ) (encode decode : K → List ℕ → List ℕ) : Type 0 where
  pub some_in : 1 ≤ B
  pub some_out : 1 ≤ C
  pub sized : (k : K) (b : List ℕ) → length b ≡ B → Under taken b → length (encode k b) ≡ C
  pub sends_under : (k : K) (b : List ℕ) → length b ≡ B → Under taken b → Under given (encode k b)
  pub hears_under : (k : K) (c : List ℕ) → length c ≡ C → Under given c → Under taken (decode k c)
  pub undone : (k : K) (b : List ℕ) → length b ≡ B → Under taken b → decode k (encode k b) ≡ b

-- The last m units of what was sent reach into j blocks only if C × j < m + C.
-- These blocks are lost, and what was left of the list after the last whole block, at most B − 1 units.
abbrev pub Covers : ℕ → ℕ → (ℕ → ℕ) → Type 0
Covers B C hold = (m j : ℕ) → C * j < m + C → B * j + (B - 1) ≤ hold m

-- a stage of blocks, the first of which is of kind k
abbrev pub blockwise : {K : Type 0} → ℕ → ℕ → ℕ → ℕ → (ℕ → ℕ) → (K → K) → K → (K → List ℕ → List ℕ) → (K → List ℕ → List ℕ) → Model
blockwise B C taken given formula turn k encode decode = record {
  taken = taken;
  given = given;
  size = 1;
  hold = capped formula;
  sends = blocks turn encode B k [];
  hears = λ ys. clean (blocks turn decode C k [] ys);
}

-- Its sides as they are now: the units that wait, the kind of the block begun, and what is held of it.
abbrev pub block_sending : {K : Type 0} → (K → K) → (K → List ℕ → List ℕ) → ℕ → List ℕ → K → List ℕ → Sending
block_sending turn encode B waits k held = record { waits = waits; future = blocks turn encode B k held }

abbrev pub block_receiving : {K : Type 0} → (K → K) → (K → List ℕ → List ℕ) → ℕ → List ℕ → K → List ℕ → Receiving
block_receiving turn decode C waits k held = heard_of (block_sending turn decode C waits k held)
