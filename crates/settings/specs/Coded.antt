-- Tables of codes: the values stand in the order of their codes, from 0.
use Rattle.std.specs.Prelude.{◌≡◌, ℕ, zero, suc, List, [], ◌∷◌, Ok, Err, Result, ◌≢◌}
use Rattle.refusal.specs.declared.Refusal.{Refusal}

-- the value at a code, or the refusal where the table has none
abbrev pub value_at : {X : Type 0} → List X → Refusal → ℕ → Result X Refusal
value_at [] r n = Err r
value_at (x ∷ xs) r zero = Ok x
value_at (x ∷ xs) r (suc n) = value_at xs r n

-- Reading a value's code gives the value, and every number that is no value's code is refused.
pub record Coded {X : Type 0} (code : X → ℕ) (read : ℕ → Result X Refusal) (refusal : Refusal) : Type 0 where
  pub back : (x : X) → read (code x) ≡ Ok x
  pub only : (n : ℕ) (x : X) → read n ≡ Ok x → code x ≡ n
  pub none : (n : ℕ) → ((x : X) → code x ≢ n) → read n ≡ Err refusal
