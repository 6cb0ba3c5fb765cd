-- The hold that a formula gives, with the stop: never smaller for a larger m, full from the stop on, and claiming no more than the formula.
use Rattle.std.proofs.Common.{◌≡◌, ℕ, ◌<◌, ◌≤◌, min, leb, inl, inr, arith}
use Rattle.std.proofs.lemmas.Bool.{cases_lt, cond_both, cond-true, cond-false, le-leb, lt-leb}
use Rattle.holds.specs.Capped.{most, capped}

module _ (formula : ℕ → ℕ) where
  pub capped_stops : (m : ℕ) → capped formula m ≤ most
  capped_stops m = cond_both (leb most m) most (min (formula m) most) (λ h. h ≤ most) (λ e. omega arith) (λ e. omega arith)

  pub capped-most : (m : ℕ) → most ≤ m → capped formula m ≡ most
  capped-most m h = cond-true (leb most m) most (min (formula m) most) (le-leb most m h)

  capped_below : (m : ℕ) → m < most → capped formula m ≡ min (formula m) most
  capped_below m h = cond-false (leb most m) most (min (formula m) most) (lt-leb most m h)

  pub capped_grows : ((m n : ℕ) → m ≤ n → formula m ≤ formula n) → (m n : ℕ) → m ≤ n → capped formula m ≤ capped formula n
  capped_grows g m n h =
      elim (cases_lt n most) [
        | inl a ↦ omega (arith, g m n h, capped_below m (omega arith), capped_below n a)
        | inr a ↦ omega (arith, capped_stops m, capped-most n a)
      ]

  pub capped_claims : (m : ℕ) → capped formula m < most → formula m ≤ capped formula m
  capped_claims m h =
      elim (cases_lt m most) [
        | inl a ↦ omega (arith, capped_below m a)
        | inr a ↦ absurd (omega (arith, capped-most m a))
      ]
