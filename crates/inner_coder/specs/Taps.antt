-- The outputs by the bits of the register: tests that antt computes at every register.
use Rattle.std.specs.Prelude.{◌≡◌, ℕ, ◌+◌, ◌*◌, ◌/◌, ◌%◌, ◌<◌, Bool, T, ◌⊎◌, ◌==◌, ◌≢◌}
use Rattle.std.specs.Int.Count.{ones}
use Rattle.std.proofs.Common.{eqb→eq, inl, inr, ap₂, ◌∙◌, arith}
use Rattle.std.proofs.lemmas.Bool.{eqb-true, eqb-false, cond_both, cases_eq}
use Rattle.inner_coder.specs.declared.puncturing.Sent.{Sent}
use Rattle.inner_coder.specs.declared.puncturing.Sent.TheVariants.{Both, X, Y}
use Rattle.inner_coder.specs.Convolution.{x_of, y_of, first_of, differ}
use Rattle.computed.proofs.Everywhere.{every, at}

abbrev x_sums : ℕ → Bool
x_sums r = x_of r == (r / 64 + r / 32 + r / 16 + r / 8 + r) % 2

abbrev y_sums : ℕ → Bool
y_sums r = y_of r == (r / 64 + r / 16 + r / 8 + r / 2 + r) % 2

all_x : T (every x_sums 128)
unfolding ones
all_x = tt

all_y : T (every y_sums 128)
unfolding ones
all_y = tt

pub x_is : (r : ℕ) → r < 128 → x_of r ≡ (r / 64 + r / 32 + r / 16 + r / 8 + r) % 2
x_is r h = eqb→eq (x_of r) ((r / 64 + r / 32 + r / 16 + r / 8 + r) % 2) (at x_sums 128 all_x r h)

pub y_is : (r : ℕ) → r < 128 → y_of r ≡ (r / 64 + r / 16 + r / 8 + r / 2 + r) % 2
y_is r h = eqb→eq (y_of r) ((r / 64 + r / 16 + r / 8 + r / 2 + r) % 2) (at y_sums 128 all_y r h)

-- the input turns the first unit, be it X or Y
module _ (sent : Sent) where
  abbrev turns : ℕ → Bool
  turns r = first_of sent r == (r / 64 + first_of sent (r % 64)) % 2

all_turns : (sent : Sent) → T (every (turns sent) 128)
unfolding ones
all_turns Both = tt
all_turns X = tt
all_turns Y = tt

first_below : (sent : Sent) (r : ℕ) → first_of sent r < 2
first_below Both r = omega arith
first_below X r = omega arith
first_below Y r = omega arith

told : (b u v : ℕ) → b < 2 → v < 2 → u ≡ (b + v) % 2 → differ u v ≡ b
told b u v h k e = cond_both (u == v) 0 1 (λ d. d ≡ b) (λ p. omega (arith, eqb-true u v p)) (λ p. other (cases_eq b 0) (eqb-false u v p))
  where
    other : (b ≡ 0) ⊎ (b ≢ 0) → (u ≢ v) → 1 ≡ b
    other (inl z) ne = absurd (ne (omega arith))
    other (inr z) ne = omega arith

-- the bit of a first unit
module _ (sent : Sent) (b e : ℕ) (h : b < 2) (k : e < 64) where
  high : (64 * b + e) / 64 ≡ b
  high = omega arith

  low : (64 * b + e) % 64 ≡ e
  low = omega arith

  turned : first_of sent (64 * b + e) ≡ (b + first_of sent e) % 2
  turned =
      eqb→eq (first_of sent (64 * b + e)) (((64 * b + e) / 64 + first_of sent ((64 * b + e) % 64)) % 2) (at (turns sent) 128 (all_turns sent) (64 * b + e) (omega arith))
      ∙ ap₂ (λ q m. (q + first_of sent m) % 2) high low

  pub first_tells : differ (first_of sent (64 * b + e)) (first_of sent e) ≡ b
  first_tells = told b (first_of sent (64 * b + e)) (first_of sent e) h (first_below sent e) turned
