-- The register holds the last seven bits, so what is sent is what is published.
use Rattle.std.proofs.Common.{◌≡◌, ℕ, suc, ◌+◌, ◌-◌, ◌*◌, ◌/◌, ◌%◌, ◌<◌, eqb, leb, List, [], ◌∷◌, ◌++◌, reverse, length, get_or, sym, refl, ap, ◌∙◌, ap₂, inl, inr, append_assoc, mod-lt, mod-eq_of_lt, arith, lit≤}
use lib.Count.{ones}
use native.Mathlib.Nat.{mod-add-mod, mod_self, zero-mod}
use Rattle.std.proofs.ByRecursion.{All-get_or}
use Rattle.std.proofs.lemmas.List.{get_or_append_left, get_or_at, get_or_past, get_or-reverse, length-reverse, reverse-append}
use Rattle.std.proofs.lemmas.Bool.{cases_lt, cond-true, cond-false, cond_both, eqb-true, eqb-false, le-leb, lt-leb}
use Rattle.std.specs.List.{flat_map, range_with_len}
use Rattle.stage.specs.Rule.{Under}
use Rattle.settings.specs.declared.rate.Rate.{Rate}
use Rattle.settings.specs.declared.rate.Rate.TheVariants.{Half, TwoThirds, ThreeQuarters, FiveSixths, SevenEighths}
use Rattle.inner_coder.specs.declared.puncturing.Sent.{Sent}
use Rattle.inner_coder.specs.declared.puncturing.Sent.TheVariants.{Both, X, Y}
use Rattle.inner_coder.specs.Puncturing.{sent_at, onward, period}
use Rattle.inner_coder.specs.Convolution.{x_of, y_of, shifted, emitted, coded}
use Rattle.inner_coder.specs.Published.{ago, x_at, y_at, chosen, units_at, SendsPublished}
use Rattle.inner_coder.specs.Vectors.{InnerVectors}
use Rattle.inner_coder.specs.Taps.{x_is, y_is}

-- The bits so far stand in hs, the last one first.
abbrev bit : List ℕ → ℕ → ℕ
bit hs j = get_or hs j 0

-- the register after them
abbrev packed : List ℕ → ℕ
packed hs = 64 * bit hs 0 + 32 * bit hs 1 + 16 * bit hs 2 + 8 * bit hs 3 + 4 * bit hs 4 + 2 * bit hs 5 + bit hs 6

even_off : (s q : ℕ) → (s + 2 * q) % 2 ≡ s % 2
even_off s q = omega arith

bit_below : (hs : List ℕ) (j : ℕ) → Under 2 hs → bit hs j < 2
bit_below hs j h =
    elim (cases_lt j (length hs)) [
      | inl l ↦ All-get_or (λ x. x < 2) hs j 0 l h
      | inr g ↦ rw (get_or_past hs j 0 g) (omega arith)
    ]

-- what the tests on a register say by its bits
module _ (b c d e f g h : ℕ) (k : (b < 2) × (c < 2) × (d < 2) × (e < 2) × (f < 2) × (g < 2) × (h < 2)) where
  abbrev r : ℕ
  r = 64 * b + 32 * c + 16 * d + 8 * e + 4 * f + 2 * g + h

  r_below : r < 128
  r_below = omega arith

  at_64 : r / 64 ≡ b
  at_64 = omega arith

  at_32 : r / 32 ≡ 2 * b + c
  at_32 = omega arith

  at_16 : r / 16 ≡ 4 * b + 2 * c + d
  at_16 = omega arith

  at_8 : r / 8 ≡ 8 * b + 4 * c + 2 * d + e
  at_8 = omega arith

  at_2 : r / 2 ≡ 32 * b + 16 * c + 8 * d + 4 * e + 2 * f + g
  at_2 = omega arith

  x_by_bits : x_of r ≡ (b + c + d + e + h) % 2
  x_by_bits =
      x_is r r_below
      ∙ ap (λ (m : ℕ). m % 2) (omega (arith, at_64, at_32, at_16, at_8))
      ∙ even_off (b + c + d + e + h) (39 * b + 19 * c + 9 * d + 4 * e + 2 * f + g)

  y_by_bits : y_of r ≡ (b + d + e + g + h) % 2
  y_by_bits =
      y_is r r_below
      ∙ ap (λ (m : ℕ). m % 2) (omega (arith, at_64, at_16, at_8, at_2))
      ∙ even_off (b + d + e + g + h) (54 * b + 27 * c + 13 * d + 6 * e + 3 * f + g)

module _ (b : ℕ) (hs vs : List ℕ) where
  abbrev whole : List ℕ
  whole = reverse hs ++ b ∷ vs

  ago_now : ago whole (length hs) 0 ≡ b
  ago_now =
      cond-true (leb 0 (length hs)) (get_or whole (length hs - 0) 0) 0 (le-leb 0 (length hs) (omega arith))
      ∙ get_or_at (reverse hs) b vs 0 (length hs - 0) (length-reverse hs ∙ omega arith)

  ago-before : (j : ℕ) → ago whole (length hs) (suc j) ≡ bit hs j
  ago-before j =
      elim (cases_lt j (length hs)) [
        | inl l ↦
            cond-true (leb (suc j) (length hs)) (get_or whole (length hs - suc j) 0) 0 (le-leb (suc j) (length hs) l)
            ∙ get_or_append_left (reverse hs) (b ∷ vs) 0 (length hs - suc j) (simp length-reverse (omega arith))
            ∙ get_or-reverse hs (length hs - suc j) 0 (omega arith)
            ∙ ap (λ n. get_or hs n 0) (let e : length hs - 1 - (length hs - suc j) ≡ j = omega arith in e)
        | inr g ↦ cond-false (leb (suc j) (length hs)) (get_or whole (length hs - suc j) 0) 0 (lt-leb (suc j) (length hs) (omega arith)) ∙ sym (get_or_past hs j 0 g)
      ]

  module _ (small : b < 2) (bits : Under 2 hs) where
    below : (j : ℕ) → bit hs j < 2
    below j = bit_below hs j bits

    packed_more : shifted (packed hs) b ≡ packed (b ∷ hs)
    packed_more = omega (arith, below 0, below 1, below 2, below 3, below 4, below 5, below 6)

    all_below : (b < 2) × (bit hs 0 < 2) × (bit hs 1 < 2) × (bit hs 2 < 2) × (bit hs 3 < 2) × (bit hs 4 < 2) × (bit hs 5 < 2)
    all_below = (small, below 0, below 1, below 2, below 3, below 4, below 5)

    x_published : x_of (packed (b ∷ hs)) ≡ x_at whole (length hs)
    x_published =
        x_by_bits b (bit hs 0) (bit hs 1) (bit hs 2) (bit hs 3) (bit hs 4) (bit hs 5) all_below
        ∙ ap (λ (m : ℕ). m % 2) (omega (arith, ago_now, ago-before 0, ago-before 1, ago-before 2, ago-before 5))

    y_published : y_of (packed (b ∷ hs)) ≡ y_at whole (length hs)
    y_published =
        y_by_bits b (bit hs 0) (bit hs 1) (bit hs 2) (bit hs 3) (bit hs 4) (bit hs 5) all_below
        ∙ ap (λ (m : ℕ). m % 2) (omega (arith, ago_now, ago-before 1, ago-before 2, ago-before 4, ago-before 5))

chosen_is : (sent : Sent) (r x y : ℕ) → x_of r ≡ x → y_of r ≡ y → emitted sent r ≡ chosen sent x y
chosen_is Both r x y p q = ap₂ (λ (a b : ℕ). a ∷ b ∷ []) p q
chosen_is X r x y p q = ap (λ (a : ℕ). a ∷ []) p
chosen_is Y r x y p q = ap (λ (a : ℕ). a ∷ []) q

-- the period runs on
period-some : (rate : Rate) → 0 < period rate
period-some Half = lit≤ tt
period-some TwoThirds = lit≤ tt
period-some ThreeQuarters = lit≤ tt
period-some FiveSixths = lit≤ tt
period-some SevenEighths = lit≤ tt

onward-mod : (n p : ℕ) → 0 < p → onward p (n % p) ≡ (n + 1) % p
onward-mod n p h =
    let below : n % p < p = mod-lt n h in
    cond_both (eqb (n % p + 1) p) 0 (n % p + 1) (λ k. k ≡ (n % p + 1) % p)
    (λ e. sym (ap (λ k. k % p) (eqb-true (n % p + 1) p e) ∙ mod_self p))
    (λ e. let ne = eqb-false (n % p + 1) p e in sym (mod-eq_of_lt (omega (arith, below, ne))))
    ∙ mod-add-mod n p 1

module _ (rate : Rate) where
  from : (hs vs : List ℕ) → Under 2 hs → Under 2 vs
      → coded rate (record { phase = length hs % period rate; register = packed hs }) vs ≡ flat_map (units_at rate (reverse hs ++ vs)) (range_with_len (length hs) (length vs))
  from hs [] h k = refl
  from hs (b ∷ vs) h k =
      let n = length hs in
      let r : shifted (packed hs) b ≡ packed (b ∷ hs) = packed_more b hs vs k.0 h in
      let p : onward (period rate) (n % period rate) ≡ length (b ∷ hs) % period rate = onward-mod n (period rate) (period-some rate) ∙ ap (λ m. m % period rate) (omega arith) in
      let w : reverse (b ∷ hs) ++ vs ≡ reverse hs ++ b ∷ vs = ap (λ us. us ++ vs) (reverse-append (b ∷ []) hs) ∙ append_assoc (reverse hs) (b ∷ []) vs in
      let rest : coded rate (record { phase = length (b ∷ hs) % period rate; register = packed (b ∷ hs) }) vs
      ≡ flat_map (units_at rate (reverse hs ++ b ∷ vs)) (range_with_len (n + 1) (length vs)) =
      from (b ∷ hs) vs (k.0, h) k.1 ∙ ap₂ (λ us m. flat_map (units_at rate us) (range_with_len m (length vs))) w (omega arith) in
      ap₂ ◌++◌
      (ap (emitted (sent_at rate (n % period rate))) r
      ∙ chosen_is (sent_at rate (n % period rate)) (packed (b ∷ hs)) (x_at (reverse hs ++ b ∷ vs) n) (y_at (reverse hs ++ b ∷ vs) n)
      (x_published b hs vs k.0 h) (y_published b hs vs k.0 h))
      (ap₂ (λ q s. coded rate (record { phase = q; register = s }) vs) p r ∙ rest)

pub sends_published : SendsPublished
sends_published rate bs h = ap (λ p. coded rate (record { phase = p; register = 0 }) bs) (sym (zero-mod (period rate))) ∙ from rate [] bs tt h

pub inner_vectors_lem : InnerVectors
unfolding ones
inner_vectors_lem = record { half = refl; three_quarters = refl }
