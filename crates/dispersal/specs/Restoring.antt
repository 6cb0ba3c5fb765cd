-- Energy dispersal keeps the stage rule: combined twice, a byte is what it was.
use Rattle.std.specs.Prelude.{◌≡◌, ℕ, zero, suc, ◌+◌, ◌-◌, ◌%◌, ◌<◌, ◌≤◌, List, [], ◌∷◌, length, take, drop, bit_xor, slice_index, refl}
use Rattle.std.proofs.lemmas.Nat.{xor_lt}
use Rattle.std.specs.Int.Bits.{xor_assoc, xor_self, xor_zero_r}
use Rattle.std.proofs.Common.{lit≤, length-take, take-append-drop, inr, sym, ap, ap₂, subst, ◌∙◌, arith}
use Rattle.std.proofs.Math.Nat.{mod-add-mod}
use Rattle.stage.specs.Machine.{gives}
use Rattle.stage.specs.Model.{clean}
use Rattle.stage.specs.Rule.{Rule, Under, Back, Numbered}
use Rattle.stage.specs.Faultless.{clean_hears, no_fault}
use Rattle.holds.proofs.Capped.{capped_stops, capped-most, capped_grows, capped_claims}
use Rattle.stage.proofs.Machine.{gives_sends}
use Rattle.dispersal.specs.EnergyDispersal.{combined, onward, energy_dispersal, SendsDispersed}
use Rattle.dispersal.specs.Noise.{mask}
use Rattle.dispersal.specs.Masks.{mask_byte}

abbrev dispersed : ℕ → List ℕ → List ℕ
dispersed = gives combined onward

bytes : (k : ℕ) (xs : List ℕ) → Under 256 xs → Under 256 (dispersed k xs)
bytes k [] h = tt
bytes k (x ∷ xs) h = (xor_lt 8 x (mask k) h.0 (mask_byte k), bytes (onward k x) xs h.1)

as_many : (k : ℕ) (xs : List ℕ) → length (dispersed k xs) ≡ length xs
as_many k [] = refl
as_many k (x ∷ xs) = ap suc (as_many (onward k x) xs)

again : (x m : ℕ) → bit_xor (bit_xor x m) m ≡ x
again x m = xor_assoc x m m ∙ ap (bit_xor x) (xor_self m) ∙ xor_zero_r x

restored : (k n : ℕ) (xs : List ℕ) → dispersed k (take n (dispersed k xs)) ≡ take n xs
restored k zero xs = refl
restored k (suc n) [] = refl
restored k (suc n) (x ∷ xs) = ap₂ (λ y ys. y ∷ ys) (again x (mask k)) (restored (onward k x) n xs)

law : (xs : List ℕ) (m : ℕ) → m ≤ length (dispersed 0 xs)
    → Back energy_dispersal xs m (clean (dispersed 0 (take (length (dispersed 0 xs) - m) (dispersed 0 xs))))
law xs m k =
    let n : ℕ = length (dispersed 0 xs) - m in
    let many : length (dispersed 0 xs) ≡ length xs = as_many 0 xs in
    subst (λ us. Back energy_dispersal xs m (clean us)) (sym (restored 0 n xs))
    (record {
      clean = refl;
      begins = (drop n xs, sym (take-append-drop n xs));
      within = λ below. simp length-take (omega (arith, capped_claims (λ m. m) m below));
    })

pub dispersal_rule : Rule energy_dispersal
dispersal_rule = record {
  taken_is = inr (8, lit≤ tt, lit≤ tt, refl);
  given_is = inr (8, lit≤ tt, lit≤ tt, refl);
  size_some = lit≤ tt;
  size_stops = lit≤ tt;
  hold_stops = capped_stops (λ m. m);
  hold_grows = capped_grows (λ m. m) (λ m n h. h);
  hold_most = capped-most (λ m. m);
  sends_grow = gives_sends combined onward 0;
  hears_grow = clean_hears (gives_sends combined onward 0);
  sends_under = bytes 0;
  hears_under = bytes 0;
  faults_numbered = λ ys. no_fault (Numbered 1);
  law = λ xs m h k. law xs m k;
}

at : (k t : ℕ) (xs : List ℕ) → t < length xs → slice_index (dispersed (k % 1504) xs) t ≡ bit_xor (slice_index xs t) (mask ((k + t) % 1504))
at k t [] h = absurd (omega arith)
at k zero (x ∷ xs) h = let e : k ≡ k + 0 = omega arith in ap (λ p. bit_xor x (mask (p % 1504))) e
at k (suc t) (x ∷ xs) h =
    let e : k + 1 + t ≡ k + suc t = omega arith in
    ap (λ p. slice_index (dispersed p xs) t) (mod-add-mod k 1504 1)
    ∙ at (k + 1) t xs (omega arith)
    ∙ ap (λ p. bit_xor (slice_index xs t) (mask (p % 1504))) e

pub sends_dispersed_lem : SendsDispersed
sends_dispersed_lem = record {
  as_many = as_many 0;
  at = λ xs t h. let e : 0 + t ≡ t = omega arith in at 0 t xs h ∙ ap (λ p. bit_xor (slice_index xs t) (mask (p % 1504))) e;
}
