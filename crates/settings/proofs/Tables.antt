-- The tables of codes: a value stands at its code, and where none stands is the refusal.
use Rattle.std.proofs.Common.{◌≡◌, ℕ, zero, suc, ◌+◌, ◌⊎◌, List, [], ◌∷◌, Ok, Err, sym, refl, ap, inl, inr, arith}
use Rattle.refusal.specs.declared.Refusal.{Refusal}
use Rattle.settings.specs.Coded.{value_at, Coded}

-- the values from i on stand in the order of their codes
abbrev pub InOrder : {X : Type 0} → (X → ℕ) → ℕ → List X → Type 0
InOrder code i [] = Unit {0}
InOrder code i (x ∷ xs) = (code x ≡ i) × InOrder code (suc i) xs

-- what stands at a place: nothing, or a value with that code
stands : {X : Type 0} (code : X → ℕ) (xs : List X) (r : Refusal) (i n : ℕ) → InOrder code i xs
    → (value_at xs r n ≡ Err r) ⊎ ((x : X) × (value_at xs r n ≡ Ok x) × (code x ≡ i + n))
stands code [] r i n h = inl refl
stands code (x ∷ xs) r i zero h = inr (x, refl, omega (arith, h.0))
stands code (x ∷ xs) r i (suc n) h =
    elim (stands code xs r (suc i) n h.1) [
      | inl e ↦ inl e
      | inr (y, e, k) ↦ inr (y, e, omega arith)
    ]

pub coded : {X : Type 0} (code : X → ℕ) (xs : List X) (r : Refusal) → InOrder code 0 xs
    → ((x : X) → value_at xs r (code x) ≡ Ok x) → Coded code (value_at xs r) r
coded {X} code xs r h back = record {
  back = back;
  only = λ n x e. elim (stands code xs r 0 n h) [
    | inl no_value ↦ let z : ◌≡◌ {A = ℕ} 0 1 = cc in absurd (omega arith)
    | inr (y, f, k) ↦ let same : y ≡ x = cc in let e : code x ≡ code y = ap code (sym same) in omega arith
  ];
  none = λ n other. elim (stands code xs r 0 n h) [
    | inl e ↦ e
    | inr (y, f, k) ↦ absurd (other y (omega arith))
  ];
}
