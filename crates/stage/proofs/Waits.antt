-- What waits, by what the calls answer, and where it is the rest of a list from a place on.
use Rattle.std.proofs.Common.{◌≡◌, ℕ, ◌+◌, ◌<◌, ◌≤◌, false, ltb, List, [], ◌∷◌, length, get_or, drop, Some, None, Ok, Err, Option, sym, refl, ap, ◌∙◌, inl, inr, arith}
use Rattle.std.proofs.lemmas.List.{drop_more, drop_all}
use Rattle.std.proofs.lemmas.Bool.{cases_lt, lt-ltb, le-ltb}
use Rattle.stage.specs.declared.Fault.{Fault}
use Rattle.stage.specs.Model.{Heard, Receiving, silence, clean, some, some_fault, some_or, some_heard, first, others, fault_or, first_or, first_heard, collected}
use Rattle.stage.specs.Faultless.{clean_some, clean_first}
use Rattle.stage.proofs.Hearing.{hears}

-- A receiving side: whether something waits, and what a take answers.
nothing_in : (us : List ℕ) (o : Option Fault) → some_or us (some_fault o) ≡ false → hears us o ≡ silence
nothing_in [] None e = refl
nothing_in [] (Some f) e = let z : ◌≡◌ {A = ℕ} 0 1 = cc in absurd (omega arith)
nothing_in (u ∷ us) o e = let z : ◌≡◌ {A = ℕ} 0 1 = cc in absurd (omega arith)

pub nothing_heard : (h : Heard) → some_heard h ≡ false → h ≡ silence
nothing_heard h e = nothing_in h.units h.fault e

unit_in : (us : List ℕ) (o : Option Fault) (v : ℕ) → first_or us (fault_or o) ≡ Ok (Some v) → us ≡ v ∷ others us
unit_in [] None v e = let z : ◌≡◌ {A = ℕ} 0 1 = cc in absurd (omega arith)
unit_in [] (Some f) v e = let z : ◌≡◌ {A = ℕ} 0 1 = cc in absurd (omega arith)
unit_in (u ∷ us) o v e = cc

pub unit-heard : (h : Heard) (v : ℕ) → first_heard h ≡ Ok (Some v) → h.units ≡ v ∷ others h.units
unit-heard h v e = unit_in h.units h.fault v e

none_in : (us : List ℕ) (o : Option Fault) → first_or us (fault_or o) ≡ Ok None → hears us o ≡ silence
none_in [] None e = refl
none_in [] (Some f) e = let z : ◌≡◌ {A = ℕ} 0 1 = cc in absurd (omega arith)
none_in (u ∷ us) o e = let z : ◌≡◌ {A = ℕ} 0 1 = cc in absurd (omega arith)

pub none_heard : (h : Heard) → first_heard h ≡ Ok None → h ≡ silence
none_heard h e = none_in h.units h.fault e

fault_in : (us : List ℕ) (o : Option Fault) (f : Fault) → first_or us (fault_or o) ≡ Err f → hears us o ≡ hears [] (Some f)
fault_in [] None f e = let z : ◌≡◌ {A = ℕ} 0 1 = cc in absurd (omega arith)
fault_in [] (Some d) f e = cc
fault_in (u ∷ us) o f e = let z : ◌≡◌ {A = ℕ} 0 1 = cc in absurd (omega arith)

pub fault_heard : (h : Heard) (f : Fault) → first_heard h ≡ Err f → h ≡ hears [] (Some f)
fault_heard h f e = fault_in h.units h.fault f e

-- a take where no unit waits alters nothing
pub none_collected : (s : Receiving) → s.waits.units ≡ [] → collected s ≡ s
none_collected s p = λ i. record { waits = hears ((ap others p ∙ sym p) i) s.waits.fault; future = s.future }

-- A sending side answers as a receiving side without a fault.
pub none_waits : (ws : List ℕ) → some ws ≡ false → ws ≡ []
none_waits ws e = ap (λ h. h.units) (nothing_heard (clean ws) (clean_some ws ∙ e))

pub first_waits : (ws : List ℕ) (v : ℕ) → first ws ≡ Some v → ws ≡ v ∷ others ws
first_waits ws v e = unit-heard (clean ws) v (clean_first ws ∙ ap Ok e)

-- The rest of a list from a place on.
pub some-rest : (xs : List ℕ) (n at : ℕ) → length xs ≡ n → some (drop at xs) ≡ ltb at n
some-rest xs n at l =
    elim (cases_lt at n) [
      | inl h ↦ ap some (drop_more xs at 0 (omega arith)) ∙ sym (lt-ltb at n h)
      | inr h ↦ ap some (drop_all at xs (omega arith)) ∙ sym (le-ltb at n h)
    ]

pub next-rest : (xs : List ℕ) (n at : ℕ) → length xs ≡ n → at < n → drop at xs ≡ get_or xs at 0 ∷ drop (at + 1) xs
next-rest xs n at l h = drop_more xs at 0 (omega arith)

pub no_rest : (xs : List ℕ) (n at : ℕ) → length xs ≡ n → n ≤ at → drop at xs ≡ []
no_rest xs n at l h = drop_all at xs (omega arith)
