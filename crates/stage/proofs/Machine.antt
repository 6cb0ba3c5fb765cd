-- A side by a state has a future as the stage rule wants it, and an offer goes on to the next state's future.
use Rattle.std.proofs.Common.{◌≡◌, ℕ, ◌<◌, false, ltb, List, [], ◌∷◌, ◌++◌, length, drop, Some, sym, refl, ap, ◌∙◌, append_assoc}
use Rattle.std.proofs.lemmas.List.{append-nil, drop_at}
use Rattle.std.proofs.lemmas.Bool.{lt-ltb}
use Rattle.stage.specs.declared.Fault.{Fault}
use Rattle.stage.specs.Model.{Heard, silence, and_then, hushed, rest_of, after_heard, offered, heard}
use Rattle.stage.specs.Rule.{Sends, Hears}
use Rattle.stage.specs.Machine.{gives, hears_from, state_from}
use Rattle.stage.specs.Faultless.{no_fault}
use Rattle.stage.proofs.Hearing.{then_assoc, then_silence, then_faults, rest-hushed}

module _ {S : Type 0} (out : S → ℕ → List ℕ) (next : S → ℕ → S) where
  pub gives_append : (s : S) (xs ys : List ℕ) → gives out next s (xs ++ ys) ≡ gives out next s xs ++ gives out next (state_from next s xs) ys
  gives_append s [] ys = refl
  gives_append s (x ∷ xs) ys =
      ap (λ (w : List ℕ). out s x ++ w) (gives_append (next s x) xs ys)
      ∙ sym (append_assoc (out s x) (gives out next (next s x) xs) (gives out next (state_from next (next s x) xs) ys))

  pub gives_sends : (s : S) → Sends (gives out next s)
  gives_sends s = record { none = refl; grows = λ xs ys. (gives out next (state_from next s xs) ys, gives_append s xs ys) }

  -- an offer where nothing waits
  pub gives_offered : (s : S) (u n : ℕ) → u < n
      → offered (ltb u n) false (record { waits = []; future = gives out next s }) u ≡ record { waits = out s u; future = gives out next (next s u) }
  gives_offered s u n h =
      let w : out s u ++ [] ≡ out s u = append-nil (out s u) in
      let later : (ys : List ℕ) → drop (length (out s u ++ [])) (out s u ++ gives out next (next s u) ys) ≡ gives out next (next s u) ys =
      λ ys. drop_at (out s u) (gives out next (next s u) ys) (length (out s u ++ [])) (sym (ap length w)) in
      ap (λ fits. offered fits false (record { waits = []; future = gives out next s }) u) (lt-ltb u n h)
      ∙ (λ i. record { waits = w i; future = λ ys. later ys i })

module _ {S : Type 0} (out : S → ℕ → Heard) (next : S → ℕ → S) where
  pub hears_from_append : (s : S) (xs ys : List ℕ)
      → hears_from out next s (xs ++ ys) ≡ and_then (hears_from out next s xs) (hears_from out next (state_from next s xs) ys)
  hears_from_append s [] ys = refl
  hears_from_append s (x ∷ xs) ys =
      ap (and_then (out s x)) (hears_from_append (next s x) xs ys)
      ∙ sym (then_assoc (out s x) (hears_from out next (next s x) xs) (hears_from out next (state_from next (next s x) xs) ys))

  pub hears_from_hears : (s : S) → Hears (hears_from out next s)
  hears_from_hears s = record { none = refl; grows = λ xs ys. (hears_from out next (state_from next s xs) ys, hears_from_append s xs ys) }

  -- what holds of each fault that a unit brings holds of every fault
  pub hears_from_faults : (P : Fault → Type 0) → ((s : S) (u : ℕ) (f : Fault) → (out s u).fault ≡ Some f → P f)
      → (s : S) (ys : List ℕ) (f : Fault) → (hears_from out next s ys).fault ≡ Some f → P f
  hears_from_faults P h s [] f e = no_fault P f e
  hears_from_faults P h s (y ∷ ys) f e =
      then_faults P (out s y) (hears_from out next (next s y) ys) (h s y) (hears_from_faults P h (next s y) ys) f e

  -- an offer where nothing waits: a unit that brings a fault is the last
  pub hears_from_heard : (s : S) (u n : ℕ) → u < n
      → heard (ltb u n) false (record { waits = silence; future = hears_from out next s }) u
      ≡ record { waits = out s u; future = λ ys. hushed (out s u).fault (hears_from out next (next s u) ys) }
  hears_from_heard s u n h =
      let w : and_then (out s u) silence ≡ out s u = then_silence (out s u) in
      let later : (ys : List ℕ) → after_heard (hears_from out next s) (u ∷ []) ys ≡ hushed (out s u).fault (hears_from out next (next s u) ys) =
      λ ys. ap (λ (h : Heard). rest_of h.fault h.units (and_then (out s u) (hears_from out next (next s u) ys))) w
      ∙ rest-hushed (out s u).units (out s u).fault (hears_from out next (next s u) ys) in
      ap (λ fits. heard fits false (record { waits = silence; future = hears_from out next s }) u) (lt-ltb u n h)
      ∙ (λ i. record { waits = w i; future = λ ys. later ys i })
