-- What a receiving side gives for one list and then another.
use Rattle.std.proofs.Common.{◌≡◌, ℕ, List, [], ◌++◌, length, Some, None, Option, sym, refl, ap, ◌∙◌, ap₂, append_assoc, arith}
use Rattle.std.proofs.lemmas.List.{append-nil, drop_at}
use Rattle.stage.specs.declared.Fault.{Fault}
use Rattle.stage.specs.Model.{Heard, and_then, hushed, rest_of, silence, after_heard}
use Rattle.stage.specs.Rule.{Hears}

abbrev pub hears : List ℕ → Option Fault → Heard
hears us o = record { units = us; fault = o }

assoc : (us : List ℕ) (o : Option Fault) (vs : List ℕ) (p : Option Fault) (j : Heard)
    → and_then (and_then (hears us o) (hears vs p)) j ≡ and_then (hears us o) (and_then (hears vs p) j)
assoc us (Some f) vs p j = refl
assoc us None vs (Some f) j = refl
assoc us None vs None j = ap (λ ws. hears ws j.fault) (append_assoc us vs j.units)

pub then_assoc : (h k j : Heard) → and_then (and_then h k) j ≡ and_then h (and_then k j)
then_assoc h k j = assoc h.units h.fault k.units k.fault j

silent : (us : List ℕ) (o : Option Fault) → and_then (hears us o) silence ≡ hears us o
silent us (Some f) = refl
silent us None = ap (λ ws. hears ws None) (append-nil us)

pub then_silence : (h : Heard) → and_then h silence ≡ h
then_silence h = silent h.units h.fault

-- after a fault nothing comes
stopped : (us : List ℕ) (o : Option Fault) (f : Fault) (k : Heard) → o ≡ Some f → and_then (hears us o) k ≡ hears us o
stopped us (Some e) f k p = refl
stopped us None f k p = let z : ◌≡◌ {A = ℕ} 0 1 = cc in absurd (omega arith)

pub then_stopped : (h k : Heard) (f : Fault) → h.fault ≡ Some f → and_then h k ≡ h
then_stopped h k f p = stopped h.units h.fault f k p

-- what is left of h and then k
rest : (us : List ℕ) (o : Option Fault) (k : Heard) → o ≡ None → rest_of o us (and_then (hears us o) k) ≡ k
rest us None k p = ap (λ ws. hears ws k.fault) (drop_at us k.units (length us) refl)
rest us (Some f) k p = let z : ◌≡◌ {A = ℕ} 0 1 = cc in absurd (omega arith)

pub rest_then : (h k : Heard) → h.fault ≡ None → rest_of h.fault h.units (and_then h k) ≡ k
rest_then h k p = rest h.units h.fault k p

pub then_cancel : (h j k : Heard) → h.fault ≡ None → and_then h j ≡ and_then h k → j ≡ k
then_cancel h j k p e = sym (rest_then h j p) ∙ ap (rest_of h.fault h.units) e ∙ rest_then h k p

rejoined : (us : List ℕ) (o : Option Fault) (k w : Heard) → w ≡ and_then (hears us o) k → w ≡ and_then (hears us o) (rest_of o us w)
rejoined us (Some f) k w e = e
rejoined us None k w e = e ∙ ap (and_then (hears us None)) (sym (rest us None k refl) ∙ ap (rest_of None us) (sym e))

-- a fault that comes in the end is a fault of the whole
fault_of : (us : List ℕ) (o : Option Fault) (k : Heard) (e : Fault) → k.fault ≡ Some e → (d : Fault) × ((and_then (hears us o) k).fault ≡ Some d)
fault_of us (Some d) k e p = (d, refl)
fault_of us None k e p = (e, p)

pub then_fault : (h k : Heard) (e : Fault) → k.fault ≡ Some e → (d : Fault) × ((and_then h k).fault ≡ Some d)
then_fault h k e p = fault_of h.units h.fault k e p

-- what holds of each fault of h and of k holds of the one that ends both
one_fault : (P : Fault → Type 0) (us : List ℕ) (o : Option Fault) (k : Heard) → ((f : Fault) → o ≡ Some f → P f)
    → ((f : Fault) → k.fault ≡ Some f → P f) → (f : Fault) → (and_then (hears us o) k).fault ≡ Some f → P f
one_fault P us None k p q f e = q f e
one_fault P us (Some d) k p q f e = p f e

pub then_faults : (P : Fault → Type 0) (h k : Heard) → ((f : Fault) → h.fault ≡ Some f → P f)
    → ((f : Fault) → k.fault ≡ Some f → P f) → (f : Fault) → (and_then h k).fault ≡ Some f → P f
then_faults P h k p q f e = one_fault P h.units h.fault k p q f e

-- silence after a fault
pub rest-hushed : (us : List ℕ) (o : Option Fault) (k : Heard) → rest_of o us (and_then (hears us o) k) ≡ hushed o k
rest-hushed us None k = rest us None k refl
rest-hushed us (Some e) k = refl

pub hushed_hears : (o : Option Fault) {f : List ℕ → Heard} → Hears f → Hears (λ ys. hushed o (f ys))
hushed_hears None s = s
hushed_hears (Some e) s = record { none = refl; grows = λ xs ys. (silence, refl) }

module _ {f : List ℕ → Heard} (s : Hears f) where
  -- one list and then another
  pub hears_append : (xs ys : List ℕ) → f (xs ++ ys) ≡ and_then (f xs) (after_heard f xs ys)
  hears_append xs ys = let g = s.grows xs ys in rejoined (f xs).units (f xs).fault g.0 (f (xs ++ ys)) g.1

  pub after_nothing_heard : (ys : List ℕ) → after_heard f [] ys ≡ f ys
  after_nothing_heard ys = ap (λ h. rest_of h.fault h.units (f ys)) s.none

  -- by whether f has given a fault for xs
  stopped_after : (xs ys : List ℕ) (e : Fault) → (f xs).fault ≡ Some e → after_heard f xs ys ≡ silence
  stopped_after xs ys e p = ap (λ o. rest_of o (f xs).units (f (xs ++ ys))) p

  by_fault : (C : Type 0) (o : Option Fault) → (o ≡ None → C) → ((e : Fault) → o ≡ Some e → C) → C
  by_fault C None n k = n refl
  by_fault C (Some e) n k = k e refl

  none_after : (xs : List ℕ) → after_heard f xs [] ≡ silence
  none_after xs =
      by_fault _ (f xs).fault
      (λ p. then_cancel (f xs) (after_heard f xs []) silence p (sym (hears_append xs []) ∙ ap f (append-nil xs) ∙ sym (then_silence (f xs))))
      (stopped_after xs [])

  pub after-append : (xs ys zs : List ℕ) → after_heard f xs (ys ++ zs) ≡ and_then (after_heard f xs ys) (after_heard f (xs ++ ys) zs)
  after-append xs ys zs =
      by_fault _ (f xs).fault
      (λ p. then_cancel (f xs) _ _ p
      (sym (hears_append xs (ys ++ zs)) ∙ ap f (sym (append_assoc xs ys zs)) ∙ hears_append (xs ++ ys) zs
      ∙ ap (λ h. and_then h (after_heard f (xs ++ ys) zs)) (hears_append xs ys)
      ∙ then_assoc (f xs) (after_heard f xs ys) (after_heard f (xs ++ ys) zs)))
      (λ e p.
      let q : (f (xs ++ ys)).fault ≡ Some e = ap (λ h. h.fault) (hears_append xs ys ∙ then_stopped (f xs) _ e p) ∙ p in
      stopped_after xs (ys ++ zs) e p
      ∙ ap₂ and_then (sym (stopped_after xs ys e p)) (sym (stopped_after (xs ++ ys) zs e q)))

  pub after_hears : (xs : List ℕ) → Hears (after_heard f xs)
  after_hears xs = record { none = none_after xs; grows = λ ys zs. (after_heard f (xs ++ ys) zs, after-append xs ys zs) }

  pub after-after-heard : (xs ys zs : List ℕ) → after_heard (after_heard f xs) ys zs ≡ after_heard f (xs ++ ys) zs
  after-after-heard xs ys zs =
      let a = after_heard f xs ys in
      by_fault _ a.fault
      (λ p. ap (rest_of a.fault a.units) (after-append xs ys zs) ∙ rest_then a (after_heard f (xs ++ ys) zs) p)
      (λ e p.
      let q = then_fault (f xs) a e p in
      ap (λ o. rest_of o a.units (after_heard f xs (ys ++ zs))) p
      ∙ sym (stopped_after (xs ++ ys) zs q.0 (ap (λ h. h.fault) (hears_append xs ys) ∙ q.1)))
