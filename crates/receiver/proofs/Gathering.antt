-- A unit is gathered from the pile: nothing of what the receiver holds alters.
use Rattle.std.proofs.Common.{◌≡◌, ℕ, ◌<◌, ◌≤◌, Bool, true, false, cond, eqb, List, [], ◌∷◌, ◌++◌, length, Some, Ok, Err, Result, sym, ap, ◌∙◌, ap₂, arith, length-append}
use Rattle.std.proofs.lemmas.List.{append_assoc}
use Rattle.std.proofs.lemmas.Bool.{lt-ltb, le-ltb, eqb-true, eqb-false}
use Rattle.stage.specs.declared.Fault.{Fault}
use Rattle.stage.specs.Model.{Heard, Receiving, others, first_heard, collected, silence}
use Rattle.stage.proofs.Waits.{unit-heard, fault_heard}
use Rattle.receiver.specs.View.{held, found, none_or}

pub gathered-on : (s s' : Receiving) (us us' : List ℕ) (v : ℕ) → first_heard s.waits ≡ Ok (Some v) → s' ≡ collected s → us' ≡ us ++ v ∷ []
    → held us' s' ≡ held us s
gathered-on s s' us us' v e q p =
    let w : (us ++ v ∷ []) ++ others s.waits.units ≡ us ++ s.waits.units =
    append_assoc us (v ∷ []) (others s.waits.units) ∙ ap (λ r. us ++ r) (sym (unit-heard s.waits v e)) in
    ap₂ held p q ∙ (λ i. record { waits = record { units = w i; fault = s.waits.fault }; future = s.future })

-- a take that answers a fault alters nothing
pub fault_collected : (s : Receiving) (f : Fault) → first_heard s.waits ≡ Err f → collected s ≡ s
fault_collected s f e =
    let p = fault_heard s.waits f e in
    λ i. record { waits = (ap {B = Heard} (λ h. record { units = others h.units; fault = h.fault }) p ∙ sym p) i; future = s.future }

-- a packet is not whole
short : (us : List ℕ) (h : Heard) → length us < 188 → h.units ≡ [] → found (record { units = us ++ h.units; fault = h.fault }) ≡ none_or h.fault
short us h l e =
    let k : length (us ++ h.units) < 188 = omega (arith, length-append us h.units, ap length e) in
    ap (λ b. cond b (none_or h.fault) (Ok true)) (lt-ltb (length (us ++ h.units)) 188 k)

pub not_full : (us : List ℕ) (b : Bool) → b ≡ eqb (length us) 188 → length us ≤ 188 → b ≡ false → length us < 188
not_full us b e l f = let n = eqb-false (length us) 188 (sym e ∙ f) in omega (arith, n)

pub full : (us : List ℕ) (b : Bool) → b ≡ eqb (length us) 188 → b ≡ true → length us ≡ 188
full us b e t = eqb-true (length us) 188 (sym e ∙ t)

pub found_none : (us : List ℕ) (h : Heard) → length us < 188 → h ≡ silence → found (record { units = us ++ h.units; fault = h.fault }) ≡ Ok false
found_none us h l e = short us h l (ap (λ h. h.units) e) ∙ ap (λ h. none_or h.fault) e

pub found_fault : (us : List ℕ) (h : Heard) (f : Fault) → length us < 188 → first_heard h ≡ Err f
    → found (record { units = us ++ h.units; fault = h.fault }) ≡ Err f
found_fault us h f l e = let p = fault_heard h f e in short us h l (ap (λ h. h.units) p) ∙ ap (λ h. none_or h.fault) p

pub found_whole : (us : List ℕ) (h : Heard) → 188 ≤ length us → found (record { units = us ++ h.units; fault = h.fault }) ≡ Ok true
found_whole us h l =
    let k : 188 ≤ length (us ++ h.units) = omega (arith, length-append us h.units) in
    ap (λ b. cond b (none_or h.fault) (Ok true)) (le-ltb (length (us ++ h.units)) 188 k)

pub not_ok : {X : Type 0} {b : Bool} {f : Fault} → ◌≡◌ {A = Result Bool Fault} (Err f) (Ok b) → X
not_ok e = let z : ◌≡◌ {A = ℕ} 0 1 = cc in absurd (omega arith)

pub not_both : {X : Type 0} → ◌≡◌ {A = Result Bool Fault} (Ok false) (Ok true) → X
not_both e = let z : ◌≡◌ {A = ℕ} 0 1 = cc in absurd (omega arith)
