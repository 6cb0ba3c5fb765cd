-- What an upper part gives for what the lower part hands up to it.
use Rattle.std.proofs.Common.{◌≡◌, ℕ, Bool, true, false, ltb, List, [], ◌∷◌, ◌++◌, Some, None, Option, sym, refl, ap, ◌∙◌, ap₂}
use Rattle.stage.specs.declared.Fault.{Fault}
use Rattle.stage.specs.Model.{Heard, and_then, after_heard}
use Rattle.stage.specs.Rule.{Hears}
use Rattle.stage.specs.Piled.{fitting, keep_if, ending, or_misfit, misfit_at, hand_up}
use Rattle.stage.proofs.Hearing.{hears, then_assoc, then_silence, then_stopped, then_fault, hears_append}

-- Units us and then vs are handed up: what fits of them, and the fault that they end in.
data Ends (size g : ℕ) (us vs : List ℕ) (o : Option Fault) : Type 0 where
  all_fit : ending size g us None ≡ None → fitting g (us ++ vs) ≡ fitting g us ++ fitting g vs
      → ending size g (us ++ vs) o ≡ ending size g vs o → Ends size g us vs o
  one_not : (e : Fault) → ending size g us None ≡ Some e → fitting g (us ++ vs) ≡ fitting g us
      → ending size g (us ++ vs) o ≡ Some e → Ends size g us vs o

module _ (size g : ℕ) where
  ends_not : (u : ℕ) (us vs : List ℕ) (o : Option Fault) → ltb u g ≡ false → Ends size g (u ∷ us) vs o
  ends_not u us vs o p =
      one_not (misfit_at size)
      (ap (λ b. or_misfit b size (ending size g us None)) p)
      (ap (λ b. keep_if b u (fitting g (us ++ vs))) p ∙ sym (ap (λ b. keep_if b u (fitting g us)) p))
      (ap (λ b. or_misfit b size (ending size g (us ++ vs) o)) p)

  ends_more : (u : ℕ) (us vs : List ℕ) (o : Option Fault) (b : Bool) → ltb u g ≡ b → Ends size g us vs o → Ends size g (u ∷ us) vs o
  ends_more u us vs o true p (all_fit e f k) =
      all_fit
      (ap (λ b. or_misfit b size (ending size g us None)) p ∙ e)
      (ap (λ b. keep_if b u (fitting g (us ++ vs))) p ∙ ap (λ t. u ∷ t) f ∙ sym (ap (λ b. keep_if b u (fitting g us) ++ fitting g vs) p))
      (ap (λ b. or_misfit b size (ending size g (us ++ vs) o)) p ∙ k)
  ends_more u us vs o true p (one_not d e f k) =
      one_not d
      (ap (λ b. or_misfit b size (ending size g us None)) p ∙ e)
      (ap (λ b. keep_if b u (fitting g (us ++ vs))) p ∙ ap (λ t. u ∷ t) f ∙ sym (ap (λ b. keep_if b u (fitting g us)) p))
      (ap (λ b. or_misfit b size (ending size g (us ++ vs) o)) p ∙ k)
  ends_more u us vs o false p (all_fit e f k) = ends_not u us vs o p
  ends_more u us vs o false p (one_not d e f k) = ends_not u us vs o p

  ends : (us vs : List ℕ) (o : Option Fault) → Ends size g us vs o
  ends [] vs o = all_fit refl refl refl
  ends (u ∷ us) vs o = ends_more u us vs o (ltb u g) refl (ends us vs o)

  fault_lifted : (us : List ℕ) (f : Fault) → (e : Fault) × (ending size g us (Some f) ≡ Some e)
  fault_lifted [] f = (_, refl)
  fault_lifted (u ∷ us) f = by (ltb u g) (fault_lifted us f)
    where
      by : (b : Bool) → ((e : Fault) × (ending size g us (Some f) ≡ Some e)) → (e : Fault) × (or_misfit b size (ending size g us (Some f)) ≡ Some e)
      by true r = r
      by false r = (misfit_at size, refl)

  module _ {f : List ℕ → Heard} (s : Hears f) where
    pub hand_up_clean : (us : List ℕ) → ending size g us None ≡ None → hand_up size g f (hears us None) ≡ f (fitting g us)
    hand_up_clean us e = ap (λ o. and_then (f (fitting g us)) (hears [] o)) e ∙ then_silence (f (fitting g us))

    hand : (us : List ℕ) (o : Option Fault) (k : Heard)
        → hand_up size g f (and_then (hears us o) k) ≡ and_then (hand_up size g f (hears us o)) (hand_up size g (after_heard f (fitting g us)) k)
    hand us (Some d) k =
        let e = fault_lifted us d in
        let q = then_fault (f (fitting g us)) (hears [] (ending size g us (Some d))) e.0 e.1 in
        sym (then_stopped (hand_up size g f (hears us (Some d))) _ q.0 q.1)
    hand us None k =
        elim (ends us k.units k.fault) [
          | all_fit e t q ↦
              ap₂ (λ w o. and_then (f w) (hears [] o)) t q
              ∙ ap (λ h. and_then h (hears [] (ending size g k.units k.fault))) (hears_append s (fitting g us) (fitting g k.units))
              ∙ then_assoc (f (fitting g us)) (after_heard f (fitting g us) (fitting g k.units)) _
              ∙ ap (λ h. and_then h (hand_up size g (after_heard f (fitting g us)) k)) (sym (hand_up_clean us e))
          | one_not d e t q ↦
              let x = then_fault (f (fitting g us)) (hears [] (ending size g us None)) d e in
              ap₂ (λ w o. and_then (f w) (hears [] o)) t (q ∙ sym e)
              ∙ sym (then_stopped (hand_up size g f (hears us None)) _ x.0 x.1)
        ]

    -- h and then k are handed up
    pub hand_up_then : (h k : Heard) → hand_up size g f (and_then h k) ≡ and_then (hand_up size g f h) (hand_up size g (after_heard f (fitting g h.units)) k)
    hand_up_then h k = hand h.units h.fault k

    pub hand_up_hears : {l : List ℕ → Heard} → Hears l → Hears (λ ys. hand_up size g f (l ys))
    hand_up_hears {l} t = record {
      none = ap (hand_up size g f) t.none ∙ hand_up_clean [] refl ∙ s.none;
      grows = λ xs ys. let r = t.grows xs ys in (_, ap (hand_up size g f) r.1 ∙ hand_up_then (l xs) r.0);
    }
