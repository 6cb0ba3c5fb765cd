-- A unit moves from the lower part of a pile to the upper one: nothing of the pile's receiving side alters.
use Rattle.std.proofs.Common.{◌≡◌, ℕ, ◌<◌, Bool, true, false, ltb, List, [], ◌∷◌, is_err, Some, None, Ok, Option, sym, refl, ap, ◌∙◌, subst, ap₂, arith}
use mathlib.Core.Path.{fun_ext}
use Rattle.std.proofs.lemmas.Bool.{cond-true, cond_both}
use Rattle.stage.specs.declared.Fault.{Fault}
use Rattle.stage.specs.Model.{Heard, Model, Receiving, new_receiving, answer, and_then, hushed, rest_of, silence, after_heard, others, some_heard, some_fault, first_heard, heard, collected}
use Rattle.stage.specs.Rule.{Hears}
use Rattle.stage.specs.Piled.{fits, piled, lifted, fitting, keep_if, ending, or_misfit, misfit_at, hand_up, arriving, joined_waits, joined_receiving, piled_receiving}
use Rattle.stage.proofs.HandingUp.{hand_up_clean, hand_up_then, hand_up_hears}
use Rattle.stage.proofs.Hearing.{hears, rest-hushed, hushed_hears, hears_append, after-after-heard, after_hears, after_nothing_heard}
use Rattle.stage.proofs.Offers.{offer_heard}
use Rattle.stage.proofs.Waits.{nothing_heard, unit-heard}

-- the sides, taken apart
apart : (s : Receiving) (h : Heard) → s.waits ≡ h → s ≡ record { waits = h; future = s.future }
apart s h e = λ i. record { waits = e i; future = s.future }

module _ (m : Model) {f : List ℕ → Heard} (s : Hears f) (v : ℕ) (vs : List ℕ) (o : Option Fault) (l : List ℕ → Heard) where
  abbrev before : Receiving
  before = joined_receiving false m (record { waits = silence; future = f }) (record { waits = hears (v ∷ vs) o; future = l })

  fits_up : ltb v m.given ≡ true
      → joined_receiving false m (record { waits = f (v ∷ []); future = after_heard f (v ∷ []) }) (record { waits = hears vs o; future = l }) ≡ before
  fits_up p =
      let one : fitting m.given (v ∷ []) ≡ v ∷ [] = ap (λ b. keep_if b v []) p in
      let more : v ∷ fitting m.given vs ≡ fitting m.given (v ∷ vs) = sym (ap (λ b. keep_if b v (fitting m.given vs)) p) in
      let w : and_then (f (v ∷ [])) (hand_up m.size m.given (after_heard f (v ∷ [])) (hears vs o)) ≡ hand_up m.size m.given f (hears (v ∷ vs) o) =
      ap₂ and_then
      (ap f (sym one) ∙ sym (hand_up_clean m.size m.given s (v ∷ []) (ap (λ b. or_misfit b m.size None) p)))
      (ap (λ t. hand_up m.size m.given (after_heard f t) (hears vs o)) (sym one))
      ∙ sym (hand_up_then m.size m.given s (hears (v ∷ []) None) (hears vs o)) in
      let a : after_heard (after_heard f (v ∷ [])) (fitting m.given vs) ≡ after_heard f (fitting m.given (v ∷ vs)) =
      fun_ext (λ zs. after-after-heard s (v ∷ []) (fitting m.given vs) zs ∙ ap (λ t. after_heard f t zs) more) in
      λ i. record { waits = w i; future = λ ys. hushed (w i).fault (hand_up m.size m.given (a i) (l ys)) }

  misfits_up : ltb v m.given ≡ false
      → joined_receiving true m (record { waits = silence; future = f }) (record { waits = hears vs o; future = l }) ≡ before
  misfits_up p =
      let w : hears [] (Some (misfit_at m.size)) ≡ hand_up m.size m.given f (hears (v ∷ vs) o) =
      sym (ap (λ b. and_then (f (keep_if b v (fitting m.given vs))) (hears [] (or_misfit b m.size (ending m.size m.given vs o)))) p
      ∙ ap (λ h. and_then h (hears [] (Some (misfit_at m.size)))) s.none) in
      let q : (ys : List ℕ) → silence ≡ before.future ys =
      λ ys. ap (λ h. hushed h.fault (hand_up m.size m.given (after_heard f (fitting m.given (v ∷ vs))) (l ys))) w in
      λ i. record { waits = w i; future = λ ys. q ys i }

-- the turn of the loop, from what the calls answer
module _ (m : Model) (u l l' : Receiving) (v : ℕ) (s : Hears u.future) (idle : some_heard u.waits ≡ false)
    (first : first_heard l.waits ≡ Ok (Some v)) (took : l' ≡ collected l) where
  upper_is : u ≡ record { waits = silence; future = u.future }
  upper_is = apart u silence (nothing_heard u.waits idle)

  lower_is : record { waits = hears (v ∷ others l.waits.units) l.waits.fault; future = l.future } ≡ l
  lower_is = λ i. record { waits = hears (sym (unit-heard l.waits v first) i) l.waits.fault; future = l.future }

  whole : joined_receiving false m (record { waits = silence; future = u.future })
      (record { waits = hears (v ∷ others l.waits.units) l.waits.fault; future = l.future })
      ≡ joined_receiving false m u l
  whole = ap₂ (joined_receiving false m) (sym upper_is) lower_is

  pub moved_up : (u' : Receiving) (misfit : Bool) (n : ℕ) → n ≡ m.given
      → misfit ≡ is_err (answer (ltb v n) (some_heard u.waits)) → u' ≡ heard (ltb v n) (some_heard u.waits) u v
      → joined_receiving misfit m u' l' ≡ joined_receiving false m u l
  moved_up u' misfit n e refused gave =
      by (ltb v m.given) refl
      (refused ∙ ap₂ (λ n b. is_err (answer (ltb v n) b)) e idle)
      (gave ∙ ap₂ (λ n b. heard (ltb v n) b u v) e idle)
    where
      by : (b : Bool) → ltb v m.given ≡ b → misfit ≡ is_err (answer (ltb v m.given) false) → u' ≡ heard (ltb v m.given) false u v
          → joined_receiving misfit m u' l' ≡ joined_receiving false m u l
      by true p q r =
          ap₂ (λ b s. joined_receiving b m s l') (q ∙ ap (λ b. is_err (answer b false)) p) (r ∙ ap (λ b. heard b false u v) p)
          ∙ ap (joined_receiving false m (heard true false u v)) took
          ∙ fits_up m s v (others l.waits.units) l.waits.fault l.future p
          ∙ whole
      by false p q r =
          ap₂ (λ b s. joined_receiving b m s l') (q ∙ ap (λ b. is_err (answer b false)) p) (r ∙ ap (λ b. heard b false u v) p)
          ∙ ap₂ (joined_receiving true m) upper_is took
          ∙ misfits_up m s v (others l.waits.units) l.waits.fault l.future p
          ∙ whole

-- what a pile will give is a future
pub piled_hears : (misfit : Bool) (m k : Model) (u l : Receiving) → Hears m.hears → Hears k.hears → Hears u.future → Hears l.future
    → Hears (piled_receiving misfit m k u l).future
piled_hears misfit m k u l sm sk su sl =
    cond_both (fits m k) _ _ (λ (s : Receiving). Hears s.future)
    (λ _. hushed_hears (joined_waits misfit m u l).fault (hand_up_hears m.size m.given (after_hears su (fitting m.given l.waits.units)) sl))
    (λ _. hand_up_hears m.size m.given sm sk)

-- the pile where its parts fit
pub receiving_fits : (m k : Model) (misfit : Bool) (u l : Receiving) → fits m k ≡ true → piled_receiving misfit m k u l ≡ joined_receiving misfit m u l
receiving_fits m k misfit u l e = cond-true (fits m k) (joined_receiving misfit m u l) (new_receiving (piled m k)) e

pub same_up : {m m' k k' : Model} (misfit : Bool) (u l : Receiving) → m' ≡ m → k' ≡ k → fits m k ≡ true
    → piled_receiving misfit m' k' u l ≡ joined_receiving misfit m u l
same_up {m} {k = k} misfit u l p q e = (λ i. piled_receiving misfit (p i) (q i) u l) ∙ receiving_fits m k misfit u l e

-- Takes from a pile. The upper part has a unit:
unit_taken : (v : ℕ) (vs : List ℕ) (o : Option Fault) (k : Heard)
    → and_then (hears vs o) k ≡ hears (others (and_then (hears (v ∷ vs) o) k).units) (and_then (hears (v ∷ vs) o) k).fault
unit_taken v vs (Some f) k = refl
unit_taken v vs None k = refl

first_taken : (v : ℕ) (vs : List ℕ) (o : Option Fault) (k : Heard) → first_heard (and_then (hears (v ∷ vs) o) k) ≡ Ok (Some v)
first_taken v vs (Some f) k = refl
first_taken v vs None k = refl

pub take-unit : (misfit : Bool) (m : Model) (u l : Receiving) (v : ℕ) → first_heard u.waits ≡ Ok (Some v)
    → (first_heard (joined_receiving misfit m u l).waits ≡ Ok (Some v)) × (joined_receiving misfit m (collected u) l ≡ collected (joined_receiving misfit m u l))
take-unit misfit m u l v e =
    let us = u.waits.units in
    let o = u.waits.fault in
    let k = arriving misfit m.size m.given u.future l.waits in
    let p : us ≡ v ∷ others us = unit-heard u.waits v e in
    let P : List ℕ → Type 0 = λ us. and_then (hears (others us) o) k ≡ hears (others (and_then (hears us o) k).units) (and_then (hears us o) k).fault in
    let w : P us = subst P (sym p) (unit_taken v (others us) o k) in (
      ap (λ us. first_heard (and_then (hears us o) k)) p ∙ first_taken v (others us) o k,
      λ i. record {
        waits = w i;
        future = λ ys. hushed (w i).fault (hand_up m.size m.given (after_heard u.future (fitting m.given l.waits.units)) (l.future ys));
      },
    )

-- No unit waits in either part: what waits is a fault of the lower part, if there is one.
pub end_waits : (m : Model) (u l : Receiving) → Hears u.future → u.waits ≡ silence → l.waits.units ≡ []
    → (joined_receiving false m u l).waits ≡ hears [] (lifted m.size l.waits.fault)
end_waits m u l s e p =
    ap₂ (λ h us. and_then h (hand_up m.size m.given u.future (hears us l.waits.fault))) e p
    ∙ ap (λ h. and_then h (hears [] (lifted m.size l.waits.fault))) s.none

-- nothing waits in either part
joined_idle : (m : Model) (u l : Receiving) → Hears u.future → u.waits ≡ silence → l.waits ≡ silence
    → joined_receiving false m u l ≡ record { waits = silence; future = λ ys. hand_up m.size m.given u.future (l.future ys) }
joined_idle m u l s eu el =
    let w : (joined_receiving false m u l).waits ≡ silence =
    end_waits m u l s eu (ap (λ h. h.units) el) ∙ ap (λ h. hears [] (lifted m.size h.fault)) el in
    let q : (ys : List ℕ) → (joined_receiving false m u l).future ys ≡ hand_up m.size m.given u.future (l.future ys) =
    λ ys. ap₂ (λ w h. hushed w.fault (hand_up m.size m.given (after_heard u.future (fitting m.given h.units)) (l.future ys))) w el
    ∙ ap (λ f. hand_up m.size m.given f (l.future ys)) (fun_ext (after_nothing_heard s)) in
    λ i. record { waits = w i; future = λ ys. q ys i }

-- Does something wait in a pile?
quiet_both : (us : List ℕ) (o : Option Fault) (k : Heard) → some_heard (and_then (hears us o) k) ≡ false
    → (hears us o ≡ silence) × (some_heard k ≡ false)
quiet_both [] None k e = (refl, e)
quiet_both [] (Some f) k e = let z : ◌≡◌ {A = ℕ} 0 1 = cc in absurd (omega arith)
quiet_both (v ∷ us) None k e = let z : ◌≡◌ {A = ℕ} 0 1 = cc in absurd (omega arith)
quiet_both (v ∷ us) (Some f) k e = let z : ◌≡◌ {A = ℕ} 0 1 = cc in absurd (omega arith)

not_lifted : (size : ℕ) (o : Option Fault) → some_fault (lifted size o) ≡ false → o ≡ None
not_lifted size None e = refl
not_lifted size (Some f) e = let z : ◌≡◌ {A = ℕ} 0 1 = cc in absurd (omega arith)

module _ (m : Model) (u l : Receiving) where
  -- where nothing waits in a settled pile, nothing waits in its parts
  pub quiet_parts : (misfit : Bool) → Hears u.future → (u.waits ≡ silence → misfit ≡ false → l.waits.units ≡ [])
      → some_heard (joined_waits misfit m u l) ≡ false → (misfit ≡ false) × (u.waits ≡ silence) × (l.waits ≡ silence)
  quiet_parts true s settled e =
      let p = (quiet_both u.waits.units u.waits.fault (hears [] (Some (misfit_at m.size))) e).1 in
      let z : ◌≡◌ {A = ℕ} 0 1 = cc p in
      absurd (omega arith)
  quiet_parts false s settled e =
      let above : u.waits ≡ silence = (quiet_both u.waits.units u.waits.fault _ e).0 in
      let empty : l.waits.units ≡ [] = settled above refl in
      let none = not_lifted m.size l.waits.fault (sym (ap some_heard (end_waits m u l s above empty)) ∙ e) in
      (refl, above, λ i. hears (empty i) (none i))

-- An offer to a pile in which nothing waits is an offer to its lower part.
joined-hearing : (m : Model) (u l : Receiving) (v : ℕ) → Hears u.future → Hears l.future → u.waits ≡ silence → l.waits ≡ silence
    → joined_receiving false m u (heard true false l v) ≡ heard true false (joined_receiving false m u l) v
joined-hearing m u l v su sl eu el =
    let f = u.future in
    let up : (List ℕ → Heard) → Heard → Heard = hand_up m.size m.given in
    let plain : (joined_receiving false m u l).future ≡ (λ ys. up f (l.future ys)) = ap (λ s. s.future) (joined_idle m u l su eu el) in
    let one = up f (l.future (v ∷ [])) in
    let w : and_then u.waits one ≡ (joined_receiving false m u l).future (v ∷ []) = ap (λ h. and_then h one) eu ∙ sym (ap (λ a. a (v ∷ [])) plain) in
    let more : List ℕ → Heard = λ ys. up (after_heard f (fitting m.given (l.future (v ∷ [])).units)) (after_heard l.future (v ∷ []) ys) in
    let q : (ys : List ℕ) → hushed (and_then u.waits one).fault (more ys) ≡ after_heard (joined_receiving false m u l).future (v ∷ []) ys =
    λ ys. ap (λ h. hushed (and_then h one).fault (more ys)) eu
    ∙ sym (rest-hushed one.units one.fault (more ys))
    ∙ ap (rest_of one.fault one.units) (sym (ap (up f) (hears_append sl (v ∷ []) ys) ∙ hand_up_then m.size m.given su (l.future (v ∷ [])) (after_heard l.future (v ∷ []) ys)))
    ∙ ap (λ a. after_heard a (v ∷ []) ys) (sym plain) in
    λ i. record { waits = w i; future = λ ys. q ys i }

-- the whole of an accepted offer, from what the calls answer
module _ (m k : Model) (misfit : Bool) (u₀ l₀ u₁ l₁ : Receiving) (v : ℕ) (e : fits m k ≡ true) (su : Hears u₁.future)
    (eu : u₁.waits ≡ silence) (el : l₁.waits ≡ silence) (j : joined_receiving false m u₁ l₁ ≡ joined_receiving misfit m u₀ l₀) where
  all : joined_receiving false m u₁ l₁ ≡ piled_receiving misfit m k u₀ l₀
  all = j ∙ sym (receiving_fits m k misfit u₀ l₀ e)

  idle : (joined_receiving false m u₁ l₁).waits ≡ silence
  idle = ap (λ s. s.waits) (joined_idle m u₁ l₁ su eu el)

  top : k.given ≡ (piled m k).given
  top = sym (cond-true (fits m k) k.given 0 e)

  pub heard-answer : answer (ltb v k.given) (some_heard l₁.waits) ≡ answer (ltb v (piled m k).given) (some_heard (piled_receiving misfit m k u₀ l₀).waits)
  heard-answer = ap₂ (λ n w. answer (ltb v n) (some_heard w)) top (el ∙ sym idle ∙ ap (λ s. s.waits) all)

  pub offer_up : (l₂ : Receiving) → Hears l₁.future → v < k.given → l₂ ≡ heard (ltb v k.given) (some_heard l₁.waits) l₁ v
      → joined_receiving false m u₁ l₂ ≡ heard (ltb v (piled m k).given) (some_heard (piled_receiving misfit m k u₀ l₀).waits) (piled_receiving misfit m k u₀ l₀) v
  offer_up l₂ sl h p =
      ap (joined_receiving false m u₁) (p ∙ offer_heard l₁ v k.given h el)
      ∙ joined-hearing m u₁ l₁ v su sl eu el
      ∙ sym (offer_heard (joined_receiving false m u₁ l₁) v k.given h idle)
      ∙ ap₂ (λ n s. heard (ltb v n) (some_heard s.waits) s v) top all
