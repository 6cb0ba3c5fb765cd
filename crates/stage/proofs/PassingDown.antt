-- Many units go down a pile at once: nothing of its sending side alters but what is handed to it and what it gives.
use Rattle.std.proofs.Common.{◌≡◌, ℕ, zero, suc, ◌+◌, ◌≤◌, true, List, [], ◌∷◌, ◌++◌, length, take, drop, sym, refl, ap, ◌∙◌, subst, ap₂, arith, length-append, take-append-drop}
use Rattle.std.proofs.lemmas.List.{append_assoc}
use Rattle.std.proofs.lemmas.Bool.{lt-ltb}
use Rattle.stage.specs.Model.{Model, Sending, fed, ahead, after, some}
use Rattle.stage.specs.Rule.{Sends, Under}
use Rattle.stage.specs.Passing.{Gives}
use Rattle.stage.specs.Piled.{fitting, keep_if, joined_sending}
use Rattle.stage.proofs.Feeding.{fed-fed}
use Rattle.stage.proofs.Fronts.{under_weaker}
use Rattle.stage.proofs.Futures.{sends_append, after_sends, after-after}
use Rattle.stage.proofs.Passing.{fed-ahead}
use Rattle.stage.proofs.PilingDown.{composed}
use Rattle.stage.proofs.PilingRule.{under_fitting}

-- what fits of a list whose first k units do
fitting_split : (n k : ℕ) (q : List ℕ) → Under n (take k q) → fitting n q ≡ take k q ++ fitting n (drop k q)
fitting_split n zero q h = refl
fitting_split n (suc k) [] h = refl
fitting_split n (suc k) (x ∷ q) h =
    ap (λ b. keep_if b x (fitting n q)) (lt-ltb x n h.0) ∙ ap (λ t. x ∷ t) (fitting_split n k q h.1)

module _ (u l : Sending) (sl : Sends l.future) where
  -- the lower part is handed what stands first
  handed : (a b : List ℕ) → joined_sending (ahead (a ++ b) u) l ≡ joined_sending (ahead b u) (fed l a)
  handed a b =
      let f = l.future in
      let e : (a ++ b) ++ u.waits ≡ a ++ (b ++ u.waits) = append_assoc a b u.waits in
      let w : l.waits ++ f ((a ++ b) ++ u.waits) ≡ (l.waits ++ f a) ++ after f a (b ++ u.waits) =
      ap (λ v. l.waits ++ v) (ap f e ∙ sends_append sl a (b ++ u.waits)) ∙ sym (append_assoc l.waits (f a) (after f a (b ++ u.waits))) in
      let q : (xs : List ℕ) → after f ((a ++ b) ++ u.waits) (u.future xs) ≡ after (after f a) (b ++ u.waits) (u.future xs) =
      λ xs. ap (λ v. after f v (u.future xs)) e ∙ sym (after-after sl a (b ++ u.waits) (u.future xs)) in
      λ i. record { waits = w i; future = λ xs. q xs i }

  -- a pile is fed by feeding its upper part
  pub joined-fed : Sends u.future → (xs : List ℕ) → fed (joined_sending u l) xs ≡ joined_sending (fed u xs) l
  joined-fed su xs =
      let f = l.future in
      let w : (l.waits ++ f u.waits) ++ after f u.waits (u.future xs) ≡ l.waits ++ f (u.waits ++ u.future xs) =
      append_assoc l.waits (f u.waits) (after f u.waits (u.future xs)) ∙ ap (λ v. l.waits ++ v) (sym (sends_append sl u.waits (u.future xs))) in
      let q : (ys : List ℕ) → after (λ zs. after f u.waits (u.future zs)) xs ys ≡ after f (u.waits ++ u.future xs) (after u.future xs ys) =
      λ ys. ap (λ v. drop (length (after f u.waits (u.future xs))) (after f u.waits v)) (sends_append su xs ys)
      ∙ after-after sl u.waits (u.future xs) (after u.future xs ys) in
      λ i. record { waits = w i; future = λ ys. q ys i }

pub joined_sends : (u l : Sending) → Sends u.future → Sends l.future → Sends (joined_sending u l).future
joined_sends u l su sl = composed su (after_sends sl u.waits)

-- what the lower part gives comes first
joined-ahead : (us : List ℕ) (u l : Sending) → joined_sending u (ahead us l) ≡ ahead us (joined_sending u l)
joined-ahead us u l = λ i. record { waits = append_assoc us l.waits (l.future u.waits) i; future = (joined_sending u l).future }

-- The lower part, with the model k, passes on what is queued between the parts.
pub gives_down : (M k : Model) (u l : Sending) {l' : Sending} (q : List ℕ) (used : ℕ) {out out' : List ℕ} {made : ℕ} → Sends l.future → M.given ≡ k.given
    → Under k.taken (take used q) → Gives k (fed l (take used q)) l' out out' made
    → Gives M (joined_sending (ahead (fitting k.taken q) u) l) (joined_sending (ahead (fitting k.taken (drop used q)) u) l') out out' made
gives_down M k u l {l'} q used sl same fits g =
    let t = k.taken in
    let rest = ahead (fitting t (drop used q)) u in
    record {
      units = g.units;
      made_is = g.made_is;
      room = g.room;
      side = ap (λ w. joined_sending (ahead w u) l) (fitting_split t used q fits)
          ∙ handed u l sl (take used q) (fitting t (drop used q))
          ∙ ap (joined_sending rest) g.side
          ∙ joined-ahead g.units rest l';
      buffer = g.buffer;
      below = subst (λ n. Under n g.units) (sym same) g.below;
    }

-- The upper part gives units us for further input, and they are queued.
pub queued : (k : Model) (g : ℕ) (u u' l : Sending) (q us xs : List ℕ) → Sends u.future → Sends l.future → fitting k.taken q ≡ []
    → g ≤ k.taken → Under g us → fed u xs ≡ ahead us u'
    → fed (joined_sending (ahead (fitting k.taken q) u) l) xs ≡ joined_sending (ahead (fitting k.taken us) u') l
queued k g u u' l q us xs su sl none fit below e =
    ap (λ w. fed (joined_sending (ahead w u) l) xs) none
    ∙ joined-fed u l sl su xs
    ∙ ap (λ s. joined_sending s l) (e ∙ ap (λ w. ahead w u') (sym (under_fitting 0 k.taken us (under_weaker g k.taken fit us below)).0))

-- what is still to come of the upper part grows shorter by what it has given
pub less_to_come : (u u' : Sending) (us xs : List ℕ) (n : ℕ) → Sends u.future → fed u (take n xs) ≡ ahead us u'
    → length (fed u xs).waits ≡ length us + length (fed u' (drop n xs)).waits
less_to_come u u' us xs n su e =
    ap (λ w. length (fed u w).waits) (sym (take-append-drop n xs))
    ∙ ap (λ s. length s.waits) (sym (fed-fed u su (take n xs) (drop n xs)) ∙ ap (λ s. fed s (drop n xs)) e ∙ fed-ahead us u' (drop n xs))
    ∙ length-append us (fed u' (drop n xs)).waits

-- nothing waits in either part, and nothing is queued
pub quiet_down : (u l : Sending) (ws : List ℕ) → Sends l.future → ws ≡ [] → u.waits ≡ [] → l.waits ≡ [] → (joined_sending (ahead ws u) l).waits ≡ []
quiet_down u l ws sl eq eu el = ap₂ ◌++◌ el (ap l.future (ap₂ ◌++◌ eq eu) ∙ sl.none)

-- something waits in the lower part
pub some_first : (ws vs : List ℕ) → some ws ≡ true → some (ws ++ vs) ≡ true
some_first [] vs e = let z : ◌≡◌ {A = ℕ} 0 1 = cc in absurd (omega arith)
some_first (w ∷ ws) vs e = refl
