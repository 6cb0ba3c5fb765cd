-- The sending side of a pile, where its parts are settled, and where an offer goes to its upper part.
use Rattle.std.proofs.Common.{◌≡◌, ℕ, ◌<◌, true, false, ltb, List, [], ◌∷◌, ◌++◌, length, drop, sym, refl, ap, ◌∙◌, ap₂}
use Rattle.std.proofs.lemmas.Bool.{cond-true, cond_both}
use Rattle.stage.specs.Model.{Model, Sending, new_sending, answer, after, some, others, offered, sent}
use Rattle.stage.specs.Rule.{Sends}
use Rattle.stage.specs.Piled.{fits, piled, joined_sending, piled_sending}
use Rattle.stage.proofs.Futures.{sends_append, after_sends, after_nothing}
use Rattle.stage.proofs.Offers.{offer_sent}

-- ws, and then vs, which is nothing where ws is
others-append : (ws vs : List ℕ) → (ws ≡ [] → vs ≡ []) → others (ws ++ vs) ≡ others ws ++ vs
others-append [] vs h = ap others (h refl) ∙ sym (h refl)
others-append (w ∷ ws) vs h = refl

-- Where the parts are settled: nothing waits in the upper part if nothing waits in the lower one.
module _ (u l : Sending) (s : Sends l.future) (settled : l.waits ≡ [] → u.waits ≡ []) where
  quiet : l.waits ≡ [] → l.future u.waits ≡ []
  quiet e = ap l.future (settled e) ∙ s.none

  pub settled_sent : joined_sending u (sent l) ≡ sent (joined_sending u l)
  settled_sent = λ i. record { waits = sym (others-append l.waits (l.future u.waits) quiet) i; future = (joined_sending u l).future }

-- nothing waits in either part
joined_idle : (u l : Sending) → Sends l.future → u.waits ≡ [] → l.waits ≡ []
    → joined_sending u l ≡ record { waits = []; future = λ xs. l.future (u.future xs) }
joined_idle u l s eu el =
    let w : l.waits ++ l.future u.waits ≡ [] = ap₂ ◌++◌ el (ap l.future eu ∙ s.none) in
    let q : (xs : List ℕ) → after l.future u.waits (u.future xs) ≡ l.future (u.future xs) =
    λ xs. ap (λ w. after l.future w (u.future xs)) eu ∙ after_nothing s (u.future xs) in
    λ i. record { waits = w i; future = λ xs. q xs i }

-- an offer to a pile in which nothing waits is an offer to its upper part
joined_accepting : (u l : Sending) (v : ℕ) → Sends u.future → Sends l.future → u.waits ≡ [] → l.waits ≡ []
    → joined_sending (offered true false u v) l ≡ offered true false (joined_sending u l) v
joined_accepting u l v su sl eu el =
    let f = l.future in
    let plain : (joined_sending u l).future ≡ (λ xs. f (u.future xs)) = ap (λ s. s.future) (joined_idle u l sl eu el) in
    let p : l.waits ++ f (u.future (v ∷ [])) ≡ (joined_sending u l).future (v ∷ []) =
    ap (λ w. w ++ f (u.future (v ∷ []))) el ∙ sym (ap (λ g. g (v ∷ [])) plain) in
    let q : (xs : List ℕ) → after f (u.future (v ∷ [])) (after u.future (v ∷ []) xs) ≡ after (joined_sending u l).future (v ∷ []) xs =
    λ xs. ap (λ w. drop (length (f (u.future (v ∷ [])))) (f w)) (sym (sends_append su (v ∷ []) xs))
    ∙ ap (λ g. after g (v ∷ []) xs) (sym plain) in
    λ i. record { waits = p i; future = λ xs. q xs i }

-- The pile where its parts fit, and where they do not.
pub sending_fits : (m k : Model) (u l : Sending) → fits m k ≡ true → piled_sending m k u l ≡ joined_sending u l
sending_fits m k u l e = cond-true (fits m k) (joined_sending u l) (new_sending (piled m k)) e

-- the whole of an accepted offer, from what the calls answer
module _ (m k : Model) (u₀ l₀ u₁ l₁ : Sending) (v : ℕ) (e : fits m k ≡ true) (sl : Sends l₁.future)
    (eu : u₁.waits ≡ []) (el : l₁.waits ≡ []) (j : joined_sending u₁ l₁ ≡ joined_sending u₀ l₀) where
  whole : joined_sending u₁ l₁ ≡ piled_sending m k u₀ l₀
  whole = j ∙ sym (sending_fits m k u₀ l₀ e)

  idle : (joined_sending u₁ l₁).waits ≡ []
  idle = ap (λ s. s.waits) (joined_idle u₁ l₁ sl eu el)

  top : m.taken ≡ (piled m k).taken
  top = sym (cond-true (fits m k) m.taken 0 e)

  pub offer_answer : answer (ltb v m.taken) (some u₁.waits) ≡ answer (ltb v (piled m k).taken) (some (piled_sending m k u₀ l₀).waits)
  offer_answer = ap₂ (λ n w. answer (ltb v n) (some w)) top (eu ∙ sym idle ∙ ap (λ s. s.waits) whole)

  pub offer_down : (u₂ l₂ : Sending) → Sends u₁.future → v < m.taken
      → u₂ ≡ offered (ltb v m.taken) (some u₁.waits) u₁ v → l₂ ≡ l₁
      → joined_sending u₂ l₂ ≡ offered (ltb v (piled m k).taken) (some (piled_sending m k u₀ l₀).waits) (piled_sending m k u₀ l₀) v
  offer_down u₂ l₂ su h p q =
      ap₂ joined_sending (p ∙ offer_sent u₁ v m.taken h eu) q
      ∙ joined_accepting u₁ l₁ v su sl eu el
      ∙ sym (offer_sent (joined_sending u₁ l₁) v m.taken h idle)
      ∙ ap₂ (λ n s. offered (ltb v n) (some s.waits) s v) top whole

-- what a pile will give is a future
pub composed : {f g : List ℕ → List ℕ} → Sends f → Sends g → Sends (λ xs. g (f xs))
composed {f} {g} s t = record {
  none = ap g s.none ∙ t.none;
  grows = λ xs ys. let a = s.grows xs ys in let b = t.grows (f xs) a.0 in (b.0, ap g a.1 ∙ b.1);
}

pub piled_sends : (m k : Model) (u l : Sending) → Sends m.sends → Sends k.sends → Sends u.future → Sends l.future
    → Sends (piled_sending m k u l).future
piled_sends m k u l sm sk su sl =
    cond_both (fits m k) _ _ (λ (s : Sending). Sends s.future) (λ _. composed su (after_sends sl u.waits)) (λ _. composed sm sk)
