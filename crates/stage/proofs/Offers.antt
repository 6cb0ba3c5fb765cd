-- An offer, by whether the unit is below the limit and whether something waits.
use Rattle.std.proofs.Common.{◌≡◌, ℕ, ◌<◌, Bool, true, false, ltb, [], Ok, Err, sym, ap, ◌∙◌, ap₂}
use Rattle.std.proofs.lemmas.Bool.{lt-ltb}
use Rattle.refusal.specs.declared.Refusal.TheVariants.{SomethingWaits}
use Rattle.stage.specs.Model.{Sending, Receiving, silence, some, some_heard, answer, offered, heard}

pub waiting : (fits busy : Bool) → fits ≡ true → busy ≡ true → Err SomethingWaits ≡ answer fits busy
waiting fits busy p q = sym (ap₂ answer p q)

pub waiting-sent : (fits busy : Bool) (s : Sending) (u : ℕ) → fits ≡ true → busy ≡ true → s ≡ offered fits busy s u
waiting-sent fits busy s u p q = sym (ap₂ (λ f b. offered f b s u) p q)

pub waiting-heard : (fits busy : Bool) (s : Receiving) (u : ℕ) → fits ≡ true → busy ≡ true → s ≡ heard fits busy s u
waiting-heard fits busy s u p q = sym (ap₂ (λ f b. heard f b s u) p q)

pub accepted : (fits busy : Bool) → fits ≡ true → busy ≡ false → Ok tt ≡ answer fits busy
accepted fits busy p q = sym (ap₂ answer p q)

pub accepted-sent : (fits busy : Bool) (s s' : Sending) (u : ℕ) → fits ≡ true → busy ≡ false → s' ≡ offered true false s u → s' ≡ offered fits busy s u
accepted-sent fits busy s s' u p q e = e ∙ sym (ap₂ (λ f b. offered f b s u) p q)

pub accepted-heard : (fits busy : Bool) (s s' : Receiving) (u : ℕ) → fits ≡ true → busy ≡ false → s' ≡ heard true false s u → s' ≡ heard fits busy s u
accepted-heard fits busy s s' u p q e = e ∙ sym (ap₂ (λ f b. heard f b s u) p q)

-- an offer of a unit below the limit to a side in which nothing waits
pub offer_sent : (s : Sending) (v n : ℕ) → v < n → s.waits ≡ [] → offered (ltb v n) (some s.waits) s v ≡ offered true false s v
offer_sent s v n h e = ap₂ (λ f b. offered f b s v) (lt-ltb v n h) (ap some e)

pub offer_heard : (s : Receiving) (v n : ℕ) → v < n → s.waits ≡ silence → heard (ltb v n) (some_heard s.waits) s v ≡ heard true false s v
offer_heard s v n h e = ap₂ (λ f b. heard f b s v) (lt-ltb v n h) (ap some_heard e)
