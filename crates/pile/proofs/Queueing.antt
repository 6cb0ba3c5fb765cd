-- The units of a queue, as its places move on.
use Rattle.std.proofs.Common.{cond, ◌&&◌, ◌≡◌, ℕ, ◌+◌, ◌-◌, ◌<◌, Bool, true, false, not, List, [], ◌∷◌, ◌++◌, take, drop, sym, refl, ap, ◌∙◌, arith}
use Rattle.std.proofs.lemmas.List.{drop-drop}
use Rattle.std.proofs.lemmas.Slice.{between_is}
use Rattle.stage.specs.Model.{Model, Sending, some}
use Rattle.stage.specs.Piled.{fits, joined_sending, piled_sending}
use Rattle.stage.proofs.PilingDown.{sending_fits}
use Rattle.pile.specs.Queued.{queueing}

-- the first n are used
pub used_of : (xs : List ℕ) (at end n : ℕ) → take (end - (at + n)) (drop (at + n) xs) ≡ drop n (take (end - at) (drop at xs))
used_of xs at end n = between_is xs (at + n) end ∙ sym (ap (drop n) (between_is xs at end) ∙ drop-drop n at (take end xs))

pub none_in : (ws : List ℕ) → not (some ws) ≡ true → ws ≡ []
none_in [] e = refl
none_in (w ∷ ws) e = let z : ◌≡◌ {A = ℕ} 0 1 = cc in absurd (omega arith)

-- nothing is queued and nothing waits above where neither does together
pub both_none : (ws vs : List ℕ) → ws ++ vs ≡ [] → (ws ≡ []) × (vs ≡ [])
both_none [] vs e = (refl, e)
both_none (w ∷ ws) vs e = let z : ◌≡◌ {A = ℕ} 0 1 = cc in absurd (omega arith)

-- parts fit where the pile takes a unit
pub below_since : (b : Bool) (n v : ℕ) → v < cond b n 0 → (b ≡ true) × (v < n)
below_since true n v h = (refl, h)
below_since false n v h = absurd (omega arith)

-- in parts that fit nothing waits where nothing waits in the pile
pub quiet_since : {b : Bool} (some : Bool) → b ≡ true → (b && some) ≡ false → some ≡ false
quiet_since some fit e = sym (ap (λ b. b && some) fit) ∙ e

-- a pile of parts that fit, whose models have not changed
pub down_queued : (q : List ℕ) {m m' k k' : Model} (u l : Sending) → m' ≡ m → k' ≡ k → fits m k ≡ true
    → piled_sending m' k' (queueing k' q u) l ≡ joined_sending (queueing k q u) l
down_queued q {m} {k = k} u l p r e = (λ i. piled_sending (p i) (r i) (queueing (r i) q u) l) ∙ sending_fits m k (queueing k q u) l e
