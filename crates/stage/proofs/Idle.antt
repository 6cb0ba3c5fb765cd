-- An offer to a side in which nothing waits.
use Rattle.std.proofs.Common.{◌≡◌, ℕ, ◌<◌, false, ltb, List, ap, ◌∙◌}
use Rattle.stage.specs.Machine.{gives, hears_from}
use Rattle.stage.specs.Model.{Heard, some, some_heard, hushed, offered, heard}
use Rattle.stage.proofs.Machine.{gives_offered, hears_from_heard}
use Rattle.stage.proofs.Waits.{none_waits, nothing_heard}

module _ {S : Type 0} (out : S → ℕ → List ℕ) (next : S → ℕ → S) where
  pub idle_offered : (ws : List ℕ) (s : S) (u n : ℕ) → u < n → some ws ≡ false
      → offered (ltb u n) (some ws) (record { waits = ws; future = gives out next s }) u
      ≡ record { waits = out s u; future = gives out next (next s u) }
  idle_offered ws s u n h e =
      ap (λ (v : List ℕ). offered (ltb u n) (some v) (record { waits = v; future = gives out next s }) u) (none_waits ws e)
      ∙ gives_offered out next s u n h

module _ {S : Type 0} (out : S → ℕ → Heard) (next : S → ℕ → S) where
  pub idle_heard : (w : Heard) (s : S) (u n : ℕ) → u < n → some_heard w ≡ false
      → heard (ltb u n) (some_heard w) (record { waits = w; future = λ ys. hushed w.fault (hears_from out next s ys) }) u
      ≡ record { waits = out s u; future = λ ys. hushed (out s u).fault (hears_from out next (next s u) ys) }
  idle_heard w s u n h e =
      ap (λ (v : Heard). heard (ltb u n) (some_heard v) (record { waits = v; future = λ ys. hushed v.fault (hears_from out next s ys) }) u) (nothing_heard w e)
      ∙ hears_from_heard out next s u n h
