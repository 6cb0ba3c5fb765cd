-- What a sending side gives for one list and then another: what a receiving side gives, where no fault comes.
use Rattle.std.proofs.Common.{◌≡◌, ℕ, List, [], ◌++◌, ap}
use Rattle.stage.specs.Model.{after}
use Rattle.stage.specs.Rule.{Sends}
use Rattle.stage.specs.Faultless.{clean_hears}
use Rattle.stage.proofs.Hearing.{hears_append, after_nothing_heard, after-after-heard, after_hears}

module _ {f : List ℕ → List ℕ} (s : Sends f) where
  -- one list and then another
  pub sends_append : (xs ys : List ℕ) → f (xs ++ ys) ≡ f xs ++ after f xs ys
  sends_append xs ys = ap (λ h. h.units) (hears_append (clean_hears s) xs ys)

  pub after_nothing : (ys : List ℕ) → after f [] ys ≡ f ys
  after_nothing ys = ap (λ h. h.units) (after_nothing_heard (clean_hears s) ys)

  pub after-after : (xs ys zs : List ℕ) → after (after f xs) ys zs ≡ after f (xs ++ ys) zs
  after-after xs ys zs = ap (λ h. h.units) (after-after-heard (clean_hears s) xs ys zs)

  -- a future after xs is a future
  pub after_sends : (xs : List ℕ) → Sends (after f xs)
  after_sends xs =
      let r = after_hears (clean_hears s) xs in
      record { none = ap (λ h. h.units) r.none; grows = λ ys zs. let g = r.grows ys zs in (g.0.units, ap (λ h. h.units) g.1) }
