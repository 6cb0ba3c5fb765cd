use Rattle.std.proofs.Common.{◌≡◌, ℕ, Some, Ok, Err, Result, ap, ◌∙◌, arith, rules}
use Rattle.std.specs.Result.{result_ok}
use Rattle.settings.specs.Rate.{rate_read}
use Rattle.stage.specs.Model.{new_sending, new_receiving}
use Rattle.inner_coder.specs.Coder.{inner_coder}
use Rattle.inner_coder.proofs.coder.InnerCoder.new.Goals as goal

was_ok : {T E : Type 0} (r : Result T E) (x : T) → Some x ≡ result_ok r → Ok x ≡ r
was_ok (Ok y) x e = cc
was_ok (Err y) x e = let z : ◌≡◌ {A = ℕ} 0 1 = cc in absurd (omega arith)

pub returns : goal.returns
returns c =
    let new = c.of.ensures in
    let is : Ok c.in_ok-rate.rate ≡ rate_read c.args.rate = was_ok c.try_from.result c.in_ok-rate.rate c.in_ok-rate.ensures.value ∙ c.try_from.ensures ∙ ap rate_read (search rules) in
    record {
      model = new.model ∙ ap inner_coder is;
      sends = new.sends ∙ ap (λ o. new_sending (inner_coder o)) is;
      hears = new.hears ∙ ap (λ o. new_receiving (inner_coder o)) is;
    }
