-- Outcomes by the checks of a call.
use Rattle.std.proofs.Common.{◌≡◌, ℕ, List, [], Some, None, Ok, Err, Option, Result, sym, refl, ap, ◌∙◌}
use Rattle.refusal.specs.declared.Refusal.{Refusal}
use Rattle.refusal.specs.Numbers.{number_of}
use Rattle.settings.specs.declared.Settings.{Settings}
use Rattle.stage.specs.Model.{Model}
use Rattle.broadcast.specs.Calls.{Answer, done, answered, buffered, unfit_pile, unfit_for}
use Rattle.broadcast.specs.Steps.{Outcome, refuse, unless, starting}

-- the outcome's answer and buffer are those of the check's number, or else a and new
pub record Decided {S : Type 0} (number : Option ℕ) (a : Answer) (old new : List ℕ) (o : Outcome S) : Type 0 where
  pub answers : o.answer ≡ answered number a
  pub leaves : o.buffer ≡ buffered number old new

module _ {S : Type 0} where
  pub decided : {number : Option ℕ} {a : Answer} {old new : List ℕ} (v : Option ℕ) (s : S) (o : Outcome S) → number ≡ v → o.answer ≡ a → o.buffer ≡ new
      → Decided number a old new (unless v s old o)
  decided {number} {a} {old} {new} (Some n) s o e f g = record {
    answers = sym (ap (λ (v : Option ℕ). answered v a) e);
    leaves = sym (ap (λ (v : Option ℕ). buffered v old new) e);
  }
  decided {number} {a} {old} {new} None s o e f g = record {
    answers = f ∙ sym (ap (λ (v : Option ℕ). answered v a) e);
    leaves = g ∙ sym (ap (λ (v : Option ℕ). buffered v old new) e);
  }

  -- a start where the machine is idle
  module _ (M : Model) (idle : S) (new : Settings → S) where
    pub start_decided : (v : Result Settings Refusal) → Decided (unfit_for M v) done [] [] (starting M idle new v)
    start_decided (Err r) = record { answers = refl; leaves = refl }
    start_decided (Ok s) = decided (unfit_pile M s) idle (record { answer = done; buffer = []; state = new s }) refl refl refl

    pub start-refused : (v : Result Settings Refusal) (r : Refusal) → Some (number_of r) ≡ unfit_for M v → refuse (number_of r) idle [] ≡ starting M idle new v
    start-refused (Err x) r u = let n : number_of r ≡ number_of x = cc in ap (λ (k : ℕ). refuse k idle []) n
    start-refused (Ok s) r u = ap (λ (v : Option ℕ). unless v idle [] (record { answer = done; buffer = []; state = new s })) u

    pub start-accepted : (v : Result Settings Refusal) (s : Settings) → v ≡ Ok s → unfit_for M v ≡ None
        → ◌≡◌ {A = Outcome S} (record { answer = done; buffer = []; state = new s }) (starting M idle new v)
    start-accepted v s e u =
        sym (ap (λ (x : Option ℕ). unless x idle [] (record { answer = done; buffer = []; state = new s })) (sym (ap (unfit_for M) e) ∙ u))
        ∙ sym (ap (starting M idle new) e)
