-- A pile of new parts is new.
use Rattle.std.proofs.Common.{◌≡◌, false, sym, ap, ◌∙◌, ap₂}
use Rattle.pile.specs.declared.Pile.{Pile}
use Rattle.pile.specs.Queued.{queueing}
use Rattle.stage.specs.Model.{Model, Sending, Receiving, new_sending, new_receiving}
use Rattle.stage.specs.Piled.{piled, piled_sending, piled_receiving}
use Rattle.standard.specs.New.{IsNew}

-- Of any two kinds of stage, each by its model and its two sides: from what `Pile::new` says of its parts a and b.
pub new_over : {U L : Type 0} (um : U → Model) (us : U → Sending) (ur : U → Receiving) (lm : L → Model) (ls : L → Sending) (lr : L → Receiving)
    (a : U) (b : L) (p : Pile U L) (M N : Model)
    → p ≡ record { upper = a; lower = b; down = p.down; misfit = false }
    → (us a ≡ new_sending (um a) → ls b ≡ new_sending (lm b)
    → piled_sending (um a) (lm b) (queueing (lm b) p.down (us a)) (ls b) ≡ new_sending (piled (um a) (lm b)))
    → (ur a ≡ new_receiving (um a) → lr b ≡ new_receiving (lm b)
    → piled_receiving false (um a) (lm b) (ur a) (lr b) ≡ new_receiving (piled (um a) (lm b)))
    → IsNew um us ur a M → IsNew lm ls lr b N
    → IsNew (λ q. piled (um q.upper) (lm q.lower))
    (λ q. piled_sending (um q.upper) (lm q.lower) (queueing (lm q.lower) q.down (us q.upper)) (ls q.lower))
    (λ q. piled_receiving q.misfit (um q.upper) (lm q.lower) (ur q.upper) (lr q.lower))
    p (piled M N)
new_over um us ur lm ls lr a b p M N is sends hears m n =
    let models : piled (um a) (lm b) ≡ piled M N = ap₂ piled m.model_is n.model_is in
    record {
      model_is = ap (λ q. piled (um q.upper) (lm q.lower)) is ∙ models;
      sends = ap (λ q. piled_sending (um q.upper) (lm q.lower) (queueing (lm q.lower) q.down (us q.upper)) (ls q.lower)) is
          ∙ sends (m.sends ∙ ap new_sending (sym m.model_is)) (n.sends ∙ ap new_sending (sym n.model_is))
          ∙ ap new_sending models;
      hears = ap (λ q. piled_receiving q.misfit (um q.upper) (lm q.lower) (ur q.upper) (lr q.lower)) is
          ∙ hears (m.hears ∙ ap new_receiving (sym m.model_is)) (n.hears ∙ ap new_receiving (sym n.model_is))
          ∙ ap new_receiving models;
    }
