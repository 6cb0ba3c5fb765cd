-- What a send and a close come to, by their step and by what draining the line comes to.
use Rattle.std.proofs.Common.{◌≡◌, ℕ, ◌≢◌, List, Some, None, Ok, Err, Option, Result, refl, ap, sym, ◌∙◌, subst}
use Rattle.std.specs.Prelude.{IsErrAnd}
use Rattle.refusal.specs.declared.Refusal.{Refusal}
use Rattle.refusal.specs.Numbers.{number_of}
use Rattle.stage.specs.Model.{Model}
use Rattle.broadcast.specs.Calls.{refused, done}
use Rattle.broadcast.specs.Steps.{Outcome, unless}
use Rattle.broadcast.specs.Line.{packet, close}
use Rattle.broadcast.specs.LineSteps.{Line, idle, opened, closing, step, packet_checks, close_checks}
use Rattle.line.specs.View.{outcome}
use Rattle.relay.specs.declared.stop.Stop.{Stop}
use Rattle.relay.specs.declared.stop.Stop.TheVariants.{Refused, Wrong, Failed, Memory}
use Rattle.relay.specs.Sent.{Drained, Sent}

-- what sending needs of a step: where it refuses the line is as it was, and where it is done the line is started
pub record Sends (l : Line) (o : Outcome Line) : Type 0 where
  pub leaves : (n : ℕ) → o.answer ≡ refused n → o.state ≡ l
  pub starts : o.answer ≡ done → o.state ≢ idle

of-checks : (x : Option ℕ) (l : Line) (b : List ℕ) (o : Outcome Line) → o.answer ≡ done → o.state ≢ idle → Sends l (unless x l b o)
of-checks (Some m) l b o is ne = record { leaves = λ n e. refl; starts = λ e. cc }
of-checks None l b o is ne = record { leaves = λ n e. cc; starts = λ e. ne }

refusing : (m : ℕ) (l : Line) (b : List ℕ) → Sends l (record { answer = refused m; buffer = b; state = l })
refusing m l b = record { leaves = λ n e. refl; starts = λ e. cc }

pub packet-sends : (M : Model) (l : Line) (p : List ℕ) → Sends l (step M l (packet p))
packet-sends M idle p = refusing _ _ _
packet-sends M (opened s k side) p = of-checks (packet_checks side.waits p) _ _ _ refl (λ e. cc)
packet-sends M (closing s waits) p = refusing _ _ _

pub close-sends : (M : Model) (l : Line) → Sends l (step M l close)
close-sends M idle = refusing _ _ _
close-sends M (opened s k side) = of-checks (close_checks k side.waits) _ _ _ refl (λ e. cc)
close-sends M (closing s waits) = refusing _ _ _

-- what a `?` makes of an error
pub told : (x : Result ℕ Stop) (s : Stop) → IsErrAnd x (λ r. r ≡ s) → x ≡ Err s
told (Ok n) s e = absurd e
told (Err r) s e = ap Err e

pub sent-none : (o : Outcome Line) (l l' : Line) (b : List ℕ) (r : Refusal) → Sends l o → outcome (refused (number_of r)) b l' ≡ o
    → Sent o l l' (Err (Refused r))
sent-none o l l' b r s e =
    let answer : o.answer ≡ refused (number_of r) = sym (ap (λ o. o.answer) e) in
    (answer, ap (λ o. o.state) e ∙ s.leaves _ answer)

pub sent-drained : (o : Outcome Line) (l l1 l2 : Line) (b : List ℕ) (x : Result ℕ Stop) → Sends l o → outcome done b l1 ≡ o → Drained l1 l2 x
    → Sent o l l2 x
sent-drained o l l1 l2 b x s e d = of x (subst (λ m. Drained m l2 x) (ap (λ o. o.state) e) d)
  where
    answer : o.answer ≡ done
    answer = sym (ap (λ o. o.answer) e)

    of : (x : Result ℕ Stop) → Drained o.state l2 x → Sent o l l2 x
    of (Ok cells) d = (answer, d)
    of (Err (Failed f)) d = (answer, d)
    of (Err (Refused r)) d = absurd (s.starts answer d.0)
    of (Err (Wrong text)) d = d
    of (Err (Memory f)) d = d
