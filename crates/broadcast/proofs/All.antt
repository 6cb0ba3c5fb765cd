-- What holds of broadcasts over every pile of stages, in one, and what the machines of line and receiver go.
use Rattle.std.proofs.Common.{◌≡◌, List, [], ◌∷◌, sym, refl}
use Rattle.std.specs.List.{AllByRecursion}
use Rattle.tps.specs.Laws.{BlocksTellSettings}
use Rattle.stage.specs.Model.{Model}
use Rattle.stage.specs.Rule.{Rule, Same}
use Rattle.stage.proofs.PilingRule.{piled_rule}
use Rattle.broadcast.specs.Line.{Call, Typed, Follows}
use Rattle.broadcast.specs.Receiver as receiver_calls
use Rattle.broadcast.specs.Steps.{Outcome}
use Rattle.broadcast.specs.LineSteps as line_steps
use Rattle.broadcast.specs.ReceiverSteps as receiver_steps
use Rattle.broadcast.specs.Claims.{BroadcastsHold, HoldsOver, over_pile}
use Rattle.broadcast.specs.Exactly.{StepsGoSuccessions}
use Rattle.broadcast.proofs.Going.{succession_none, runs, only, continues_by}
use Rattle.broadcast.proofs.LineRuns as line
use Rattle.broadcast.proofs.ReceiverRuns as receiver
use Rattle.broadcast.proofs.Broadcasts.{broadcasts_are_the_piles}
use Rattle.broadcast.proofs.Equal.{broadcasts_tell_packets}
use Rattle.broadcast.proofs.Heard.{receivers_recover}

-- the signalling blocks tell the settings by the law of their own crate
pub broadcasts_hold_lem : BlocksTellSettings → BroadcastsHold
broadcasts_hold_lem b = record {
  from_the_pile = broadcasts_are_the_piles;
  equal = broadcasts_tell_packets b;
  received = receivers_recover;
  piles = λ U L u l. (piled_rule u l, λ m. refl);
}

same_itself : (M : Model) → Same M M
same_itself M = record { same_taken = refl; same_given = refl; same_hold = λ m. refl; same_sends = λ xs b. refl; same_hears = λ xs b. refl }

pub holds_over : BlocksTellSettings → (M : Model) → Rule M → HoldsOver M
holds_over b M m = record {
  rule = m;
  from_the_pile = λ es k. broadcasts_are_the_piles (over_pile M es) (record { rule = m; succession = k });
  equal = λ es ds k l h j.
      broadcasts_tell_packets b (over_pile M es) (over_pile M ds) (record { rule = m; succession = k }) (record { rule = m; succession = l }) h j (λ e. same_itself M);
  received = λ es t k j h a. receivers_recover (over_pile M es) t (record { rule = m; succession = k }) j h a;
  everywhere = broadcasts_hold_lem b;
}

every : {C : Type 0} (cs : List C) → AllByRecursion (λ (c : C). Unit {0}) cs
every [] = tt
every (c ∷ cs) = (tt, every cs)

pub steps_go_successions_lem : StepsGoSuccessions
steps_go_successions_lem M m = record {
  line_goes = λ cs t. runs (line.answering M m) cs t;
  line_only = λ es k. only (line.answering M m) es k;
  receiver_goes = λ cs. runs (receiver.answering M m) cs (every cs);
  receiver_only = λ es k. only (receiver.answering M m) es k;
}

-- a new line, and a call on a line
pub line_begins : (M : Model) (l : line_steps.Line) → l ≡ line_steps.idle → line_steps.GoneThrough M [] l
line_begins M l e = record { in_order = succession_none (Follows M); leads = sym e }

pub line_continues : (M : Model) → Rule M → (l : line_steps.Line) (c : Call) (o : Outcome line_steps.Line) → Typed c → o ≡ line_steps.step M l c
    → line_steps.Continues M l c o
line_continues M m l c o t e = continues_by (line.answering M m) l c o t e

pub receiver_begins : (M : Model) (r : receiver_steps.Receiver) → r ≡ receiver_steps.idle → receiver_steps.GoneThrough M [] r
receiver_begins M r e = record { in_order = succession_none (receiver_calls.Follows M); leads = sym e }

pub receiver_continues : (M : Model) → Rule M → (r : receiver_steps.Receiver) (c : receiver_calls.Call) (o : Outcome receiver_steps.Receiver)
    → o ≡ receiver_steps.step M r c → receiver_steps.Continues M r c o
receiver_continues M m r c o e = continues_by (receiver.answering M m) r c o tt e
