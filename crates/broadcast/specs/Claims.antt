-- What holds of every broadcast, over every pile that keeps the rule. Nothing here speaks of how a line or a receiver works: a succession is any list of
-- events, each of which follows from what was accepted before it.
use Rattle.std.specs.Prelude.{◌≡◌, ℕ, min, Bool, true, false, ◌↔◌, List, [], ◌∷◌, ◌++◌, None}
use Rattle.std.specs.List.{flat_map, AllByRecursion}
use Rattle.settings.specs.declared.codes.Codes.{Codes}
use Rattle.settings.specs.declared.Settings.{Settings}
use Rattle.stage.specs.Model.{Model}
use Rattle.stage.specs.Rule.{Rule, Same, Begins}
use Rattle.holds.specs.Capped.{most}
use Rattle.stage.specs.Piled.{piled}
use Rattle.settings.specs.Codes.{settings_read}
use Rattle.tps.specs.Block.{blocks}
use Rattle.tps.specs.Laws.{Identifier}
use Rattle.broadcast.specs.Calls.{Answer, refused, done, Event, bytes, closing_packets, unfit, meant, is_started}
use Rattle.broadcast.specs.Line as line
use Rattle.broadcast.specs.Receiver as receiver

-- Calls on one line from new, over a pile, with what they answered.
pub record Transmission : Type 0 where
  pub over : Model
  pub events : List (Event line.Call)

-- a pile that keeps the rule, and a succession
pub record Sound (r : Transmission) : Type 0 where
  pub rule : Rule r.over
  pub succession : line.Succession r.over r.events

abbrev pub settings : Transmission → List Settings
settings r = line.settings_of r.events

abbrev pub packets : Transmission → List (List ℕ)
packets r = line.packets_of r.events

abbrev pub cells : Transmission → List ℕ
cells r = line.cells_of r.events

-- it has a broadcast: close is accepted and no cell waits
pub record HasBroadcast (r : Transmission) : Type 0 where
  pub closed : line.closed_by r.events ≡ true
  pub none_waits : line.waiting r.over r.events ≡ []

-- A broadcast: all the cells, and the four signalling blocks of the settings.
pub record Broadcast : Type 0 where
  pub cells : List ℕ
  pub signalling : List (List ℕ)

abbrev pub broadcast : Transmission → Broadcast
broadcast r = record { cells = cells r; signalling = flat_map blocks (settings r) }

-- the accepted packets and the closing ones
abbrev pub all_packets : Transmission → List (List ℕ)
all_packets r = packets r ++ flat_map closing_packets (settings r)

-- A broadcast's cells are what the new pile gives for the accepted and the closing packets, and one start was accepted.
pub record Sent (r : Transmission) : Type 0 where
  pub one_start : (s : Settings) × (settings r ≡ s ∷ [])
  pub from_pile : cells r ≡ r.over.sends (bytes (all_packets r))

abbrev pub BroadcastsAreThePiles : Type 0
BroadcastsAreThePiles = (r : Transmission) → Sound r → HasBroadcast r → Sent r

-- Two broadcasts are equal exactly when the settings and the accepted packets are, where equal settings have the same pile.
abbrev pub BroadcastsTellPackets : Type 0
BroadcastsTellPackets =
    (r q : Transmission) → Sound r → Sound q → HasBroadcast r → HasBroadcast q
    → (settings r ≡ settings q → Same r.over q.over)
    → (broadcast r ≡ broadcast q) ↔ ((settings r ≡ settings q) × (packets r ≡ packets q))

-- Calls on one receiver from new, over a pile, with what they answered.
pub record Reception : Type 0 where
  pub over : Model
  pub events : List (Event receiver.Call)

pub record SoundReception (t : Reception) : Type 0 where
  pub rule : Rule t.over
  pub succession : receiver.Succession t.over t.events

abbrev pub heard : Reception → List ℕ
heard t = receiver.heard_of t.events

-- the packets that it handed out
abbrev pub collected : Reception → List (List ℕ)
collected t = receiver.packets_of t.events

-- something waits in it: a packet or a fault can be collected
abbrev pub something_waits : Reception → Bool
something_waits t = receiver.is_some (receiver.next (receiver.kept t.over t.events))

-- It hears a broadcast: over the same pile, its accepted start has the settings, and its accepted hears bring the cells in order from the first, some or all.
pub record Hears (t : Reception) (r : Transmission) : Type 0 where
  pub same_pile : Same r.over t.over
  pub same_settings : Begins (receiver.settings_of t.events) (settings r)
  pub in_order : Begins (heard t) (cells r)

-- what a hear of the next cell answers, by whether the receiver is started and whether something waits in it
abbrev pub hear_answer : Bool → Bool → Answer
hear_answer false waits = refused 30
hear_answer true true = refused 22
hear_answer true false = done

-- It tells no fault and takes every cell. What it hands out begins the accepted and the closing packets, and has every accepted one once all cells are
-- heard and nothing waits.
pub record Received (t : Reception) (r : Transmission) : Type 0 where
  pub no_fault : AllByRecursion (λ (e : Event receiver.Call). receiver.Faultless e.answer) t.events
  pub takes_next : (cell : ℕ) (e : Event receiver.Call) → Begins (heard t ++ (cell ∷ [])) (cells r)
      → e.call ≡ receiver.hear cell → receiver.Follows t.over t.events e
      → e.answer ≡ hear_answer (is_started (receiver.settings_of t.events)) (something_waits t)
  pub in_front : Begins (collected t) (all_packets r)
  pub complete : heard t ≡ cells r → something_waits t ≡ false → Begins (packets r) (collected t)

abbrev pub ReceiversRecover : Type 0
ReceiversRecover =
    (r : Transmission) (t : Reception) → Sound r → SoundReception t → HasBroadcast r → Hears t r → Received t r

-- Any stage above any other keeps the rule, with the upper hold of the lower hold.
abbrev pub PilesKeepTheRule : Type 0
PilesKeepTheRule = (U L : Model) → Rule U → Rule L → Rule (piled U L) × ((m : ℕ) → (piled U L).hold m ≡ U.hold (L.hold m))

-- What holds over every pile of stages that keep the rule: all of the above.
pub record BroadcastsHold : Type 0 where
  pub from_the_pile : BroadcastsAreThePiles
  pub equal : BroadcastsTellPackets
  pub received : ReceiversRecover
  pub piles : PilesKeepTheRule

-- The same over one pile, which keeps the rule.
abbrev pub over_pile : Model → List (Event line.Call) → Transmission
over_pile M es = record { over = M; events = es }

pub record HoldsOver (M : Model) : Type 0 where
  pub rule : Rule M
  pub from_the_pile : (es : List (Event line.Call)) → line.Succession M es → HasBroadcast (over_pile M es) → Sent (over_pile M es)
  pub equal : (es ds : List (Event line.Call)) → line.Succession M es → line.Succession M ds
      → HasBroadcast (over_pile M es) → HasBroadcast (over_pile M ds)
      → (broadcast (over_pile M es) ≡ broadcast (over_pile M ds))
      ↔ ((settings (over_pile M es) ≡ settings (over_pile M ds)) × (packets (over_pile M es) ≡ packets (over_pile M ds)))
  pub received : (es : List (Event line.Call)) (t : Reception) → line.Succession M es → SoundReception t → HasBroadcast (over_pile M es)
      → Hears t (over_pile M es) → Received t (over_pile M es)
  pub everywhere : BroadcastsHold

-- The claims are of something: codes and a pile that start accepts have a broadcast, of no packet, and a pile of no coding keeps the rule.
pub record Shortest (M : Model) (c : Codes) (r : Transmission) : Type 0 where
  pub over_it : r.over ≡ M
  pub sound : Sound r
  pub has : HasBroadcast r
  pub set : settings r ≡ meant (settings_read c)
  pub of_no_packet : packets r ≡ []

abbrev pub plain : Model
plain = record {
  taken = 256;
  given = 256;
  size = 1;
  hold = λ m. min m most;
  sends = λ xs. xs;
  hears = λ xs. record { units = xs; fault = None };
}

pub record BroadcastsExist : Type 0 where
  pub shortest : (M : Model) (c : Codes) → Rule M → Identifier c.identifier → unfit M c ≡ None → (r : Transmission) × Shortest M c r
  pub of_no_coding : Rule plain
