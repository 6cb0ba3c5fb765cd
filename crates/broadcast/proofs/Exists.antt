-- There are broadcasts, and a pile that keeps the rule.
use Rattle.std.proofs.Common.{◌≡◌, ℕ, ◌-◌, List, [], ◌∷◌, length, replicate, None, Ok, Err, Result, sym, refl, ap, ◌∙◌, inr, arith, lit≤, length-take}
use lib.ListN.{length-replicate}
use Rattle.std.proofs.lemmas.List.{append-nil, drop_all}
use Rattle.refusal.specs.declared.Refusal.{Refusal}
use Rattle.settings.specs.declared.codes.Codes.{Codes}
use Rattle.settings.specs.declared.Settings.{Settings}
use Rattle.stage.specs.Model.{Model}
use Rattle.stage.specs.Rule.{Rule}
use Rattle.stage.proofs.Fronts.{take_begins}
use Rattle.settings.specs.Codes.{settings_read}
use Rattle.tps.specs.Laws.{Identifier}
use Rattle.broadcast.specs.Calls.{Event, done, bytes, closing_packets, unfit, unfit_for, unfit_pile, meant}
use Rattle.broadcast.specs.Line.{Call, start, cells, close, settings_of, packets_of, cells_of, closed_by, room, Standing}
use Rattle.broadcast.specs.Steps.{Outcome, event, state_after}
use Rattle.broadcast.specs.LineSteps.{Line, idle, started, events, step}
use Rattle.broadcast.specs.Claims.{Transmission, Shortest, plain, BroadcastsExist}
use Rattle.broadcast.proofs.Deciding.{start-accepted}
use Rattle.broadcast.proofs.Going.{runs, known}
use Rattle.broadcast.proofs.LineRuns.{answering, stands, is_standing}

module _ (M : Model) (m : Rule M) (c : Codes) (s : Settings) (reads : settings_read c ≡ Ok s) (i : Identifier c.identifier) (fits : unfit_pile M s ≡ None) where
  -- the cells of the closing packets
  abbrev sent : List ℕ
  sent = M.sends (bytes (closing_packets s))

  abbrev then_calls : List Call
  then_calls = close ∷ cells (replicate (length sent) 0) ∷ []

  abbrev shortest : Transmission
  shortest = record { over = M; events = events M idle (start c ∷ then_calls) }

  -- the start is accepted
  abbrev opened_by : Outcome Line
  opened_by = record { answer = done; buffer = []; state = started M s }

  opened_first : step M idle (start c) ≡ opened_by
  opened_first = sym (start-accepted M idle (started M) (settings_read c) s reads (ap (unfit_for M) reads ∙ fits))

  abbrev after_start : Outcome Line → List (Event Call)
  after_start o = event (start c) o ∷ events M o.state then_calls

  is_shortest : Shortest M c shortest
  is_shortest =
      let k = runs (answering M m) (start c ∷ then_calls) (i, (tt, (tt, tt))) in
      let es = shortest.events in
      let e : shortest.events ≡ after_start opened_by = ap after_start opened_first in
      record {
        over_it = refl;
        sound = record { rule = m; succession = k };
        has = record {
          closed = ap closed_by e;
          none_waits =
              ap (λ (h : Standing). h.waits)
              (is_standing M m (state_after (step M) idle (start c ∷ then_calls)) (settings_of es) (packets_of es) (cells_of es) (closed_by es) (known (answering M m) es k))
              ∙ ap (λ (o : Outcome Line). (stands (state_after (step M) o.state then_calls)).waits) opened_first
              ∙ drop_all (room sent (replicate (length sent) 0)) sent (omega (arith, length-replicate {A = ℕ} (length sent) 0));
        };
        set = ap settings_of e ∙ append-nil (meant (settings_read c));
        of_no_packet = ap packets_of e;
      }

pub shortest_is : (M : Model) (c : Codes) → Rule M → Identifier c.identifier → unfit M c ≡ None → (r : Transmission) × Shortest M c r
shortest_is M c m i e = go (settings_read c) refl e
  where
    go : (v : Result Settings Refusal) → settings_read c ≡ v → unfit_for M v ≡ None → (r : Transmission) × Shortest M c r
    go (Err r) q e = let z : ◌≡◌ {A = ℕ} 0 1 = cc in absurd (omega arith)
    go (Ok s) q e = (shortest M m c s q i e, is_shortest M m c s q i e)

of_no_coding : Rule plain
of_no_coding = record {
  taken_is = inr (8, lit≤ tt, lit≤ tt, refl);
  given_is = inr (8, lit≤ tt, lit≤ tt, refl);
  size_some = lit≤ tt;
  size_stops = lit≤ tt;
  hold_stops = λ m. omega arith;
  hold_most = λ m h. omega arith;
  hold_grows = λ m n h. omega arith;
  sends_grow = record { none = refl; grows = λ xs ys. (ys, refl) };
  hears_grow = record { none = refl; grows = λ xs ys. (record { units = ys; fault = None }, refl) };
  sends_under = λ xs b. b;
  hears_under = λ xs b. b;
  faults_numbered = λ ys f e. let z : ◌≡◌ {A = ℕ} 0 1 = cc in absurd (omega arith);
  law = λ xs m b h. record {
    clean = refl;
    begins = take_begins (length xs - m) xs;
    within = λ claims. omega (arith, length-take (length xs - m) xs);
  };
}

pub broadcasts_exist_lem : BroadcastsExist
broadcasts_exist_lem = record { shortest = shortest_is; of_no_coding = of_no_coding }
