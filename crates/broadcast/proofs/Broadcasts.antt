-- A broadcast's cells are what the new pile gives for the accepted and the closing packets.
use Rattle.std.proofs.Common.{◌≡◌, ℕ, ◌%◌, Bool, true, List, [], ◌∷◌, ◌++◌, length, sym, ap, ◌∙◌, arith}
use Rattle.std.specs.List.{flat_map}
use Rattle.std.proofs.lemmas.List.{append-nil}
use Rattle.std.proofs.lemmas.Grind.{flat_map-append}
use Rattle.settings.specs.declared.Settings.{Settings}
use Rattle.stage.specs.Model.{Model}
use Rattle.settings.specs.SuperFrame.{super_frame_packets}
use Rattle.broadcast.specs.Calls.{bytes, calls_of, closing_packets}
use Rattle.broadcast.specs.Line.{closed_by, Standing}
use Rattle.broadcast.specs.Steps.{state_after}
use Rattle.broadcast.specs.LineSteps.{Line, idle, opened, closing, step}
use Rattle.broadcast.specs.Claims.{Transmission, Sound, HasBroadcast, settings, packets, cells, all_packets, BroadcastsAreThePiles}
use Rattle.broadcast.proofs.Going.{known}
use Rattle.broadcast.proofs.LineRuns.{Accepted, Reached, stands, is_standing, answering}

-- what is so of a succession that has a broadcast
pub record Whole (M : Model) (ss : List Settings) (ps : List (List ℕ)) (ys : List ℕ) : Type 0 where
  pub set : Settings
  pub took : Accepted M set ss ps
  pub whole_frames : length ps % super_frame_packets set ≡ 0
  pub gave : ys ≡ M.sends (bytes ps ++ bytes (closing_packets set))

whole_at : (M : Model) (l : Line) (ss : List Settings) (ps : List (List ℕ)) (ys : List ℕ) (b : Bool)
    → Reached M l ss ps ys b → b ≡ true → (stands l).waits ≡ [] → Whole M ss ps ys
whole_at M idle ss ps ys b r e w = let z : ◌≡◌ {A = ℕ} 0 1 = cc r.3 in absurd (omega arith)
whole_at M (opened s n side) ss ps ys b r e w = let z : ◌≡◌ {A = ℕ} 0 1 = cc r.not_closed in absurd (omega arith)
whole_at M (closing s cs) ss ps ys b r e w = record {
  set = s;
  took = r.took;
  whole_frames = r.whole_frames;
  gave = sym (append-nil ys) ∙ ap (λ (v : List ℕ). ys ++ v) (sym w) ∙ r.gave;
}

pub whole : (r : Transmission) → Sound r → HasBroadcast r → Whole r.over (settings r) (packets r) (cells r)
whole r k h =
    let M = r.over in
    let l = state_after (step M) idle (calls_of r.events) in
    let b = closed_by r.events in
    let i = known (answering M k.rule) r.events k.succession in
    let e = is_standing M k.rule l (settings r) (packets r) (cells r) b i in
    whole_at M l (settings r) (packets r) (cells r) b i h.closed (sym (ap (λ (x : Standing). x.waits) e) ∙ h.none_waits)

-- the packets that it sends
pub all_are : (r : Transmission) (s : Settings) → settings r ≡ s ∷ [] → all_packets r ≡ packets r ++ closing_packets s
all_are r s e =
    ap (λ (v : List Settings). packets r ++ flat_map closing_packets v) e
    ∙ ap (λ (v : List (List ℕ)). packets r ++ v) (append-nil (closing_packets s))

pub broadcasts_are_the_piles : BroadcastsAreThePiles
broadcasts_are_the_piles r k h =
    let w = whole r k h in
    record {
      one_start = (w.set, w.took.one);
      from_pile = w.gave ∙ sym (ap r.over.sends (ap bytes (all_are r w.set w.took.one) ∙ flat_map-append (λ (x : List ℕ). x) (packets r) (closing_packets w.set)));
    }
