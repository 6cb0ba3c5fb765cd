-- The calls of a line where nothing refuses them, from what their checks have found.
use Rattle.std.proofs.Common.{◌≡◌, ℕ, ◌+◌, ◌%◌, Bool, true, false, not, eqb, List, [], length, get_or, Some, None, Ok, Err, Option, Result, sym, refl, ap, ◌∙◌, ap₂, arith}
use Rattle.std.proofs.lemmas.Bool.{eq-eqb}
use Rattle.refusal.specs.declared.Refusal.{Refusal}
use Rattle.refusal.specs.declared.Refusal.TheVariants.{NotStarted, Closed}
use Rattle.refusal.specs.Numbers.{number_of}
use Rattle.settings.specs.declared.codes.Codes.{Codes}
use Rattle.settings.specs.declared.Settings.{Settings}
use Rattle.settings.specs.Codes.{settings_read}
use Rattle.settings.specs.SuperFrame.{super_frame_packets}
use Rattle.stage.specs.Model.{Model, Sending, fed, some, new_sending}
use Rattle.stage.specs.Rule.{Sends}
use Rattle.stage.proofs.Feeding.{fed-fed}
use Rattle.broadcast.specs.Calls.{done, check, bytes, closing_packets, unfit, unfit_for, unfit_pile}
use Rattle.broadcast.specs.Steps.{Outcome, unless}
use Rattle.broadcast.specs.Line as calls
use Rattle.broadcast.specs.LineSteps as steps
use Rattle.broadcast.proofs.Deciding.{start-accepted, start-refused}
use Rattle.broadcast.proofs.Packets.{fit_since}
use Rattle.line.specs.declared.frame.Frame.{Frame}
use Rattle.line.specs.declared.phase.Phase.{Phase}
use Rattle.line.specs.declared.phase.Phase.TheVariants.{Idle, Open, Closing}
use Rattle.line.specs.declared.phase.Call.{Call}
use Rattle.line.specs.declared.phase.Call.TheVariants.{Start, Packet, Close}
use Rattle.line.specs.View.{done_by, phase_of, admitted, seen, outcome}

-- further bytes, where none is pending
pub fed_further : (s side : Sending) (ps : List ℕ) → Sends s.future → fed s ps ≡ side → ps ≡ [] → (xs : List ℕ) → fed s xs ≡ fed side xs
fed_further s side ps g e p xs = sym (fed-fed s g [] xs) ∙ ap (λ t. fed t xs) (ap (fed s) (sym p) ∙ e)

accepted : {S : Type 0} (v : Option ℕ) (l : S) (buffer : List ℕ) (o : Outcome S) → v ≡ None → unless v l buffer o ≡ o
accepted v l buffer o e = ap (λ v. unless v l buffer o) e

passes : (b : Bool) (n : ℕ) (rest : Option ℕ) → b ≡ false → rest ≡ None → check b n rest ≡ None
passes b n rest e f = ap₂ (λ b r. check b n r) e f

impossible : {X : Type 0} {f : Option Frame} {r : Refusal} → ◌≡◌ {A = Result (Option Frame) Refusal} (Err r) (Ok f) → X
impossible e = let z : ◌≡◌ {A = ℕ} 0 1 = cc in absurd (omega arith)

-- A call that a closing line refuses is let in by an open one alone, over a pile that takes bytes.
takes : (call : Call) (b : Bool) (p : Phase) (f : Frame) → admitted Idle call ≡ Err NotStarted → ((g : Frame) → admitted (Closing g) call ≡ Err Closed)
    → ((g : Frame) → admitted (Open g) call ≡ Ok (Some g)) → admitted (phase_of b p) call ≡ Ok (Some f) → (b ≡ true) × (p ≡ Open f)
takes call false p f i k o e = impossible (sym i ∙ e)
takes call true Idle f i k o e = impossible (sym i ∙ e)
takes call true (Open g) f i k o e = (refl, (let same : ◌≡◌ {A = Result (Option Frame) Refusal} (Ok (Some g)) (Ok (Some f)) = sym (o g) ∙ e in cc))
takes call true (Closing g) f i k o e = impossible (sym (k g) ∙ e)

-- a start is let in by an idle line
pub idle_at : (q : Phase) (f : Option Frame) → admitted q Start ≡ Ok f → q ≡ Idle
idle_at Idle f e = refl
idle_at (Open g) f e = impossible e
idle_at (Closing g) f e = impossible e

pub idle_seen : (b : Bool) (side : Sending) → seen (phase_of b Idle) side ≡ steps.idle
idle_seen true side = refl
idle_seen false side = refl

module _ (M : Model) where
  -- a packet
  module _ (xs : List ℕ) (whole : length xs ≡ 188) (sync : get_or xs 0 0 ≡ 0x47) where
    open_packet : (f f' : Frame) (side side' : Sending) → side.waits ≡ [] → f'.settings ≡ f.settings
        → f'.begun ≡ (f.begun + 1) % super_frame_packets f.settings → side' ≡ fed side xs
        → outcome done xs (seen (Open f') side') ≡ steps.step M (seen (Open f) side) (calls.packet xs)
    open_packet f f' side side' w s n e =
        (λ i. outcome done xs (steps.opened (s i) (n i) (e i)))
        ∙ sym (accepted (steps.packet_checks side.waits xs) _ xs _
        (passes _ 15 _ (ap not (eq-eqb (length xs) 188 whole)) (passes _ 32 _ (ap not (eq-eqb (get_or xs 0 0) 0x47 sync)) (passes _ 31 None (ap some w) refl))))

    pub packet_does : (b b' : Bool) (p : Phase) (f f' : Frame) (side side' : Sending) → admitted (phase_of b p) Packet ≡ Ok (Some f) → b' ≡ b
        → side.waits ≡ [] → f'.settings ≡ f.settings
        → f'.begun ≡ (f.begun + 1) % super_frame_packets f.settings → side' ≡ fed side xs
        → outcome done xs (seen (phase_of b' (Open f')) side') ≡ steps.step M (seen (phase_of b p) side) (calls.packet xs)
    packet_does b b' p f f' side side' a k w s n e =
        let t = takes Packet b p f refl (λ g. refl) (λ g. refl) a in
        ap (λ b. outcome done xs (seen (phase_of b (Open f')) side')) (k ∙ t.0)
        ∙ open_packet f f' side side' w s n e
        ∙ sym (λ i. steps.step M (seen (phase_of (t.0 i) (t.1 i)) side) (calls.packet xs))

  -- a close
  open_close : (f : Frame) (side side' : Sending) → f.begun ≡ 0 → side.waits ≡ [] → side' ≡ fed side (bytes (closing_packets f.settings))
      → outcome done [] (seen (Closing f) side') ≡ steps.step M (seen (Open f) side) calls.close
  open_close f side side' n w e =
      ap (λ s. outcome done [] (steps.closing f.settings s.waits)) e
      ∙ sym (accepted (steps.close_checks f.begun side.waits) _ [] _
      (passes _ 33 _ (ap not (eq-eqb f.begun 0 n)) (passes _ 31 None (ap some w) refl)))

  pub close_does : (b b' : Bool) (p : Phase) (f : Frame) (side side' : Sending) → admitted (phase_of b p) Close ≡ Ok (Some f) → b' ≡ b
      → f.begun ≡ 0 → side.waits ≡ [] → side' ≡ fed side (bytes (closing_packets f.settings))
      → outcome done [] (seen (phase_of b' (Closing f)) side') ≡ steps.step M (seen (phase_of b p) side) calls.close
  close_does b b' p f side side' a k n w e =
      let t = takes Close b p f refl (λ g. refl) (λ g. refl) a in
      ap (λ b. outcome done [] (seen (phase_of b (Closing f)) side')) (k ∙ t.0)
      ∙ open_close f side side' n w e
      ∙ sym (λ i. steps.step M (seen (phase_of (t.0 i) (t.1 i)) side) calls.close)

  -- a start
  pub start_does : (c : Codes) (s : Settings) (q : Phase) (n : ℕ) (f : Frame) (side side' : Sending) → q ≡ Idle → n ≡ M.taken
      → settings_read c ≡ Ok s → unfit M c ≡ None → f.settings ≡ s → f.begun ≡ 0 → side' ≡ new_sending M
      → outcome done [] (seen (phase_of (eqb n 256) (Open f)) side') ≡ steps.step M (seen q side) (calls.start c)
  start_does c s q n f side side' a k r u t z e =
      let fits : unfit_pile M s ≡ None = sym (ap (unfit_for M) r) ∙ u in
      let bytes_taken = eq-eqb n 256 (k ∙ (fit_since M s fits).takes_bytes) in
      ap (λ b. outcome done [] (seen (phase_of b (Open f)) side')) bytes_taken
      ∙ (λ i. outcome done [] (steps.opened (t i) (z i) (e i)))
      ∙ start-accepted M steps.idle (steps.started M) (settings_read c) s r u
      ∙ sym (ap (λ q. steps.step M (seen q side) (calls.start c)) a)

  -- a start that is refused by its codes or its pile
  pub start_refuses : (c : Codes) (r : Refusal) (q : Phase) (side : Sending) → q ≡ Idle → Some (number_of r) ≡ unfit M c
      → outcome (done_by (Err r)) [] (seen q side) ≡ steps.step M (seen q side) (calls.start c)
  start_refuses c r q side a u =
      ap (λ q. outcome (done_by (Err r)) [] (seen q side)) a
      ∙ start-refused M steps.idle (steps.started M) (settings_read c) r u
      ∙ sym (ap (λ q. steps.step M (seen q side) (calls.start c)) a)
