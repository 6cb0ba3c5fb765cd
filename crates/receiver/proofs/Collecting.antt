-- The calls of a receiver, from what their checks have found.
use Rattle.std.proofs.Common.{◌≡◌, ℕ, ◌<◌, Bool, true, false, cond, not, eqb, ltb, List, [], ◌∷◌, ◌++◌, length, get_or, take, is_some as option_is_some, Some, None, Ok, Err, Option, sym, refl, ap, ◌∙◌, ap₂, arith, length-append}
use Rattle.std.proofs.lemmas.List.{append-nil, take_at, drop_at, get_or_append_left}
use Rattle.std.proofs.lemmas.Bool.{lt-ltb, le-ltb, eq-eqb}
use Rattle.stage.specs.Model.{Model, Receiving, silence, told, heard, some_heard, after_heard, new_receiving}
use Rattle.stage.proofs.Offers.{offer_heard}
use Rattle.refusal.specs.declared.Refusal.{Refusal}
use Rattle.refusal.specs.Numbers.{number_of}
use Rattle.settings.specs.declared.codes.Codes.{Codes}
use Rattle.settings.specs.declared.Settings.{Settings}
use Rattle.settings.specs.Codes.{settings_read}
use Rattle.broadcast.specs.Calls.{refused, failed, done, counted, check, unfit}
use Rattle.broadcast.specs.Steps.{unless}
use Rattle.broadcast.specs.Receiver as calls
use Rattle.broadcast.specs.Receiver.{next, is_some, fault_next, a_packet, a_fault}
use Rattle.broadcast.specs.ReceiverSteps as steps
use Rattle.broadcast.specs.ReceiverSteps.{handing, handed}
use Rattle.broadcast.proofs.Deciding.{start-accepted, start-refused}
use Rattle.receiver.specs.View.{held, tuned_by, outcome, done_by}

module _ (M : Model) (o : Option Settings) (s : Settings) (is : o ≡ Some s) where
  -- a hear that is refused since something waits
  pub hear_busy : (c : ℕ) (side side' : Receiving) → c < M.given → is_some (next side.waits) ≡ true → side' ≡ side
      → outcome (refused 22) [] (tuned_by o side') ≡ steps.step M (tuned_by o side) (calls.hear c)
  hear_busy c side side' l w e =
      ap₂ (λ o r. outcome (refused 22) [] (tuned_by o r)) is e
      ∙ sym (ap₂ (λ a b. unless (check (not a) 21 (check b 22 None)) (steps.tuned s side) []
      (record { answer = done; buffer = []; state = steps.tuned s (told side (c ∷ [])) })) (lt-ltb c M.given l) w)
      ∙ sym (ap (λ o. steps.step M (tuned_by o side) (calls.hear c)) is)

  -- a hear: what the pile gives for the cell comes after what was gathered
  told-held : (c n : ℕ) (us : List ℕ) (r r' : Receiving) → c < n → r.waits ≡ silence
      → r' ≡ heard (ltb c n) (some_heard r.waits) r c → held us r' ≡ told (held us r) (c ∷ [])
  told-held c n us r r' l w e =
      let p : us ++ [] ≡ us ++ r.waits.units = ap (λ h. us ++ h.units) (sym w) in
      let f : None ≡ r.waits.fault = ap (λ h. h.fault) (sym w) in
      ap (held us) (e ∙ offer_heard r c n l w)
      ∙ ap (λ v. held_after v) (sym (append-nil us))
      ∙ (λ i. told (record { waits = record { units = p i; fault = f i }; future = r.future }) (c ∷ []))
    where
      held_after : List ℕ → Receiving
      held_after v = record {
        waits = record { units = v ++ (r.future (c ∷ [])).units; fault = (r.future (c ∷ [])).fault };
        future = after_heard r.future (c ∷ []);
      }

  pub hear_does : (c n : ℕ) (us : List ℕ) (side r r' : Receiving) → c < M.given → n ≡ M.given → is_some (next side.waits) ≡ false
      → held us r ≡ side → r.waits ≡ silence → r' ≡ heard (ltb c n) (some_heard r.waits) r c
      → outcome done [] (tuned_by o (held us r')) ≡ steps.step M (tuned_by o side) (calls.hear c)
  hear_does c n us side r r' l k free e w q =
      let m : c < n = omega arith in
      ap₂ (λ o r. outcome done [] (tuned_by o r)) is (told-held c n us r r' m w q ∙ ap (λ r. told r (c ∷ [])) e)
      ∙ sym (ap₂ (λ a b. unless (check (not a) 21 (check b 22 None)) (steps.tuned s side) []
      (record { answer = done; buffer = []; state = steps.tuned s (told side (c ∷ [])) })) (lt-ltb c M.given l) free)
      ∙ sym (ap (λ o. steps.step M (tuned_by o side) (calls.hear c)) is)

  -- what is collected
  collecting : (buffer : List ℕ) (side : Receiving) → length buffer ≡ 188
      → steps.step M (tuned_by o side) (calls.collect buffer) ≡ handing (next side.waits) s side buffer
  collecting buffer side l =
      ap (λ o. steps.step M (tuned_by o side) (calls.collect buffer)) (is)
      ∙ ap (λ b. unless (check (not b) 15 None) (steps.tuned s side) buffer (handing (next side.waits) s side buffer)) (eq-eqb (length buffer) 188 l)

  -- 188 bytes were gathered
  module _ (us buffer : List ℕ) (side r : Receiving) (whole : length us ≡ 188) (e : held us r ≡ side) (l : length buffer ≡ 188) where
    first : get_or (us ++ r.waits.units) 0 0 ≡ get_or us 0 0
    first = get_or_append_left us r.waits.units 0 0 (omega arith)

    long : ltb (length (us ++ r.waits.units)) 188 ≡ false
    long = le-ltb (length (us ++ r.waits.units)) 188 (omega (arith, length-append us r.waits.units))

    next_is : (b : Bool) → eqb (get_or us 0 0) 0x47 ≡ b
        → next side.waits ≡ cond b (a_packet (take 188 (us ++ r.waits.units))) (a_fault (record { stage = 0; cause = 5 }))
    next_is b f =
        ap (λ r. next r.waits) (sym e)
        ∙ ap₂ (λ a b. cond a (fault_next r.waits.fault) (cond b (a_packet (take 188 (us ++ r.waits.units))) (a_fault (record { stage = 0; cause = 5 }))))
        long (ap (λ x. eqb x 0x47) first ∙ f)

    pub collect_wrong : eqb (get_or us 0 0) 0x47 ≡ false
        → outcome (failed (record { stage = 0; cause = 5 })) buffer (tuned_by o (held us r)) ≡ steps.step M (tuned_by o side) (calls.collect buffer)
    collect_wrong f =
        ap₂ (λ o r. outcome (failed (record { stage = 0; cause = 5 })) buffer (tuned_by o r)) (is) e
        ∙ sym (ap (λ n. handing n s side buffer) (next_is false f))
        ∙ sym (collecting buffer side l)

    pub collect_does : eqb (get_or us 0 0) 0x47 ≡ true
        → outcome (counted 188) us (tuned_by o (held [] r)) ≡ steps.step M (tuned_by o side) (calls.collect buffer)
    collect_does f =
        let front = take_at us r.waits.units 188 whole in
        let rest = drop_at us r.waits.units 188 whole in
        (λ i. outcome (counted 188) (sym front i)
        (tuned_by (is i) (record { waits = record { units = sym rest i; fault = r.waits.fault }; future = r.future })))
        ∙ ap (λ r'. outcome (counted 188) (take 188 (us ++ r.waits.units)) (steps.tuned s (handed r'))) e
        ∙ sym (ap (λ n. handing n s side buffer) (next_is true f))
        ∙ sym (collecting buffer side l)

-- a start that is refused by its codes or its pile, and one that is not
module _ (M : Model) (c : Codes) (o : Option Settings) (none : option_is_some o ≡ false) where
  idle_at : (side : Receiving) → tuned_by o side ≡ steps.idle
  idle_at side = go o none
    where
      go : (o : Option Settings) → option_is_some o ≡ false → tuned_by o side ≡ steps.idle
      go None e = refl
      go (Some s) e = let z : ◌≡◌ {A = ℕ} 0 1 = cc in absurd (omega arith)

  pub start_refuses : (r : Refusal) (side : Receiving) → Some (number_of r) ≡ unfit M c
      → outcome (done_by (Err r)) [] (tuned_by o side) ≡ steps.step M (tuned_by o side) (calls.start c)
  start_refuses r side u =
      ap (outcome (done_by (Err r)) []) (idle_at side)
      ∙ start-refused M steps.idle (steps.started M) (settings_read c) r u
      ∙ sym (ap (λ l. steps.step M l (calls.start c)) (idle_at side))

  pub start_does : (s : Settings) (side side' : Receiving) → settings_read c ≡ Ok s → unfit M c ≡ None → side' ≡ new_receiving M
      → outcome done [] (tuned_by (Some s) side') ≡ steps.step M (tuned_by o side) (calls.start c)
  start_does s side side' r u e =
      ap (λ x. outcome done [] (steps.tuned s x)) e
      ∙ start-accepted M steps.idle (steps.started M) (settings_read c) s r u
      ∙ sym (ap (λ l. steps.step M l (calls.start c)) (idle_at side))
