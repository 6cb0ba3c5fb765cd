-- A receiver after any succession of calls: the packets that it handed out and the bytes that wait are what the new pile gives for the cells heard, so
-- that its machine goes exactly the successions.
use Rattle.std.proofs.Common.{◌≡◌, ℕ, ◌*◌, ◌<◌, ◌≤◌, Bool, true, false, cond, not, eqb, ltb, List, [], ◌∷◌, ◌++◌, length, get_or, take, drop, Some, None, Ok, Err, Option, Result, sym, refl, ap, ◌∙◌, subst, arith, take-append-drop}
use Rattle.std.specs.List.{AllByRecursion}
use Rattle.std.proofs.lemmas.Bool.{ltb-true, ltb-false}
use Rattle.std.proofs.lemmas.List.{append-nil, append_assoc, length-take-le, drop_at, flat_map_more}
use Rattle.std.proofs.ByRecursion.{All-push}
use Rattle.refusal.specs.declared.Refusal.{Refusal}
use Rattle.refusal.specs.Numbers.{number_of}
use Rattle.settings.specs.declared.codes.Codes.{Codes}
use Rattle.settings.specs.declared.Settings.{Settings}
use Rattle.stage.specs.declared.Fault.{Fault}
use Rattle.stage.specs.Model.{Heard, Model, Receiving, ended, after_heard, told, new_receiving}
use Rattle.stage.specs.Rule.{Rule}
use Rattle.stage.proofs.Hearing.{hears_append, after_nothing_heard, after-after-heard}
use Rattle.settings.specs.Codes.{settings_read}
use Rattle.broadcast.specs.Calls.{Event, done, check, bytes, unfit_pile, meant}
use Rattle.broadcast.specs.Receiver.{Call, start, hear, collect, settings_by, heard_by, packets_by, settings_of, heard_of, packets_of, kept, Next, a_packet, a_fault, nothing, fault_next, next, is_some, Standing, standing, refusal, collects, accepted, passed, fills, left, Follows}
use Rattle.broadcast.specs.Steps.{Outcome, refuse, unless, starting, event}
use Rattle.broadcast.specs.ReceiverSteps.{Receiver, idle, tuned, started, hear_checks, handed, handing, step}
use Rattle.broadcast.proofs.Deciding.{Decided, decided, start_decided}
use Rattle.broadcast.proofs.Packets.{check_none, bytes_length}
use Rattle.broadcast.proofs.Going.{Answering}

-- whole packets, whatever they begin with
abbrev pub Sized : List ℕ → Type 0
Sized p = length p ≡ 188

pub sized_bytes : (gs : List (List ℕ)) → AllByRecursion Sized gs → length (bytes gs) ≡ 188 * length gs
sized_bytes gs a = bytes_length (λ g e. e) gs a

-- nothing can be collected: no whole packet, and no fault
pub none_next : (h : Heard) → is_some (next h) ≡ false → (length h.units < 188) × (h.fault ≡ None)
none_next h e =
    let p = pick (ltb (length h.units) 188) (eqb (get_or h.units 0 0) 0x47) h.fault e in
    (ltb-true (length h.units) 188 p.0, p.1)
  where
    pick : (b d : Bool) (f : Option Fault)
        → is_some (cond b (fault_next f) (cond d (a_packet (take 188 h.units)) (a_fault (record { stage = 0; cause = 5 })))) ≡ false
        → (b ≡ true) × (f ≡ None)
    pick true d None e = (refl, refl)
    pick true d (Some f) e = let z : ◌≡◌ {A = ℕ} 0 1 = cc in absurd (omega arith)
    pick false true f e = let z : ◌≡◌ {A = ℕ} 0 1 = cc in absurd (omega arith)
    pick false false f e = let z : ◌≡◌ {A = ℕ} 0 1 = cc in absurd (omega arith)

-- the side was told hs, and the packets gs of what it gave for that were handed out
pub record Tells (M : Model) (hs : List ℕ) (gs : List (List ℕ)) (side : Receiving) : Type 0 where
  pub are_whole : AllByRecursion Sized gs
  pub gave : bytes gs ++ side.waits.units ≡ (M.hears hs).units
  pub fault_is : side.waits.fault ≡ (M.hears hs).fault
  pub goes_on : side.future ≡ after_heard M.hears hs

-- what a receiver was set to, has heard and handed out
abbrev pub Reached : Model → Receiver → List Settings → List ℕ → List (List ℕ) → Type 0
Reached M idle ss hs gs = (ss ≡ []) × (hs ≡ []) × (gs ≡ [])
Reached M (tuned s side) ss hs gs = (ss ≡ s ∷ []) × Tells M hs gs side

moved : (M : Model) (r : Receiver) {ss ss' : List Settings} {hs hs' : List ℕ} {gs gs' : List (List ℕ)}
    → ss ≡ ss' → hs ≡ hs' → gs ≡ gs' → Reached M r ss hs gs → Reached M r ss' hs' gs'
moved M r {ss} {ss'} {hs} {hs'} {gs} {gs'} e f g t =
    subst (λ (w : List Settings). Reached M r w hs' gs') e
    (subst (λ (w : List ℕ). Reached M r ss w gs') f
    (subst (λ (w : List (List ℕ)). Reached M r ss hs w) g t))

module _ (M : Model) (m : Rule M) where
  tells_new : Tells M [] [] (new_receiving M)
  tells_new = record {
    are_whole = tt;
    gave = sym (ap (λ (h : Heard). h.units) m.hears_grow.none);
    fault_is = sym (ap (λ (h : Heard). h.fault) m.hears_grow.none);
    goes_on = λ i. λ zs. sym (after_nothing_heard m.hears_grow zs) i;
  }

  tells_told : (hs : List ℕ) (gs : List (List ℕ)) (side : Receiving) (c : ℕ) → is_some (next side.waits) ≡ false
      → Tells M hs gs side → Tells M (hs ++ (c ∷ [])) gs (told side (c ∷ []))
  tells_told hs gs side c e t =
      let old : Heard = M.hears hs in
      let more : Heard = after_heard M.hears hs (c ∷ []) in
      let free = (none_next side.waits e).1 in
      let clean : old.fault ≡ None = sym t.fault_is ∙ free in
      let now : (told side (c ∷ [])).waits ≡ record { units = side.waits.units ++ more.units; fault = more.fault } =
      (λ i. ended (free i) side.waits (t.goes_on i (c ∷ [])))
      in
      let new : M.hears (hs ++ (c ∷ [])) ≡ record { units = old.units ++ more.units; fault = more.fault } =
      hears_append m.hears_grow hs (c ∷ []) ∙ ap (λ (f : Option Fault). ended f old more) clean
      in
      record {
        are_whole = t.are_whole;
        gave =
            ap (λ (h : Heard). bytes gs ++ h.units) now
            ∙ sym (append_assoc (bytes gs) side.waits.units more.units)
            ∙ ap (λ (w : List ℕ). w ++ more.units) t.gave
            ∙ sym (ap (λ (h : Heard). h.units) new);
        fault_is = ap (λ (h : Heard). h.fault) now ∙ sym (ap (λ (h : Heard). h.fault) new);
        goes_on = λ i. λ zs. (ap (λ (g : List ℕ → Heard). after_heard g (c ∷ []) zs) t.goes_on ∙ after-after-heard m.hears_grow hs (c ∷ []) zs) i;
      }

  tells_handed : (hs : List ℕ) (gs : List (List ℕ)) (side : Receiving) → 188 ≤ length side.waits.units
      → Tells M hs gs side → Tells M hs (gs ++ (take 188 side.waits.units ∷ [])) (handed side)
  tells_handed hs gs side l t =
      let us : List ℕ = side.waits.units in
      record {
        are_whole = All-push Sized gs (take 188 us) t.are_whole (length-take-le 188 us l);
        gave =
            ap (λ (w : List ℕ). w ++ drop 188 us) (sym (flat_map_more (λ (x : List ℕ). x) [] gs (take 188 us)))
            ∙ append_assoc (bytes gs) (take 188 us) (drop 188 us)
            ∙ ap (λ (w : List ℕ). bytes gs ++ w) (take-append-drop 188 us)
            ∙ t.gave;
        fault_is = t.fault_is;
        goes_on = t.goes_on;
      }

  module _ (ss : List Settings) (hs : List ℕ) (gs : List (List ℕ)) where
    -- where a call with this outcome leads
    abbrev Leads : Call → Outcome Receiver → Type 0
    Leads c o = Reached M o.state (ss ++ settings_by c o.answer) (hs ++ heard_by c o.answer) (gs ++ packets_by c o.answer o.buffer)

    -- a call that adds nothing
    adds_none : (r : Receiver) → Reached M r ss hs gs → Reached M r (ss ++ []) (hs ++ []) (gs ++ [])
    adds_none r t = moved M r (sym (append-nil ss)) (sym (append-nil hs)) (sym (append-nil gs)) t

    refuses : (c : Call) (number : ℕ) (r : Receiver) (buffer : List ℕ) → Reached M r ss hs gs → Leads c (refuse number r buffer)
    refuses (start c) number r buffer t = adds_none r t
    refuses (hear u) number r buffer t = adds_none r t
    refuses (collect old) number r buffer t = adds_none r t

    checked : (c : Call) (v : Option ℕ) (r : Receiver) (buffer : List ℕ) (o : Outcome Receiver) → Reached M r ss hs gs
        → (v ≡ None → Leads c o) → Leads c (unless v r buffer o)
    checked c (Some number) r buffer o t f = refuses c number r buffer t
    checked c None r buffer o t f = f refl

    start_leads : (c : Codes) (v : Result Settings Refusal) → settings_read c ≡ v → Reached M idle ss hs gs → Leads (start c) (starting M idle (started M) v)
    start_leads c (Err x) q t = refuses (start c) (number_of x) idle [] t
    start_leads c (Ok s) q t =
        checked (start c) (unfit_pile M s) idle [] (record { answer = done; buffer = []; state = started M s }) t (λ e.
        moved M (tuned s (new_receiving M)) (sym (ap meant q) ∙ ap (λ (w : List Settings). w ++ meant (settings_read c)) (sym t.0))
        (sym t.1 ∙ sym (append-nil hs)) (sym t.2 ∙ sym (append-nil gs)) (refl, tells_new))

    hear_leads : (s : Settings) (side : Receiving) (u : ℕ) → Reached M (tuned s side) ss hs gs → hear_checks M side u ≡ None
        → Leads (hear u) (record { answer = done; buffer = []; state = tuned s (told side (u ∷ [])) })
    hear_leads s side u t e =
        let a = check_none (not (ltb u M.given)) 21 _ e in
        let b = check_none (is_some (next side.waits)) 22 None a.1 in
        moved M (tuned s (told side (u ∷ []))) (sym (append-nil ss)) refl (sym (append-nil gs)) (t.0, tells_told hs gs side u b.0 t.1)

    handing_leads : (s : Settings) (side : Receiving) (buffer : List ℕ) → Reached M (tuned s side) ss hs gs
        → (n : Next) → next side.waits ≡ n → Leads (collect buffer) (handing n s side buffer)
    handing_leads s side buffer t (a_packet g) e =
        let us : List ℕ = side.waits.units in
        let k = pick (ltb (length us) 188) (eqb (get_or us 0 0) 0x47) side.waits.fault e in
        moved M (tuned s (handed side)) (sym (append-nil ss)) (sym (append-nil hs)) (ap {B = List (List ℕ)} (λ (w : List ℕ). gs ++ (w ∷ [])) k.1)
        (t.0, tells_handed hs gs side (ltb-false (length us) 188 k.0) t.1)
      where
        pick : (b d : Bool) (o : Option Fault)
            → cond b (fault_next o) (cond d (a_packet (take 188 side.waits.units)) (a_fault (record { stage = 0; cause = 5 }))) ≡ a_packet g
            → (b ≡ false) × (take 188 side.waits.units ≡ g)
        pick true d None e = let z : ◌≡◌ {A = ℕ} 0 1 = cc in absurd (omega arith)
        pick true d (Some x) e = let z : ◌≡◌ {A = ℕ} 0 1 = cc in absurd (omega arith)
        pick false true o e = (refl, cc)
        pick false false o e = let z : ◌≡◌ {A = ℕ} 0 1 = cc in absurd (omega arith)
    handing_leads s side buffer t (a_fault f) e = adds_none (tuned s side) t
    handing_leads s side buffer t nothing e = adds_none (tuned s side) t

    step_leads : (r : Receiver) (c : Call) → Reached M r ss hs gs → Leads c (step M r c)
    step_leads idle (start c) t = start_leads c (settings_read c) refl t
    step_leads idle (hear u) t = refuses (hear u) 30 idle [] t
    step_leads idle (collect buffer) t = refuses (collect buffer) 30 idle buffer t
    step_leads (tuned s side) (start c) t = refuses (start c) 35 (tuned s side) [] t
    step_leads (tuned s side) (hear u) t =
        checked (hear u) (hear_checks M side u) (tuned s side) [] (record { answer = done; buffer = []; state = tuned s (told side (u ∷ [])) }) t
        (hear_leads s side u t)
    step_leads (tuned s side) (collect buffer) t =
        checked (collect buffer) (check (not (eqb (length buffer) 188)) 15 None) (tuned s side) buffer (handing (next side.waits) s side buffer) t
        (λ e. handing_leads s side buffer t (next side.waits) refl)

-- The receiver's phase as a standing, and what a call answers by it.
abbrev stands : Receiver → Standing
stands idle = record { settings = []; ready = nothing }
stands (tuned s side) = record { settings = s ∷ []; ready = next side.waits }

module _ (M : Model) where
  -- an outcome by the standing
  abbrev As : Standing → Call → Outcome Receiver → Type 0
  As h c o = Decided (refusal M h c) (accepted h c) (passed c) (left h c) o

  handing-answer : (n : Next) (s : Settings) (side : Receiving) (buffer : List ℕ) → (handing n s side buffer).answer ≡ collects n
  handing-answer (a_packet p) s side buffer = refl
  handing-answer (a_fault f) s side buffer = refl
  handing-answer nothing s side buffer = refl

  handing_buffer : (n : Next) (s : Settings) (side : Receiving) (buffer : List ℕ) → (handing n s side buffer).buffer ≡ fills n buffer
  handing_buffer (a_packet p) s side buffer = refl
  handing_buffer (a_fault f) s side buffer = refl
  handing_buffer nothing s side buffer = refl

  step-stands : (r : Receiver) (c : Call) → As (stands r) c (step M r c)
  step-stands idle (start c) = start_decided M idle (started M) (settings_read c)
  step-stands idle (hear u) = record { answers = refl; leaves = refl }
  step-stands idle (collect buffer) = record { answers = refl; leaves = refl }
  step-stands (tuned s side) (start c) = record { answers = refl; leaves = refl }
  step-stands (tuned s side) (hear u) = decided (hear_checks M side u) (tuned s side) _ refl refl refl
  step-stands (tuned s side) (collect buffer) =
      decided (refusal M (stands (tuned s side)) (collect buffer)) (tuned s side)
      (handing (next side.waits) s side buffer) refl
      (handing-answer (next side.waits) s side buffer) (handing_buffer (next side.waits) s side buffer)

  -- what is kept, by what was heard and handed out
  abbrev kept_of : List ℕ → List (List ℕ) → Heard
  kept_of hs gs = record { units = drop (188 * length gs) (M.hears hs).units; fault = (M.hears hs).fault }

  is_kept : (hs : List ℕ) (gs : List (List ℕ)) (side : Receiving) → Tells M hs gs side → kept_of hs gs ≡ side.waits
  is_kept hs gs side t =
      let us : drop (188 * length gs) (M.hears hs).units ≡ side.waits.units =
      ap (drop (188 * length gs)) (sym t.gave) ∙ drop_at (bytes gs) side.waits.units (188 * length gs) (sized_bytes gs t.are_whole)
      in
      λ i. record { units = us i; fault = sym t.fault_is i }

  is_standing : Rule M → (r : Receiver) (ss : List Settings) (hs : List ℕ) (gs : List (List ℕ)) → Reached M r ss hs gs
      → ◌≡◌ {A = Standing} (record { settings = ss; ready = next (kept_of hs gs) }) (stands r)
  is_standing m idle ss hs gs t =
      (λ i. record { settings = t.0 i; ready = next (kept_of (t.1 i) (t.2 i)) })
      ∙ ap {B = Standing} (λ (h : Heard). record { settings = []; ready = next h }) m.hears_grow.none
  is_standing m (tuned s side) ss hs gs t = λ i. record { settings = t.0 i; ready = next (is_kept hs gs side t.1 i) }

  abbrev pub Inv : List (Event Call) → Receiver → Type 0
  Inv es r = Reached M r (settings_of es) (heard_of es) (packets_of es)

  by_standing : Rule M → (es : List (Event Call)) (r : Receiver) (c : Call) → Inv es r → As (standing M es) c (step M r c)
  by_standing m es r c i =
      subst (λ (h : Standing). As h c (step M r c)) (sym (is_standing m r (settings_of es) (heard_of es) (packets_of es) i)) (step-stands r c)

  does : Rule M → (es : List (Event Call)) (r : Receiver) (c : Call) → Unit {0} → Inv es r → Follows M es (event c (step M r c))
  does m es r c t i = let a = by_standing m es r c i in record { answer_is = a.answers; buffer_is = a.leaves }

  agrees : Rule M → (es : List (Event Call)) (r : Receiver) (e : Event Call) → Inv es r → Follows M es e → event e.call (step M r e.call) ≡ e
  agrees m es r e i f =
      let a = by_standing m es r e.call i in
      let p = a.answers ∙ sym f.answer_is in
      let q = a.leaves ∙ sym f.buffer_is in
      λ k. record { call = e.call; answer = p k; buffer = q k }

  goes : Rule M → (es : List (Event Call)) (r : Receiver) (c : Call) → Unit {0} → Inv es r → Inv (es ++ (event c (step M r c) ∷ [])) (step M r c).state
  goes m es r c t i =
      let e : Event Call = event c (step M r c) in
      moved M (step M r c).state
      (flat_map_more (λ (x : Event Call). settings_by x.call x.answer) [] es e)
      (flat_map_more (λ (x : Event Call). heard_by x.call x.answer) [] es e)
      (flat_map_more (λ (x : Event Call). packets_by x.call x.answer x.buffer) [] es e)
      (step_leads M m (settings_of es) (heard_of es) (packets_of es) r c i)

  pub answering : Rule M → Answering (Follows M) (step M) idle (λ c. Unit {0}) Inv
  answering m = record {
    typed = λ es e f. tt;
    starts = (refl, refl, refl);
    does = does m;
    agrees = agrees m;
    goes = goes m;
  }

-- what was handed out, and what is kept, is what the pile gave
pub record Keeps (M : Model) (es : List (Event Call)) : Type 0 where
  pub are_whole : AllByRecursion Sized (packets_of es)
  pub gave : bytes (packets_of es) ++ (kept M es).units ≡ (M.hears (heard_of es)).units

pub keeps : (M : Model) → Rule M → (es : List (Event Call)) (r : Receiver) → Inv M es r → Keeps M es
keeps M m es idle i = record {
  are_whole = subst (λ (w : List (List ℕ)). AllByRecursion Sized w) (sym i.2) tt;
  gave = ap (λ (w : List (List ℕ)). bytes w ++ (kept_of M (heard_of es) w).units) i.2;
}
keeps M m es (tuned s side) i = record {
  are_whole = i.1.are_whole;
  gave = ap (λ (h : Heard). bytes (packets_of es) ++ h.units) (is_kept M (heard_of es) (packets_of es) side i.1) ∙ i.1.gave;
}
