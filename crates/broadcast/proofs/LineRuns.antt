-- A line after any succession of calls: its cells so far and those that wait are what the new pile gives for the accepted packets, so that its machine
-- goes exactly the successions.
use Rattle.std.proofs.Common.{◌≡◌, ℕ, ◌+◌, ◌%◌, Bool, true, false, cond, not, ◌||◌, eqb, List, [], ◌∷◌, ◌++◌, length, get_or, take, drop, Some, None, Ok, Err, Option, Result, sym, refl, ap, ◌∙◌, subst, arith, take-append-drop, length-take}
use native.Mathlib.Nat.{zero-mod, mod-add-mod}
use Rattle.std.specs.List.{flat_map, AllByRecursion}
use Rattle.std.proofs.Math.Bool.{or-false, or-true}
use Rattle.std.proofs.lemmas.Bool.{eqb-true, not-false}
use Rattle.std.proofs.lemmas.Grind.{flat_map-append}
use Rattle.std.proofs.lemmas.List.Recursion.{or_push}
use Rattle.std.proofs.lemmas.List.{append-nil, append_assoc, take_at, drop_at, length_push, flat_map_more}
use Rattle.std.proofs.ByRecursion.{All-push}
use Rattle.refusal.specs.declared.Refusal.{Refusal}
use Rattle.refusal.specs.Numbers.{number_of}
use Rattle.settings.specs.declared.codes.Codes.{Codes}
use Rattle.settings.specs.declared.Settings.{Settings}
use Rattle.stage.specs.Model.{Model, Sending, fed, new_sending, after}
use Rattle.stage.specs.Rule.{Under, Rule}
use Rattle.stage.proofs.Futures.{sends_append, after_nothing, after-after}
use Rattle.settings.specs.Codes.{settings_read}
use Rattle.settings.specs.SuperFrame.{super_frame_packets}
use Rattle.tps.specs.Block.{block, refused as tps_refused}
use Rattle.tps.specs.Laws.{Identifier}
use Rattle.broadcast.specs.Calls.{Event, done, bytes, closing_packets, unfit_pile, meant}
use Rattle.broadcast.specs.Line.{Call, start, packet, cells, close, tps, settings_by, packets_by, cells_by, closes_by, settings_of, packets_of, cells_of, closed_by, frame_of, room, written, Typed, Standing, standing, refusal, accepted, passed, left, Follows}
use Rattle.broadcast.specs.Steps.{Outcome, refuse, unless, starting, event}
use Rattle.broadcast.specs.LineSteps.{Line, idle, opened, closing, started, packet_checks, close_checks, step}
use Rattle.broadcast.proofs.Deciding.{Decided, decided, start_decided}
use Rattle.broadcast.proofs.Packets.{Packet, Fit, check_none, fit_since, read_identifier}
use Rattle.broadcast.proofs.Going.{Answering}

-- the side was fed xs, and ys of what it gave for that were taken away
pub record Fed (M : Model) (xs ys : List ℕ) (side : Sending) : Type 0 where
  pub gave : ys ++ side.waits ≡ M.sends xs
  pub goes_on : side.future ≡ after M.sends xs

-- what start and packet have checked
pub record Accepted (M : Model) (s : Settings) (ss : List Settings) (ps : List (List ℕ)) : Type 0 where
  pub one : ss ≡ s ∷ []
  pub identified : Identifier s.identifier
  pub fit : Fit M s
  pub are_packets : AllByRecursion Packet ps

pub record Opened (M : Model) (s : Settings) (n : ℕ) (side : Sending) (ss : List Settings) (ps : List (List ℕ)) (ys : List ℕ) (b : Bool) : Type 0 where
  pub took : Accepted M s ss ps
  pub count : n ≡ length ps % super_frame_packets s
  pub feeds : Fed M (bytes ps) ys side
  pub not_closed : b ≡ false

pub record Closed (M : Model) (s : Settings) (cs : List ℕ) (ss : List Settings) (ps : List (List ℕ)) (ys : List ℕ) (b : Bool) : Type 0 where
  pub took : Accepted M s ss ps
  pub whole_frames : length ps % super_frame_packets s ≡ 0
  pub gave : ys ++ cs ≡ M.sends (bytes ps ++ bytes (closing_packets s))
  pub is_closed : b ≡ true

-- the settings ss, packets ps and cells ys of a succession that leads to the line l, and whether a close was accepted
abbrev pub Reached : Model → Line → List Settings → List (List ℕ) → List ℕ → Bool → Type 0
Reached M idle ss ps ys b = (ss ≡ []) × (ps ≡ []) × (ys ≡ []) × (b ≡ false)
Reached M (opened s n side) ss ps ys b = Opened M s n side ss ps ys b
Reached M (closing s cs) ss ps ys b = Closed M s cs ss ps ys b

moved : (M : Model) (l : Line) {ss ss' : List Settings} {ps ps' : List (List ℕ)} {ys ys' : List ℕ} {b b' : Bool}
    → ss ≡ ss' → ps ≡ ps' → ys ≡ ys' → b ≡ b' → Reached M l ss ps ys b → Reached M l ss' ps' ys' b'
moved M l {ss} {ss'} {ps} {ps'} {ys} {ys'} {b} {b'} e f g h r =
    subst (λ (w : List Settings). Reached M l w ps' ys' b') e
    (subst (λ (w : List (List ℕ)). Reached M l ss w ys' b') f
    (subst (λ (w : List ℕ). Reached M l ss ps w b') g
    (subst (λ (w : Bool). Reached M l ss ps ys w) h r)))

closed_push : (es : List (Event Call)) (e : Event Call) → (closed_by es || closes_by e.call e.answer) ≡ closed_by (es ++ (e ∷ []))
closed_push es e = sym (or_push closed_by (λ (x : Event Call). closes_by x.call x.answer) refl (λ x xs. refl) es e)

module _ (M : Model) (m : Rule M) where
  fed_new : Fed M [] [] (new_sending M)
  fed_new = record {
    gave = sym m.sends_grow.none;
    goes_on = λ i. λ zs. sym (after_nothing m.sends_grow zs) i;
  }

  fed-more : (xs ys zs : List ℕ) (side : Sending) → Fed M xs ys side → Fed M (xs ++ zs) ys (fed side zs)
  fed-more xs ys zs side f = record {
    gave =
        sym (append_assoc ys side.waits (side.future zs))
        ∙ (λ i. f.gave i ++ f.goes_on i zs)
        ∙ sym (sends_append m.sends_grow xs zs);
    goes_on = λ i. λ ws. (ap (λ (g : List ℕ → List ℕ). after g zs ws) f.goes_on ∙ after-after m.sends_grow xs zs ws) i;
  }

  fed_taken : (xs ys : List ℕ) (side : Sending) (n : ℕ) → Fed M xs ys side
      → Fed M xs (ys ++ take n side.waits) (record { waits = drop n side.waits; future = side.future })
  fed_taken xs ys side n f = record {
    gave =
        append_assoc ys (take n side.waits) (drop n side.waits)
        ∙ ap (λ (w : List ℕ). ys ++ w) (take-append-drop n side.waits)
        ∙ f.gave;
    goes_on = f.goes_on;
  }

  -- the cells that are written are the first that wait
  written_cells : (waits buffer : List ℕ) → take (room waits buffer) waits ≡ take (room waits buffer) (written (take (room waits buffer) waits) buffer)
  written_cells waits buffer =
      let n = room waits buffer in
      sym (take_at (take n waits) (drop (length (take n waits)) buffer) n (omega (arith, length-take n waits)))

  module _ (ss : List Settings) (ps : List (List ℕ)) (ys : List ℕ) (b : Bool) where
    -- where a call with this outcome leads
    abbrev Leads : Call → Outcome Line → Type 0
    Leads c o =
        Reached M o.state (ss ++ settings_by c o.answer) (ps ++ packets_by c o.answer) (ys ++ cells_by c o.answer o.buffer)
        (b || closes_by c o.answer)

    -- a call that adds nothing but cells
    wrote : (l : Line) (zs : List ℕ) → Reached M l ss ps (ys ++ zs) b → Reached M l (ss ++ []) (ps ++ []) (ys ++ zs) (b || false)
    wrote l zs r = moved M l (sym (append-nil ss)) (sym (append-nil ps)) refl (sym (or-false b)) r

    kept : (l : Line) → Reached M l ss ps ys b → Reached M l (ss ++ []) (ps ++ []) (ys ++ []) (b || false)
    kept l r = moved M l (sym (append-nil ss)) (sym (append-nil ps)) (sym (append-nil ys)) (sym (or-false b)) r

    refuses : (c : Call) (number : ℕ) (l : Line) (buffer : List ℕ) → Reached M l ss ps ys b → Leads c (refuse number l buffer)
    refuses (start c) number l buffer r = kept l r
    refuses (packet p) number l buffer r = kept l r
    refuses (cells old) number l buffer r = kept l r
    refuses close number l buffer r = kept l r
    refuses (tps frame old) number l buffer r = kept l r

    checked : (c : Call) (v : Option ℕ) (l : Line) (buffer : List ℕ) (o : Outcome Line) → Reached M l ss ps ys b
        → (v ≡ None → Leads c o) → Leads c (unless v l buffer o)
    checked c (Some number) l buffer o r f = refuses c number l buffer r
    checked c None l buffer o r f = f refl

    start_leads : (c : Codes) (v : Result Settings Refusal) → settings_read c ≡ v → Identifier c.identifier → Reached M idle ss ps ys b
        → Leads (start c) (starting M idle (started M) v)
    start_leads c (Err x) q i r = refuses (start c) (number_of x) idle [] r
    start_leads c (Ok s) q i r =
        checked (start c) (unfit_pile M s) idle [] (record { answer = done; buffer = []; state = started M s }) r (λ e.
        moved M (opened s 0 (new_sending M)) (sym (ap meant q) ∙ ap (λ (w : List Settings). w ++ meant (settings_read c)) (sym r.0))
        (sym r.1 ∙ sym (append-nil ps)) (sym r.2 ∙ sym (append-nil ys)) (sym r.3 ∙ sym (or-false b))
        (record {
          took = record { one = refl; identified = subst Identifier (read_identifier c s q) i; fit = fit_since M s e; are_packets = tt };
          count = sym (zero-mod (super_frame_packets s));
          feeds = fed_new;
          not_closed = refl;
        }))

    packet_leads : (s : Settings) (n : ℕ) (side : Sending) (p : List ℕ) → Under 256 p → Opened M s n side ss ps ys b
        → packet_checks side.waits p ≡ None
        → Leads (packet p) (record { answer = done; buffer = p; state = opened s ((n + 1) % super_frame_packets s) (fed side p) })
    packet_leads s n side p u r e =
        let w = check_none (not (eqb (length p) 188)) 15 _ e in
        let f = check_none (not (eqb (get_or p 0 0) 0x47)) 32 _ w.1 in
        let is : Packet p = record {
          whole = eqb-true (length p) 188 (not-false (eqb (length p) 188) w.0);
          sync = eqb-true (get_or p 0 0) 0x47 (not-false (eqb (get_or p 0 0) 0x47) f.0);
          units = u;
        }
        in
        let old = r.took in
        moved M (opened s ((n + 1) % super_frame_packets s) (fed side p)) (sym (append-nil ss)) refl (sym (append-nil ys)) (sym (or-false b))
        (record {
          took = record { one = old.one; identified = old.identified; fit = old.fit; are_packets = All-push Packet ps p old.are_packets is };
          count =
              ap (λ (k : ℕ). (k + 1) % super_frame_packets s) r.count
              ∙ mod-add-mod (length ps) (super_frame_packets s) 1
              ∙ sym (ap (λ (k : ℕ). k % super_frame_packets s) (length_push ps p));
          feeds = subst (λ (w : List ℕ). Fed M w ys (fed side p)) (flat_map_more (λ (x : List ℕ). x) [] ps p) (fed-more (bytes ps) ys p side r.feeds);
          not_closed = r.not_closed;
        })

    close_leads : (s : Settings) (n : ℕ) (side : Sending) → Opened M s n side ss ps ys b → close_checks n side.waits ≡ None
        → Leads close (record { answer = done; buffer = []; state = closing s (fed side (bytes (closing_packets s))).waits })
    close_leads s n side r e =
        let w = check_none (not (eqb n 0)) 33 _ e in
        moved M (closing s (fed side (bytes (closing_packets s))).waits) (sym (append-nil ss)) (sym (append-nil ps)) (sym (append-nil ys)) (sym (or-true b))
        (record {
          took = r.took;
          whole_frames = sym r.count ∙ eqb-true n 0 (not-false (eqb n 0) w.0);
          gave = (fed-more (bytes ps) ys (bytes (closing_packets s)) side r.feeds).gave;
          is_closed = refl;
        })

    step_leads : (l : Line) (c : Call) → Typed c → Reached M l ss ps ys b → Leads c (step M l c)
    step_leads idle (start c) t r = start_leads c (settings_read c) refl t r
    step_leads idle (packet p) t r = refuses (packet p) 30 idle p r
    step_leads idle (cells buffer) t r = refuses (cells buffer) 30 idle buffer r
    step_leads idle close t r = refuses close 30 idle [] r
    step_leads idle (tps frame buffer) t r = refuses (tps frame buffer) 30 idle buffer r
    step_leads (opened s n side) (start c) t r = refuses (start c) 35 (opened s n side) [] r
    step_leads (opened s n side) (packet p) t r =
        checked (packet p) (packet_checks side.waits p) (opened s n side) p
        (record { answer = done; buffer = p; state = opened s ((n + 1) % super_frame_packets s) (fed side p) }) r (packet_leads s n side p t r)
    step_leads (opened s n side) (cells buffer) t r =
        let k = room side.waits buffer in
        let rest : Sending = record { waits = drop k side.waits; future = side.future } in
        wrote (opened s n rest) (take k (written (take k side.waits) buffer))
        (record {
          took = r.took;
          count = r.count;
          feeds = subst (λ (w : List ℕ). Fed M (bytes ps) (ys ++ w) rest) (written_cells side.waits buffer) (fed_taken (bytes ps) ys side k r.feeds);
          not_closed = r.not_closed;
        })
    step_leads (opened s n side) close t r =
        checked close (close_checks n side.waits) (opened s n side) []
        (record { answer = done; buffer = []; state = closing s (fed side (bytes (closing_packets s))).waits }) r (close_leads s n side r)
    step_leads (opened s n side) (tps frame buffer) t r =
        checked (tps frame buffer) (tps_refused frame buffer) (opened s n side) buffer
        (record { answer = done; buffer = block s frame ++ drop 67 buffer; state = opened s n side }) r (λ e. kept (opened s n side) r)
    step_leads (closing s cs) (start c) t r = refuses (start c) 35 (closing s cs) [] r
    step_leads (closing s cs) (packet p) t r = refuses (packet p) 34 (closing s cs) p r
    step_leads (closing s cs) (cells buffer) t r =
        let k = room cs buffer in
        wrote (closing s (drop k cs)) (take k (written (take k cs) buffer))
        (record {
          took = r.took;
          whole_frames = r.whole_frames;
          gave =
              ap (λ (w : List ℕ). (ys ++ w) ++ drop k cs) (sym (written_cells cs buffer))
              ∙ append_assoc ys (take k cs) (drop k cs)
              ∙ ap (λ (w : List ℕ). ys ++ w) (take-append-drop k cs)
              ∙ r.gave;
          is_closed = r.is_closed;
        })
    step_leads (closing s cs) close t r = refuses close 34 (closing s cs) [] r
    step_leads (closing s cs) (tps frame buffer) t r =
        checked (tps frame buffer) (tps_refused frame buffer) (closing s cs) buffer
        (record { answer = done; buffer = block s frame ++ drop 67 buffer; state = closing s cs }) r (λ e. kept (closing s cs) r)

-- The line's phase as a standing, and what a call answers by it.
abbrev pub stands : Line → Standing
stands idle = record { settings = []; closed = false; begun = 0; waits = [] }
stands (opened s n side) = record { settings = s ∷ []; closed = false; begun = n; waits = side.waits }
stands (closing s cs) = record { settings = s ∷ []; closed = true; begun = 0; waits = cs }

module _ (M : Model) where
  -- an outcome by the standing
  abbrev As : Standing → Call → Outcome Line → Type 0
  As h c o = Decided (refusal M h c) (accepted h c) (passed c) (left h c) o

  tps_stands : (l : Line) (s : Settings) (frame : ℕ) (buffer : List ℕ) → (stands l).settings ≡ s ∷ []
      → As (stands l) (tps frame buffer) (unless (tps_refused frame buffer) l buffer (record { answer = done; buffer = block s frame ++ drop 67 buffer; state = l }))
  tps_stands l s frame buffer e =
      decided (tps_refused frame buffer) l _
      (ap (λ (ss : List Settings). refusal M (record { settings = ss; closed = false; begun = 0; waits = [] }) (tps frame buffer)) e) refl
      (ap (λ (w : List ℕ). w ++ drop 67 buffer) (sym (ap (flat_map (λ (x : Settings). block x frame)) e ∙ append-nil (block s frame))))

  step-stands : (l : Line) (c : Call) → As (stands l) c (step M l c)
  step-stands idle (start c) = start_decided M idle (started M) (settings_read c)
  step-stands idle (packet p) = record { answers = refl; leaves = refl }
  step-stands idle (cells buffer) = record { answers = refl; leaves = refl }
  step-stands idle close = record { answers = refl; leaves = refl }
  step-stands idle (tps frame buffer) = record { answers = refl; leaves = refl }
  step-stands (opened s n side) (start c) = record { answers = refl; leaves = refl }
  step-stands (opened s n side) (packet p) =
      decided (packet_checks side.waits p) (opened s n side) _ refl refl refl
  step-stands (opened s n side) (cells buffer) = record { answers = refl; leaves = refl }
  step-stands (opened s n side) close =
      decided (close_checks n side.waits) (opened s n side) _ refl refl refl
  step-stands (opened s n side) (tps frame buffer) = tps_stands (opened s n side) s frame buffer refl
  step-stands (closing s cs) (start c) = record { answers = refl; leaves = refl }
  step-stands (closing s cs) (packet p) = record { answers = refl; leaves = refl }
  step-stands (closing s cs) (cells buffer) = record { answers = refl; leaves = refl }
  step-stands (closing s cs) close = record { answers = refl; leaves = refl }
  step-stands (closing s cs) (tps frame buffer) = tps_stands (closing s cs) s frame buffer refl

  -- the standing by what was accepted is the line's
  abbrev pub of_accepted : List Settings → List (List ℕ) → List ℕ → Bool → Standing
  of_accepted ss ps ys b = record {
    settings = ss;
    closed = b;
    begun = length ps % frame_of ss;
    waits = drop (length ys) (M.sends (bytes (ps ++ cond b (flat_map closing_packets ss) [])));
  }

  same-standing : (h k : Standing) → h.settings ≡ k.settings → h.closed ≡ k.closed → h.begun ≡ k.begun → h.waits ≡ k.waits → h ≡ k
  same-standing h k a b c d = λ i. record { settings = a i; closed = b i; begun = c i; waits = d i }

  pub is_standing : Rule M → (l : Line) (ss : List Settings) (ps : List (List ℕ)) (ys : List ℕ) (b : Bool) → Reached M l ss ps ys b
      → of_accepted ss ps ys b ≡ stands l
  is_standing m idle ss ps ys b r =
      (λ i. of_accepted (r.0 i) (r.1 i) (r.2 i) (r.3 i))
      ∙ same-standing (of_accepted [] [] [] false) (stands idle) refl refl (zero-mod 0) m.sends_grow.none
  is_standing m (opened s n side) ss ps ys b r =
      (λ i. of_accepted (r.took.one i) ps ys (r.not_closed i))
      ∙ same-standing (of_accepted (s ∷ []) ps ys false) (stands (opened s n side)) refl refl (sym r.count)
      (ap (λ (w : List (List ℕ)). drop (length ys) (M.sends (bytes w))) (append-nil ps)
      ∙ ap (drop (length ys)) (sym r.feeds.gave)
      ∙ drop_at ys side.waits (length ys) refl
      )
  is_standing m (closing s cs) ss ps ys b r =
      (λ i. of_accepted (r.took.one i) ps ys (r.is_closed i))
      ∙ same-standing (of_accepted (s ∷ []) ps ys true) (stands (closing s cs)) refl refl r.whole_frames
      (ap (λ (w : List (List ℕ)). drop (length ys) (M.sends (bytes (ps ++ w)))) (append-nil (closing_packets s))
      ∙ ap (λ (w : List ℕ). drop (length ys) (M.sends w)) (flat_map-append (λ (x : List ℕ). x) ps (closing_packets s))
      ∙ ap (drop (length ys)) (sym r.gave)
      ∙ drop_at ys cs (length ys) refl
      )

  abbrev pub Inv : List (Event Call) → Line → Type 0
  Inv es l = Reached M l (settings_of es) (packets_of es) (cells_of es) (closed_by es)

  by_standing : Rule M → (es : List (Event Call)) (l : Line) (c : Call) → Inv es l → As (standing M es) c (step M l c)
  by_standing m es l c i =
      subst (λ (h : Standing). As h c (step M l c)) (sym (is_standing m l (settings_of es) (packets_of es) (cells_of es) (closed_by es) i)) (step-stands l c)

  does : Rule M → (es : List (Event Call)) (l : Line) (c : Call) → Typed c → Inv es l → Follows M es (event c (step M l c))
  does m es l c t i = let a = by_standing m es l c i in record { typed = t; answer_is = a.answers; buffer_is = a.leaves }

  agrees : Rule M → (es : List (Event Call)) (l : Line) (e : Event Call) → Inv es l → Follows M es e → event e.call (step M l e.call) ≡ e
  agrees m es l e i f =
      let a = by_standing m es l e.call i in
      let p = a.answers ∙ sym f.answer_is in
      let q = a.leaves ∙ sym f.buffer_is in
      λ k. record { call = e.call; answer = p k; buffer = q k }

  goes : Rule M → (es : List (Event Call)) (l : Line) (c : Call) → Typed c → Inv es l → Inv (es ++ (event c (step M l c) ∷ [])) (step M l c).state
  goes m es l c t i =
      let e : Event Call = event c (step M l c) in
      moved M (step M l c).state
      (flat_map_more (λ (x : Event Call). settings_by x.call x.answer) [] es e)
      (flat_map_more (λ (x : Event Call). packets_by x.call x.answer) [] es e)
      (flat_map_more (λ (x : Event Call). cells_by x.call x.answer x.buffer) [] es e)
      (closed_push es e)
      (step_leads M m (settings_of es) (packets_of es) (cells_of es) (closed_by es) l c t i)

  pub answering : Rule M → Answering (Follows M) (step M) idle Typed Inv
  answering m = record {
    typed = λ es e f. f.typed;
    starts = (refl, refl, refl, refl);
    does = does m;
    agrees = agrees m;
    goes = goes m;
  }
