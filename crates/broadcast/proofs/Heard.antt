-- What a receiver hands out, of a broadcast that it hears.
use Rattle.std.proofs.Common.{◌≡◌, ℕ, ◌-◌, ◌<◌, ◌≤◌, Bool, true, false, cond, not, eqb, ltb, List, [], ◌∷◌, ◌++◌, length, get_or, take, Some, None, Option, sym, refl, ap, ◌∙◌, subst, arith, length-append}
use Rattle.std.specs.List.{flat_map, AllByRecursion}
use Rattle.std.proofs.lemmas.Grind.{flat_map-append}
use Rattle.std.proofs.lemmas.Bool.{ltb-false, lt-ltb, eq-eqb}
use Rattle.std.proofs.lemmas.List.{append_assoc}
use Rattle.std.proofs.ByRecursion.{All-append}
use Rattle.stage.specs.declared.Fault.{Fault}
use Rattle.stage.specs.Model.{Heard, Model}
use Rattle.stage.specs.Rule.{Under, Begins, Rule, Back, without_last}
use Rattle.holds.specs.Capped.{most}
use Rattle.stage.proofs.Fronts.{begins_length, begins_both, begins_trans, begins_without, begins_refl, split, all_begins, all_right}
use Rattle.broadcast.specs.Calls.{Answer, done, Event, calls_of, check, answered, bytes, closing_packets, is_started}
use Rattle.broadcast.specs.Receiver.{Call, start, hear, collect, heard_by, heard_of, kept, a_packet, a_fault, fault_next, next, is_some, Standing, standing, refusal, collects, accepted, Follows, Succession, Faultless}
use Rattle.broadcast.specs.Steps.{state_after}
use Rattle.broadcast.specs.ReceiverSteps.{idle, step}
use Rattle.broadcast.specs.Claims.{settings, packets, cells, all_packets, heard, collected, hear_answer, ReceiversRecover}
use Rattle.broadcast.proofs.Packets.{Packet, closing_are_packets}
use Rattle.broadcast.proofs.Going.{succession_front, known}
use Rattle.broadcast.proofs.Broadcasts.{Whole, whole, all_are}
use Rattle.broadcast.proofs.Equal.{claims, sent-length, sent_below}
use Rattle.broadcast.proofs.ReceiverRuns.{Sized, sized_bytes, none_next, answering, Keeps, keeps}

-- one packet more at the front of both lists
next_front : (g q u : List ℕ) (gs qs : List (List ℕ)) → Sized g → Sized q → Begins ((g ++ bytes gs) ++ u) (q ++ bytes qs)
    → (g ≡ q) × Begins (bytes gs ++ u) (bytes qs)
next_front g q u gs qs a b p =
    let e : g ++ (bytes gs ++ (u ++ p.0)) ≡ q ++ bytes qs =
    sym (p.1 ∙ append_assoc (g ++ bytes gs) u p.0 ∙ append_assoc g (bytes gs) (u ++ p.0))
    in
    let r = split g q (bytes gs ++ (u ++ p.0)) (bytes qs) (a ∙ sym b) e in
    (r.0, (p.0, sym r.1 ∙ sym (append_assoc (bytes gs) u p.0)))

-- packets that were handed out, of a list of packets whose bytes begin with theirs
module _ (u : List ℕ) where
  pub front_packets : (gs qs : List (List ℕ)) → AllByRecursion Sized gs → AllByRecursion Packet qs → Begins (bytes gs ++ u) (bytes qs) → Begins gs qs
  front_packets [] qs a b p = (qs, refl)
  front_packets (g ∷ gs) [] a b p =
      let k = begins_length ((g ++ bytes gs) ++ u) [] p in
      absurd (omega (arith, a.0, length-append (g ++ bytes gs) u, length-append g (bytes gs)))
  front_packets (g ∷ gs) (q ∷ qs) a b p =
      let r = next_front g q u gs qs a.0 b.0.whole p in
      let f = front_packets gs qs a.1 b.1 r.1 in
      (f.0, cc (r.0, f.1))

  -- the bytes after them begin with 47 hex
  next_sync : (gs qs : List (List ℕ)) → AllByRecursion Sized gs → AllByRecursion Packet qs → Begins (bytes gs ++ u) (bytes qs) → 188 ≤ length u → get_or u 0 0 ≡ 0x47
  next_sync [] [] a b p k = let l = begins_length u [] p in absurd (omega arith)
  next_sync [] (q ∷ qs) a b p k = heads u q (bytes qs) b.0 p k
    where
      heads : (v q ws : List ℕ) → Packet q → Begins v (q ++ ws) → 188 ≤ length v → get_or v 0 0 ≡ 0x47
      heads [] q ws h p k = absurd (omega arith)
      heads (x ∷ v) [] ws h p k = absurd (omega (arith, h.whole))
      heads (x ∷ v) (y ∷ q) ws h p k = let e : x ≡ y = cc p.1 in e ∙ h.sync
  next_sync (g ∷ gs) [] a b p k =
      let k = begins_length ((g ++ bytes gs) ++ u) [] p in
      absurd (omega (arith, a.0, length-append (g ++ bytes gs) u, length-append g (bytes gs)))
  next_sync (g ∷ gs) (q ∷ qs) a b p k = next_sync gs qs a.1 b.1 (next_front g q u gs qs a.0 b.0.whole p).1 k

-- what is so of each element is so of all
all_each : {X : Type 0} (P : X → Type 0) (xs : List X) → ((before : List X) (x : X) (later : List X) → xs ≡ before ++ (x ∷ later) → P x) → AllByRecursion P xs
all_each P [] k = tt
all_each P (x ∷ xs) k =
    (k [] x xs refl, all_each P xs (λ before y later q. k (x ∷ before) y later (ap {B = List _} (λ (w : List _). x ∷ w) q)))

-- Cells, of which each front is heard without a fault as the front of the bytes of packets.
record Sent_by (M : Model) (cs : List ℕ) (qs : List (List ℕ)) : Type 0 where
  are_packets : AllByRecursion Packet qs
  no_fault : (hs : List ℕ) → Begins hs cs → (M.hears hs).fault ≡ None
  in_front : (hs : List ℕ) → Begins hs cs → Begins (M.hears hs).units (bytes qs)

kept-after : (M : Model) → Rule M → (es : List (Event Call)) → Succession M es → Keeps M es
kept-after M m es k = keeps M m es (state_after (step M) idle (calls_of es)) (known (answering M m) es k)

module _ (M : Model) (m : Rule M) (cs : List ℕ) (qs : List (List ℕ)) (sent : Sent_by M cs qs) where
  -- the bytes that were handed out and are kept begin those that were sent
  kept_front : (es : List (Event Call)) → Succession M es → Begins (heard_of es) cs → Begins (bytes (collected (record { over = M; events = es })) ++ (kept M es).units) (bytes qs)
  kept_front es k p = subst (λ (w : List ℕ). Begins w (bytes qs)) (sym (kept-after M m es k).gave) (sent.in_front (heard_of es) p)

  -- what can be collected is no fault
  no_fault_next : (es : List (Event Call)) → Succession M es → Begins (heard_of es) cs → Faultless (collects (next (kept M es)))
  no_fault_next es k p =
      pick (ltb (length us) 188) (eqb (get_or us 0 0) 0x47) (kept M es).fault (sent.no_fault (heard_of es) p) right
    where
      us : List ℕ
      us = (kept M es).units

      right : ltb (length us) 188 ≡ false → eqb (get_or us 0 0) 0x47 ≡ true
      right l =
          eq-eqb (get_or us 0 0) 0x47
          (next_sync us (collected (record { over = M; events = es })) qs (kept-after M m es k).are_whole sent.are_packets (kept_front es k p) (ltb-false (length us) 188 l))

      pick : (b d : Bool) (o : Option Fault) → o ≡ None → (b ≡ false → d ≡ true)
          → Faultless (collects (cond b (fault_next o) (cond d (a_packet (take 188 us)) (a_fault (record { stage = 0; cause = 5 })))))
      pick true d None n r = tt
      pick true d (Some x) n r = let z : ◌≡◌ {A = ℕ} 0 1 = cc in absurd (omega arith)
      pick false true o n r = tt
      pick false false o n r = let y = r refl in let z : ◌≡◌ {A = ℕ} 0 1 = cc in absurd (omega arith)

  faultless_answer : (v : Option ℕ) (a : Answer) → Faultless a → Faultless (answered v a)
  faultless_answer None a f = f
  faultless_answer (Some n) a f = tt

  faultless_accepted : (es : List (Event Call)) (c : Call) → Faultless (collects (next (kept M es))) → Faultless (accepted (standing M es) c)
  faultless_accepted es (start c) f = tt
  faultless_accepted es (hear u) f = tt
  faultless_accepted es (collect buffer) f = f

  -- no event of a succession that hears them tells a fault
  no_fault_at : (es : List (Event Call)) → Succession M es → Begins (heard_of es) cs
      → (before : List (Event Call)) (e : Event Call) (later : List (Event Call)) → es ≡ before ++ (e ∷ later) → Faultless e.answer
  no_fault_at es k p before e later q =
      let front : Begins (heard_of before) (heard_of es) = (heard_of (e ∷ later), ap heard_of q ∙ flat_map-append (λ (x : Event Call). heard_by x.call x.answer) before (e ∷ later)) in
      let free = no_fault_next before (succession_front (Follows M) es before (e ∷ later) q k) (begins_trans (heard_of before) (heard_of es) cs front p) in
      subst Faultless (sym (k before e later q).answer_is)
      (faultless_answer (refusal M (standing M before) e.call) (accepted (standing M before) e.call) (faultless_accepted before e.call free))

-- a cell that the pile gives is heard, unless the receiver is not started or something waits
hear_taken : (M : Model) (h : Standing) (u : ℕ) → u < M.given → answered (refusal M h (hear u)) done ≡ hear_answer (is_started h.settings) (is_some h.ready)
hear_taken M h u l = go (is_started h.settings) (ltb u M.given) (is_some h.ready) (lt-ltb u M.given l)
  where
    go : (s a b : Bool) → a ≡ true → answered (check (not s) 30 (check (not a) 21 (check b 22 None))) done ≡ hear_answer s b
    go false a b e = refl
    go true true true e = refl
    go true true false e = refl
    go true false b e = let z : ◌≡◌ {A = ℕ} 0 1 = cc in absurd (omega arith)

pub receivers_recover : ReceiversRecover
receivers_recover r t k j h a = record {
  no_fault = all_each (λ (e : Event Call). Faultless e.answer) t.events
      (no_fault_at N j.rule (cells r) (all_packets r) sent t.events j.succession a.in_order);
  takes_next = λ u e p q f.
      f.answer_is
      ∙ ap (λ (c : Call). answered (refusal N (standing N t.events) c) (accepted (standing N t.events) c)) q
      ∙ hear_taken N (standing N t.events) u (next_below u p);
  in_front = front;
  complete = λ e nothing_waits.
      let all = law_at (cells r) (begins_refl (cells r)) in
      let few = (none_next (kept N t.events) nothing_waits).0 in
      let all_heard : length (cells r) - length (cells r) ≡ 0 = omega arith in
      let most_back = all.within (subst (λ (n : ℕ). M.hold n < most) (sym all_heard) (claims M w.set w.took.fit)) in
      let units_are : length (M.hears (cells r)).units ≡ length (N.hears (heard t)).units =
      ap (λ (x : List ℕ). length (M.hears x).units) (sym e) ∙ ap (λ (x : Heard). length x.units) (same-heard (heard t) a.in_order)
      in
      let short : length (packets r) ≤ length (collected t) =
      omega (
        arith,
        ap M.hold all_heard,
        sent-length w.set (packets r) w.took.are_packets,
        w.took.fit.holds_less,
        ap length kept_bytes.gave,
        length-append (bytes (collected t)) (kept N t.events).units,
        sized_bytes (collected t) kept_bytes.are_whole,
      )
      in
      begins_both (packets r) (collected t) (all_packets r) (flat_map closing_packets (settings r), refl) front short;
}
  where
    M : Model
    M = r.over

    N : Model
    N = t.over

    w : Whole M (settings r) (packets r) (cells r)
    w = whole r k h

    sent_bytes : List ℕ
    sent_bytes = bytes (packets r) ++ bytes (closing_packets w.set)

    bytes_are : bytes (all_packets r) ≡ sent_bytes
    bytes_are = ap bytes (all_are r w.set w.took.one) ∙ flat_map-append (λ (x : List ℕ). x) (packets r) (closing_packets w.set)

    taken : Under M.taken sent_bytes
    taken = sent_below M w.set w.took.fit (packets r) w.took.are_packets

    given : Under M.given (cells r)
    given = subst (λ (v : List ℕ). Under M.given v) (sym w.gave) (k.rule.sends_under sent_bytes taken)

    -- the law, at a front of the cells of the broadcast, and what the receiver's pile hears of it
    law_at : (hs : List ℕ) → Begins hs (cells r) → Back M sent_bytes (length (cells r) - length hs) (M.hears hs)
    law_at hs p =
        subst (λ (v : List ℕ). Back M sent_bytes (length (cells r) - length hs) (M.hears v)) (sym (begins_without hs (cells r) p))
        (subst (λ (v : List ℕ). length v - length hs ≤ length v → Back M sent_bytes (length v - length hs) (M.hears (without_last (length v - length hs) v))) (sym w.gave)
        (k.rule.law sent_bytes (length (M.sends sent_bytes) - length hs) taken) (omega arith))

    same-heard : (hs : List ℕ) → Begins hs (cells r) → M.hears hs ≡ N.hears hs
    same-heard hs p = a.same_pile.same_hears hs (all_begins (λ x. x < M.given) hs (cells r) p given)

    sent : Sent_by N (cells r) (all_packets r)
    sent = record {
      are_packets =
          subst (λ (v : List (List ℕ)). AllByRecursion Packet v) (sym (all_are r w.set w.took.one))
          (All-append Packet (packets r) (closing_packets w.set) w.took.are_packets (closing_are_packets w.set));
      no_fault = λ hs p. sym (ap (λ (x : Heard). x.fault) (same-heard hs p)) ∙ (law_at hs p).clean;
      in_front = λ hs p.
          subst (λ (v : List ℕ). Begins v (bytes (all_packets r))) (ap (λ (x : Heard). x.units) (same-heard hs p))
          (subst (λ (v : List ℕ). Begins (M.hears hs).units v) (sym bytes_are) (law_at hs p).begins);
    }

    kept_bytes : Keeps N t.events
    kept_bytes = kept-after N j.rule t.events j.succession

    front : Begins (collected t) (all_packets r)
    front =
        front_packets (kept N t.events).units (collected t) (all_packets r) kept_bytes.are_whole sent.are_packets
        (kept_front N j.rule (cells r) (all_packets r) sent t.events j.succession a.in_order)

    next_below : (u : ℕ) → Begins (heard t ++ (u ∷ [])) (cells r) → u < N.given
    next_below u p =
        let l = (all_right (λ x. x < M.given) (heard t) (u ∷ []) (all_begins (λ x. x < M.given) (heard t ++ (u ∷ [])) (cells r) p given)).0 in
        omega (arith, a.same_pile.same_given)
