-- What a collect takes of the bytes that wait in a receiver.
use Rattle.std.proofs.Common.{◌≡◌, ℕ, ◌-◌, ◌<◌, ◌≤◌, ◌≢◌, Bool, true, false, cond, not, eqb, ltb, List, [], take, length, get_or, Some, None, Option, Ok, Err, IsErr, Result, ◌+◌, ◌^◌, min, refl, sym, subst, ap, ◌∙◌, arith, length-drop, ltb-false, eq-eqb}
use Rattle.refusal.specs.declared.Refusal.{Refusal}
use Rattle.refusal.specs.Numbers.{number_of}
use Rattle.stage.specs.declared.Fault.{Fault}
use Rattle.stage.specs.Model.{Heard, Model}
use Rattle.broadcast.specs.Calls.{refused, failed, counted, check}
use Rattle.broadcast.specs.Steps.{unless}
use Rattle.broadcast.specs.Receiver.{collect, packets_by, Next, a_packet, a_fault, nothing, next, fault_next}
use Rattle.broadcast.specs.ReceiverSteps.{Receiver, idle, tuned, step, handing, handed}
use Rattle.receiver.specs.declared.missed.Missed.{Missed}
use Rattle.receiver.specs.declared.missed.Missed.TheVariants.{Refused, Failed}
use Rattle.receiver.specs.View.{outcome, collected_by}
use Rattle.relay.specs.Listening.{Ears, Listened, Told, ToldNext, Collected}
use Rattle.relay.proofs.Hearing.{a-packet, both, no-more, not-started}
use Rattle.relay.specs.Waiting.{ready_in}

abbrev pub bytes_in : Receiver → List ℕ
bytes_in idle = []
bytes_in (tuned s side) = side.waits.units

-- a collect that answers n
pub record Gives (r r' : Receiver) (n : ℕ) : Type 0 where
  pub none : n ≡ 0 → ready_in r' ≡ nothing
  pub some : n ≢ 0 → length (bytes_in r') < length (bytes_in r)
  pub full : n ≢ 0 → n ≡ 188
  pub told : n ≡ 0 → (m : Option Missed) → Told r' m m

whole : (h : Heard) (p : List ℕ) → next h ≡ a_packet p → 188 ≤ length h.units
whole h p e = go (ltb (length h.units) 188) (eqb (get_or h.units 0 0) 0x47) h.fault refl e
  where
    go : (l s : Bool) (f : Option Fault) → ltb (length h.units) 188 ≡ l
        → cond l (fault_next f) (cond s (a_packet (take 188 h.units)) (a_fault (record { stage = 0; cause = 5 }))) ≡ a_packet p
        → 188 ≤ length h.units
    go true s None is e = let z : ◌≡◌ {A = ℕ} 0 1 = cc in absurd (omega arith)
    go true s (Some f) is e = let z : ◌≡◌ {A = ℕ} 0 1 = cc in absurd (omega arith)
    go false s f is e = ltb-false _ _ is

-- what such an answer isn't, and what it is where a fault waits
counted-not : {X : Type 0} (w : Missed) (n : ℕ) → collected_by (Err w) ≡ counted n → X
counted-not (Refused r) n e = cc
counted-not (Failed f) n e = cc

fault-is : (w : Missed) (f : Fault) → collected_by (Err w) ≡ failed f → w ≡ Failed f
fault-is (Refused r) f e = cc
fault-is (Failed g) f e = cc

pub collected : (M : Model) (r r' : Receiver) (buffer b : List ℕ) (n : ℕ) → length buffer ≡ 188
    → outcome (counted n) b r' ≡ step M r (collect buffer) → Gives r r' n
collected M idle r' buffer b n long e =
    let answer : counted n ≡ refused 30 = ap (λ o. o.answer) e in
    let z : ◌≡◌ {A = ℕ} 0 1 = cc in absurd (omega arith)
collected M (tuned s side) r' buffer b n long e =
    go (next side.waits) refl
    (e ∙ ap (λ t. unless (check (not t) 15 None) (tuned s side) buffer (handing (next side.waits) s side buffer)) (eq-eqb _ _ long))
  where
    go : (x : Next) → next side.waits ≡ x → outcome (counted n) b r' ≡ handing x s side buffer → Gives (tuned s side) r' n
    go (a_packet p) is e =
        let line : r' ≡ tuned s (handed side) = ap (λ o. o.state) e in
        let answer : counted n ≡ counted 188 = ap (λ o. o.answer) e in
        let full : n ≡ 188 = cc in
        let fewer : length (bytes_in r') ≡ length side.waits.units - 188 = ap (λ r. length (bytes_in r)) line ∙ length-drop 188 side.waits.units in
        record { none = λ z. absurd (omega (arith, z, full)); some = λ z. omega (arith, fewer, whole side.waits p is); full = λ z. full; told = λ z m. absurd (omega (arith, z, full)) }
    go (a_fault f) is e =
        let answer : counted n ≡ failed f = ap (λ o. o.answer) e in
        let z : ◌≡◌ {A = ℕ} 0 1 = cc in absurd (omega arith)
    go nothing is e =
        let line : r' ≡ tuned s side = ap (λ o. o.state) e in
        let answer : counted n ≡ counted 0 = ap (λ o. o.answer) e in
        let none : n ≡ 0 = cc in
        record {
          none = λ z. ap ready_in line ∙ is;
          some = λ z. absurd (omega (arith, z, none));
          full = λ z. absurd (omega (arith, z, none));
          told = λ z m. subst (λ (q : Receiver). Told q m m) (sym line) (subst (λ (x : Next). ToldNext x m m) (sym is) refl);
        }

-- a collect that tells why there is none
pub untold : (M : Model) (r r' : Receiver) (buffer b : List ℕ) (w : Missed) (m : Option Missed) → length buffer ≡ 188
    → outcome (collected_by (Err w)) b r' ≡ step M r (collect buffer) → Told r' m (Some w)
untold M idle r' buffer b (Refused w) m long e =
    let answer : refused (number_of w) ≡ refused 30 = ap (λ o. o.answer) e in
    let number : number_of w ≡ 30 = cc in
    subst (λ (q : Receiver). Told q m (Some (Refused w))) (sym (ap (λ o. o.state) e)) (ap (λ (x : Refusal). Some (Refused x)) (not-started w number))
untold M idle r' buffer b (Failed f) m long e =
    let answer : failed f ≡ refused 30 = ap (λ o. o.answer) e in cc
untold M (tuned s side) r' buffer b w m long e =
    go (next side.waits) refl
    (e ∙ ap (λ t. unless (check (not t) 15 None) (tuned s side) buffer (handing (next side.waits) s side buffer)) (eq-eqb _ _ long))
  where
    go : (x : Next) → next side.waits ≡ x → outcome (collected_by (Err w)) b r' ≡ handing x s side buffer → Told r' m (Some w)
    go (a_packet p) is e = counted-not w 188 (ap (λ o. o.answer) e)
    go nothing is e = counted-not w 0 (ap (λ o. o.answer) e)
    go (a_fault f) is e =
        subst (λ (q : Receiver). Told q m (Some w)) (sym (ap (λ o. o.state) e))
        (subst (λ (x : Next). ToldNext x m (Some w)) (sym is) (ap (λ (x : Missed). Some x) (fault-is w f (ap (λ o. o.answer) e))))

none-by : (buffer b : List ℕ) (w : Missed) → packets_by (collect buffer) (collected_by (Err w)) b ≡ []
none-by buffer b (Refused r) = refl
none-by buffer b (Failed f) = refl

none-counted : (buffer b : List ℕ) (n : ℕ) → n ≡ 0 → packets_by (collect buffer) (counted n) b ≡ []
none-counted buffer b n z = ap (λ (k : ℕ). packets_by (collect buffer) (counted k) b) z

module _ (M M1 : Model) (e e1 e2 : Ears) (same : M1 ≡ M) (before : Listened M [] e e1) (buffer b : List ℕ) where
  -- one packet more
  pub packet-more : (n : ℕ) → outcome (counted n) b e2.receiver ≡ step M1 e1.receiver (collect buffer) → n ≡ 188
      → e2.cells ≡ e1.cells → e2.packets ≡ min (e1.packets + 1) (2 ^ 64 - 1) → Listened M [] e e2
  packet-more n is full cells packets =
      both M [] [] e e1 e2 before
      (a-packet M e1 e2 buffer b n (subst (λ (N : Model). outcome (counted n) b e2.receiver ≡ step N e1.receiver (collect buffer)) same is) full cells packets)

  -- a collect that gives none
  none-more : (x : Result ℕ Missed) → outcome (collected_by x) b e2.receiver ≡ step M1 e1.receiver (collect buffer)
      → packets_by (collect buffer) (collected_by x) b ≡ [] → e2.cells ≡ e1.cells → e2.packets ≡ e1.packets → Listened M [] e e2
  none-more x is gives cells packets =
      both M [] [] e e1 e2 before
      (no-more M (collect buffer) (collected_by x) b e1 e2
      (subst (λ (N : Model). outcome (collected_by x) b e2.receiver ≡ step N e1.receiver (collect buffer)) same is) refl refl gives cells packets)

  pub ends : (n : ℕ) → length buffer ≡ 188 → e1.missed ≡ e.missed → outcome (counted n) b e2.receiver ≡ step M1 e1.receiver (collect buffer) → n ≡ 0
      → e2.cells ≡ e1.cells → e2.packets ≡ e1.packets → e2.missed ≡ e1.missed → Listened M [] e e2 × Told e2.receiver e.missed e2.missed
  ends n long missed is zero cells packets kept = (
    none-more (Ok n) is (none-counted buffer b n zero) cells packets,
    subst (λ (m : Option Missed). Told e2.receiver e.missed m) (sym (kept ∙ missed)) ((collected M1 e1.receiver e2.receiver buffer b n long is).told zero e.missed),
  )

  pub ends-missed : (w : Missed) → length buffer ≡ 188 → outcome (collected_by (Err w)) b e2.receiver ≡ step M1 e1.receiver (collect buffer)
      → e2.cells ≡ e1.cells → e2.packets ≡ e1.packets → e2.missed ≡ Some w → Listened M [] e e2 × Told e2.receiver e.missed e2.missed
  ends-missed w long is cells packets told = (
    none-more (Err w) is (none-by buffer b w) cells packets,
    subst (λ (m : Option Missed). Told e2.receiver e.missed m) (sym told) (untold M1 e1.receiver e2.receiver buffer b w e.missed long is),
  )

-- the sink has failed
pub failed-sink : {F : Type 0} (M : Model) (e e' : Ears) (x : Result (Unit {0}) F) → IsErr x → Listened M [] e e' → e'.missed ≡ e.missed → Collected M e e' x
failed-sink M e e' (Ok u) is l m = let z : ◌≡◌ {A = ℕ} 0 1 = cc in absurd (omega arith)
failed-sink M e e' (Err f) is l m = (l, m)
