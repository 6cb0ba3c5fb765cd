-- What the calls on a receiver come to, one after the other.
use Rattle.std.proofs.Common.{◌≡◌, ℕ, ◌+◌, ◌-◌, ◌^◌, ◌<◌, min, List, [], ◌∷◌, ◌++◌, length, refl, ap, sym, ◌∙◌, subst, arith, append-nil, length-append}
use Rattle.std.specs.List.{flat_map}
use Rattle.std.proofs.lemmas.Grind.{flat_map-append}
use Rattle.refusal.specs.declared.Refusal.{Refusal}
use Rattle.refusal.specs.declared.Refusal.TheVariants.{UnknownMode, UnknownConstellation, UnknownRate, UnknownGuard, PacketLength, BufferShort, FrameOrParity, RecordMalformed, UnitTooLarge, SomethingWaits, NotStarted, CellsWait, FirstByte, PartSuperFrame, Closed, Started, PileUnfit}
use Rattle.refusal.specs.Numbers.{number_of}
use Rattle.settings.specs.declared.Settings.{Settings}
use Rattle.stage.specs.Model.{Model}
use Rattle.broadcast.specs.Calls.{Answer, Event, counted}
use Rattle.broadcast.specs.Steps.{Outcome, event, state_after}
use Rattle.broadcast.specs.Receiver.{Call, collect, settings_by, heard_by, packets_by, settings_of, heard_of, packets_of}
use Rattle.broadcast.specs.ReceiverSteps.{Receiver, step, events}
use Rattle.receiver.specs.View.{outcome}
use Rattle.relay.specs.Listening.{Ears, Listened}

state-append : (M : Model) (r : Receiver) (cs ds : List Call) → state_after (step M) r (cs ++ ds) ≡ state_after (step M) (state_after (step M) r cs) ds
state-append M r [] ds = refl
state-append M r (c ∷ cs) ds = state-append M (step M r c).state cs ds

events-append : (M : Model) (r : Receiver) (cs ds : List Call) → events M r (cs ++ ds) ≡ events M r cs ++ events M (state_after (step M) r cs) ds
events-append M r [] ds = refl
events-append M r (c ∷ cs) ds = ap (λ (es : List (Event Call)). event c (step M r c) ∷ es) (events-append M (step M r c).state cs ds)

-- what the events of calls add, where others went before
added : {X : Type 0} (f : Event Call → List X) (M : Model) (r r1 : Receiver) (cs ds : List Call) → r1 ≡ state_after (step M) r cs
    → flat_map f (events M r (cs ++ ds)) ≡ flat_map f (events M r cs) ++ flat_map f (events M r1 ds)
added f M r r1 cs ds e =
    ap (flat_map f) (events-append M r cs ds)
    ∙ flat_map-append f (events M r cs) (events M (state_after (step M) r cs) ds)
    ∙ ap (λ (q : Receiver). flat_map f (events M r cs) ++ flat_map f (events M q ds)) (sym e)

pub none : (M : Model) (e : Ears) → Listened M [] e e
none M e = record { calls = []; leads = refl; none_started = refl; heard_is = refl; cells_are = λ f. omega arith; packets_are = λ f. omega arith }

pub both : (M : Model) (hs ks : List ℕ) (e e1 e2 : Ears) → Listened M hs e e1 → Listened M ks e1 e2 → Listened M (hs ++ ks) e e2
both M hs ks e e1 e2 a b =
    let starts = added (λ (v : Event Call). settings_by v.call v.answer) M e.receiver e1.receiver a.calls b.calls a.leads in
    let hears = added (λ (v : Event Call). heard_by v.call v.answer) M e.receiver e1.receiver a.calls b.calls a.leads in
    let packets = added (λ (v : Event Call). packets_by v.call v.answer v.buffer) M e.receiver e1.receiver a.calls b.calls a.leads in
    let more = length-append (packets_of (events M e.receiver a.calls)) (packets_of (events M e1.receiver b.calls)) in
    let sum = ap length packets in
    let cells = length-append hs ks in
    record {
      calls = a.calls ++ b.calls;
      leads = b.leads ∙ ap (λ (r : Receiver). state_after (step M) r b.calls) a.leads ∙ sym (state-append M e.receiver a.calls b.calls);
      none_started = starts ∙ ap (λ (xs : List Settings). xs ++ settings_of (events M e1.receiver b.calls)) a.none_started ∙ b.none_started;
      heard_is = hears ∙ ap (λ (xs : List ℕ). xs ++ heard_of (events M e1.receiver b.calls)) a.heard_is ∙ ap (λ (xs : List ℕ). hs ++ xs) b.heard_is;
      cells_are = λ f. let c = a.cells_are f in let d = b.cells_are (omega arith) in omega arith;
      packets_are = λ f. let c = a.packets_are f in let d = b.packets_are (omega arith) in omega arith;
    }

-- one call, that is no start
pub one : (M : Model) (c : Call) (a : Answer) (b : List ℕ) (e e' : Ears) → outcome a b e'.receiver ≡ step M e.receiver c
    → settings_by c a ≡ []
    → (e.cells < 2 ^ 64 → e'.cells ≡ min (e.cells + length (heard_by c a)) (2 ^ 64 - 1))
    → (e.packets < 2 ^ 64 → e'.packets ≡ min (e.packets + length (packets_by c a b)) (2 ^ 64 - 1))
    → Listened M (heard_by c a) e e'
one M c a b e e' is start cells packets =
    let answer : a ≡ (step M e.receiver c).answer = ap (λ o. o.answer) is in
    let handed : packets_by c a b ++ [] ≡ packets_of (events M e.receiver (c ∷ [])) =
    ap (λ (o : Outcome Receiver). packets_by c o.answer o.buffer ++ []) is in
    let count : length (packets_by c a b) ≡ length (packets_of (events M e.receiver (c ∷ []))) = ap length (sym (append-nil (packets_by c a b)) ∙ handed) in
    record {
      calls = c ∷ [];
      leads = ap (λ o. o.state) is;
      none_started = ap (λ (x : Answer). settings_by c x ++ []) (sym answer) ∙ append-nil (settings_by c a) ∙ start;
      heard_is = ap (λ (x : Answer). heard_by c x ++ []) (sym answer) ∙ append-nil (heard_by c a);
      cells_are = cells;
      packets_are = λ f. packets f ∙ ap (λ (n : ℕ). min (e.packets + n) (2 ^ 64 - 1)) count;
    }

-- a packet collected
pub a-packet : (M : Model) (e e' : Ears) (buffer b : List ℕ) (n : ℕ) → outcome (counted n) b e'.receiver ≡ step M e.receiver (collect buffer)
    → n ≡ 188 → e'.cells ≡ e.cells → e'.packets ≡ min (e.packets + 1) (2 ^ 64 - 1) → Listened M [] e e'
a-packet M e e' buffer b n is full cells packets =
    one M (collect buffer) (counted n) b e e' is refl (λ f. omega arith)
    (λ f. packets ∙ ap (λ (k : ℕ). min (e.packets + length (packets_by (collect buffer) (counted k) b)) (2 ^ 64 - 1)) (sym full))

-- a call that gives nothing and hears nothing
pub no-more : (M : Model) (c : Call) (a : Answer) (b : List ℕ) (e e' : Ears) → outcome a b e'.receiver ≡ step M e.receiver c
    → settings_by c a ≡ [] → heard_by c a ≡ [] → packets_by c a b ≡ [] → e'.cells ≡ e.cells → e'.packets ≡ e.packets → Listened M [] e e'
no-more M c a b e e' is start hears gives cells packets =
    let h : length (heard_by c a) ≡ 0 = ap length hears in
    let g : length (packets_by c a b) ≡ 0 = ap length gives in
    subst (λ hs. Listened M hs e e') hears (one M c a b e e' is start (λ f. omega (arith, h, cells)) (λ f. omega (arith, g, packets)))

pub not-started : (r : Refusal) → number_of r ≡ 30 → r ≡ NotStarted
not-started UnknownMode e = absurd (omega arith)
not-started UnknownConstellation e = absurd (omega arith)
not-started UnknownRate e = absurd (omega arith)
not-started UnknownGuard e = absurd (omega arith)
not-started PacketLength e = absurd (omega arith)
not-started BufferShort e = absurd (omega arith)
not-started FrameOrParity e = absurd (omega arith)
not-started RecordMalformed e = absurd (omega arith)
not-started UnitTooLarge e = absurd (omega arith)
not-started SomethingWaits e = absurd (omega arith)
not-started NotStarted e = refl
not-started CellsWait e = absurd (omega arith)
not-started FirstByte e = absurd (omega arith)
not-started PartSuperFrame e = absurd (omega arith)
not-started Closed e = absurd (omega arith)
not-started Started e = absurd (omega arith)
not-started PileUnfit e = absurd (omega arith)
