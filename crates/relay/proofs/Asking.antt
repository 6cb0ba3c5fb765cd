-- What hearing a cell comes to, at once or after a collect.
use Rattle.std.proofs.Common.{◌≡◌, ◌≢◌, ◌⊎◌, ℕ, suc, ◌+◌, ◌-◌, ◌^◌, ◌<◌, min, Bool, true, false, not, List, [], ◌∷◌, ◌++◌, take, length, get_or, Some, None, Ok, Err, IsErr, Option, Result, refl, ap, sym, ◌∙◌, subst, arith, inl, inr, append-nil}
use Rattle.std.proofs.Math.Seq.{take-suc}
use Rattle.std.specs.Prelude.{nat_lt, is_some as is-some}
use Rattle.std.specs.Option.{option_or}
use Rattle.refusal.specs.declared.Refusal.{Refusal}
use Rattle.refusal.specs.Numbers.{number_of}
use Rattle.stage.specs.Model.{Model, told}
use Rattle.broadcast.specs.Calls.{refused, done, check}
use Rattle.broadcast.specs.Steps.{unless}
use Rattle.broadcast.specs.Receiver.{hear, Next, a_packet, a_fault, nothing, next, is_some}
use Rattle.broadcast.specs.ReceiverSteps.{Receiver, idle, tuned, step}
use Rattle.receiver.specs.declared.missed.Missed.{Missed}
use Rattle.receiver.specs.View.{outcome, done_by}
use Rattle.relay.specs.Listening.{Ears, Listened, Told, ToldNext, Heard, Put}
use Rattle.relay.proofs.Hearing.{none, one, both, no-more}

-- the ears with another receiver, and with one more cell
abbrev pub with-receiver : Ears → Receiver → Ears
with-receiver e r = record { receiver = r; cells = e.cells; packets = e.packets; missed = e.missed }

abbrev pub one-more : Ears → Ears
one-more e = record { receiver = e.receiver; cells = min (e.cells + 1) (2 ^ 64 - 1); packets = e.packets; missed = e.missed }

-- the receiver has answered a, and nothing is noted yet
abbrev pub Asked : Model → ℕ → Ears → Ears → Result (Unit {0}) Refusal → Type 0
Asked M cell e e' (Ok u) = Listened M (cell ∷ []) e (one-more e') × (e'.missed ≡ e.missed)
Asked M cell e e' (Err r) = Listened M [] e e'

asks : (M M1 : Model) (e e1 : Ears) (r : Receiver) (cell : ℕ) (a : Result (Unit {0}) Refusal) → M1 ≡ M → Listened M [] e e1
    → outcome (done_by a) [] r ≡ step M1 e1.receiver (hear cell) → (a ≡ Ok tt → e1.missed ≡ e.missed) → Asked M cell e (with-receiver e1 r) a
asks M M1 e e1 r cell (Ok u) same before is missed =
    let did = subst (λ (N : Model). outcome done [] r ≡ step N e1.receiver (hear cell)) same is in
    (both M [] (cell ∷ []) e e1 _ before (one M (hear cell) done [] e1 (one-more (with-receiver e1 r)) did refl (λ f. refl) (λ f. omega arith)), missed refl)
asks M M1 e e1 r cell (Err x) same before is missed =
    let did = subst (λ (N : Model). outcome (refused (number_of x)) [] r ≡ step N e1.receiver (hear cell)) same is in
    both M [] [] e e1 _ before (no-more M (hear cell) (refused (number_of x)) [] e1 (with-receiver e1 r) did refl refl refl refl refl)

-- where a hear is done nothing was told
quiet : (M : Model) (r r' : Receiver) (cell : ℕ) (m m' : Option Missed) → outcome done [] r' ≡ step M r (hear cell) → Told r m m' → m' ≡ m
quiet M idle r' cell m m' is t = let answer : done ≡ refused 30 = ap (λ o. o.answer) is in cc
quiet M (tuned s side) r' cell m m' is t = go (next side.waits) (nat_lt cell M.given) t is
  where
    go : (x : Next) (fits : Bool) → ToldNext x m m'
        → outcome done [] r' ≡ unless (check (not fits) 21 (check (is_some x) 22 None)) (tuned s side) [] (record { answer = done; buffer = []; state = tuned s (told side (cell ∷ [])) })
        → m' ≡ m
    go nothing fits t is = t
    go (a_packet p) fits t is = absurd t
    go (a_fault f) true t is = let answer : done ≡ refused 22 = ap (λ o. o.answer) is in cc
    go (a_fault f) false t is = let answer : done ≡ refused 21 = ap (λ o. o.answer) is in cc

pub at-once : (M : Model) (e : Ears) (r : Receiver) (cell : ℕ) (a : Result (Unit {0}) Refusal)
    → outcome (done_by a) [] r ≡ step M e.receiver (hear cell) → Asked M cell e (with-receiver e r) a
at-once M e r cell a is = asks M M e e r cell a refl (none M e) is (λ x. refl)

-- after a refusal and a collect
pub again : (M M1 M2 : Model) (e e2 : Ears) (r r3 : Receiver) (cell : ℕ) (x : Refusal) (a : Result (Unit {0}) Refusal)
    → outcome (refused (number_of x)) [] r ≡ step M e.receiver (hear cell) → M1 ≡ M → M2 ≡ M
    → Listened M1 [] (with-receiver e r) e2 × Told e2.receiver e.missed e2.missed
    → outcome (done_by a) [] r3 ≡ step M2 e2.receiver (hear cell) → Asked M cell e (with-receiver e2 r3) a
again M M1 M2 e e2 r r3 cell x a is same same2 got is3 =
    let first : Listened M [] e (with-receiver e r) = asks M M e e r cell (Err x) refl (none M e) is (λ y. refl) in
    let all = both M [] [] e (with-receiver e r) e2 first (subst (λ (N : Model). Listened N [] (with-receiver e r) e2) same got.0) in
    asks M M2 e e2 r3 cell a same2 all is3 (λ y. quiet M2 e2.receiver r3 cell e.missed e2.missed (subst (λ (b : Result (Unit {0}) Refusal). outcome (done_by b) [] r3 ≡ step M2 e2.receiver (hear cell)) y is3) got.1)

-- after a refusal, and a collect whose sink failed
pub unheard : {F : Type 0} (M M1 : Model) (e e2 : Ears) (r : Receiver) (cell : ℕ) (x : Refusal) (y : Result (Unit {0}) F)
    → outcome (refused (number_of x)) [] r ≡ step M e.receiver (hear cell) → M1 ≡ M
    → Listened M1 [] (with-receiver e r) e2 × (e2.missed ≡ e.missed) → IsErr y → Heard M cell e e2 y
unheard M M1 e e2 r cell x (Ok u) is same got err = let z : ◌≡◌ {A = ℕ} 0 1 = cc in absurd (omega arith)
unheard M M1 e e2 r cell x (Err f) is same got err =
    let first : Listened M [] e (with-receiver e r) = asks M M e e r cell (Err x) refl (none M e) is (λ y. refl) in
    (both M [] [] e (with-receiver e r) e2 first (subst (λ (N : Model). Listened N [] (with-receiver e r) e2) same got.0), got.1)

-- what is noted in what was missed changes nothing of what was heard
pub noted : (M : Model) (hs : List ℕ) (e e1 e2 : Ears) → Listened M hs e e1 → e2.receiver ≡ e1.receiver → e2.cells ≡ e1.cells → e2.packets ≡ e1.packets → Listened M hs e e2
noted M hs e e1 e2 l r c p = record {
  calls = l.calls;
  leads = r ∙ l.leads;
  none_started = l.none_started;
  heard_is = l.heard_is;
  cells_are = λ f. c ∙ l.cells_are f;
  packets_are = λ f. p ∙ l.packets_are f;
}

pub some-or : {X : Type 0} (m : Option X) (x : X) → option_or m (Some x) ≢ None
some-or (Some y) x e = let z : ◌≡◌ {A = ℕ} 0 1 = cc in omega arith
some-or None x e = let z : ◌≡◌ {A = ℕ} 0 1 = cc in omega arith

pub none-of : {X : Type 0} (m : Option X) → is-some m ≡ false → m ≡ None
none-of None e = refl
none-of (Some x) e = let z : ◌≡◌ {A = ℕ} 0 1 = cc in absurd (omega arith)

-- Putting cells: i of them were gone over, and something may be missed.
pub record Putting (M : Model) (cells : List ℕ) (i : ℕ) (e e' : Ears) : Type 0 where
  pub some : (n : ℕ) × Listened M (take n cells) e e'
  pub all : e'.missed ≡ None → Listened M (take i cells) e e'
  pub stays : e.missed ≢ None → e' ≡ e

pub begins : (M : Model) (cells : List ℕ) (e : Ears) → Putting M cells 0 e e
begins M cells e = record { some = (0, none M e); all = λ z. none M e; stays = λ z. refl }

pub another : (M M1 : Model) (cells : List ℕ) (i d : ℕ) (e e1 e2 : Ears) → M1 ≡ M → i < length cells → Putting M cells i e e1 → e1.missed ≡ None
    → (Listened M1 (get_or cells i d ∷ []) e1 e2 × (e2.missed ≡ e1.missed)) ⊎ (Listened M1 [] e1 e2 × (e2.missed ≢ None)) → Putting M cells (i + 1) e e2
another M M1 cells i d e e1 e2 same short p clear (inl h) =
    let rest = subst (λ (N : Model). Listened N (get_or cells i d ∷ []) e1 e2) same h.0 in
    let more : take i cells ++ (get_or cells i d ∷ []) ≡ take (i + 1) cells = let next : i + 1 ≡ suc i = omega arith in sym (ap (λ (k : ℕ). take k cells) next ∙ take-suc cells i d short) in
    let all = subst (λ (hs : List ℕ). Listened M hs e e2) more (both M (take i cells) (get_or cells i d ∷ []) e e1 e2 (p.all clear) rest) in
    record { some = (i + 1, all); all = λ z. all; stays = λ z. absurd (z (ap (λ (x : Ears). x.missed) (sym (p.stays z)) ∙ clear)) }
another M M1 cells i d e e1 e2 same short p clear (inr h) =
    let rest = subst (λ (N : Model). Listened N [] e1 e2) same h.0 in
    let all = subst (λ (hs : List ℕ). Listened M hs e e2) (append-nil (take i cells)) (both M (take i cells) [] e e1 e2 (p.all clear) rest) in
    record { some = (i, all); all = λ z. absurd (h.1 z); stays = λ z. absurd (z (ap (λ (x : Ears). x.missed) (sym (p.stays z)) ∙ clear)) }

pub sink-fails : {F G : Type 0} (M M1 : Model) (cells : List ℕ) (i cell : ℕ) (e e1 e2 : Ears) (y : Result (Unit {0}) G) (x : Result (Unit {0}) F) → M1 ≡ M → Putting M cells i e e1 → e1.missed ≡ None
    → Heard M1 cell e1 e2 y → IsErr y → IsErr x → Put M cells e e2 x
sink-fails M M1 cells i cell e e1 e2 (Ok u) x same p clear h err fails = let z : ◌≡◌ {A = ℕ} 0 1 = cc in absurd (omega arith)
sink-fails M M1 cells i cell e e1 e2 (Err f) (Ok u) same p clear h err fails = let z : ◌≡◌ {A = ℕ} 0 1 = cc in absurd (omega arith)
sink-fails M M1 cells i cell e e1 e2 (Err f) (Err y) same p clear h err fails =
    let rest = subst (λ (N : Model). Listened N [] e1 e2) same h.0 in
    let all = subst (λ (hs : List ℕ). Listened M hs e e2) (append-nil (take i cells)) (both M (take i cells) [] e e1 e2 (p.all clear) rest) in
    record {
      some = (i, all);
      all = tt;
      none_missed = h.1 ∙ clear;
      stays = λ z. absurd (z (ap (λ (x : Ears). x.missed) (sym (p.stays z)) ∙ clear));
    }
