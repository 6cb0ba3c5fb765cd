-- Passes are put together from takes, offers and other passes.
use Rattle.std.proofs.Common.{◌≡◌, ℕ, ◌+◌, ◌-◌, ◌<◌, ◌≤◌, Bool, true, false, ltb, List, [], ◌∷◌, ◌++◌, length, get_or, take, drop, set, is_err, Some, sym, refl, ap, ◌∙◌, subst, ap₂, arith, length-append, length-drop, take-add}
use borrow.Rule.Slice.PartMut.{put_mid}
use lib.Seq.{take-nil}
use Rattle.std.proofs.ByRecursion.{All-append, All-push}
use Rattle.std.proofs.lemmas.List.{append-nil, append_assoc, nil_from_length, drop_more, drop_all, drop-drop, drop_at, take_more, take_at, set_at}
use Rattle.std.proofs.lemmas.Slice.{between_to_end}
use Rattle.std.proofs.lemmas.Bool.{ltb-true, le-ltb}
use Rattle.stage.specs.declared.Passed.{Passed}
use Rattle.stage.specs.Model.{Model, Sending, fed, ahead, some, first, sent, answer, offered}
use Rattle.stage.specs.Rule.{Sends, Under}
use Rattle.stage.specs.Passing.{Gives, Drains, Passes}
use Rattle.stage.specs.Piled.{fitting, keep_if}
use Rattle.stage.proofs.Feeding.{fed_none, fed-fed}
use Rattle.stage.proofs.Waits.{none_waits, first_waits}

-- Units in front of what waits.
pub ahead-ahead : (us vs : List ℕ) (s : Sending) → ahead us (ahead vs s) ≡ ahead (us ++ vs) s
ahead-ahead us vs s = λ i. record { waits = sym (append_assoc us vs s.waits) i; future = s.future }

pub fed-ahead : (us : List ℕ) (s : Sending) (xs : List ℕ) → fed (ahead us s) xs ≡ ahead us (fed s xs)
fed-ahead us s xs = λ i. record { waits = append_assoc us s.waits (s.future xs) i; future = (fed s xs).future }

-- a unit is taken, and stands in front
sent-ahead : (s : Sending) (v : ℕ) → first s.waits ≡ Some v → s ≡ ahead (v ∷ []) (sent s)
sent-ahead s v e = λ i. record { waits = first_waits s.waits v e i; future = s.future }

-- an accepted offer feeds the side
pub offered-fed : (s : Sending) (v : ℕ) → s.waits ≡ [] → offered true false s v ≡ fed s (v ∷ [])
offered-fed s v e = λ i. record { waits = sym (ap (λ w. w ++ s.future (v ∷ [])) e) i; future = (fed s (v ∷ [])).future }

module _ (M : Model) where
  -- nothing is given
  pub gives_none : (s : Sending) (out : List ℕ) → Gives M s s out out 0
  gives_none s out = record { units = []; made_is = refl; room = omega arith; side = refl; buffer = refl; below = tt }

  -- what is left may be given another name
  pub gives_of : {s₀ s₁ s s' : Sending} {out out' : List ℕ} {n : ℕ} → s₁ ≡ s₀ → s ≡ s' → Gives M s₀ s out out' n → Gives M s₁ s' out out' n
  gives_of {s₀} {s₁} {s} {s'} p q g = record {
    units = g.units;
    made_is = g.made_is;
    room = g.room;
    side = p ∙ g.side ∙ ap (ahead g.units) q;
    buffer = g.buffer;
    below = g.below;
  }

  -- one unit more is taken and written
  pub gives_more : {s₀ s s' : Sending} {out₀ out : List ℕ} {n v : ℕ} → Gives M s₀ s out₀ out n → n < length out₀
      → first s.waits ≡ Some v → v < M.given → s' ≡ sent s → Gives M s₀ s' out₀ (set out n v) (n + 1)
  gives_more {s₀} {s} {s'} {out₀} {out} {n} {v} g h e below q =
      let us = g.units in
      record {
        units = us ++ v ∷ [];
        made_is = omega (arith, length-append us (v ∷ []), g.made_is);
        room = omega arith;
        side = g.side ∙ ap (ahead us) (sent-ahead s v e) ∙ ahead-ahead us (v ∷ []) (sent s) ∙ ap (ahead (us ++ v ∷ [])) (sym q);
        buffer = ap (λ o. set o n v) (g.buffer ∙ ap (λ r. us ++ r) (drop_more out₀ n 0 h))
            ∙ set_at us (get_or out₀ n 0) (drop (n + 1) out₀) v n g.made_is
            ∙ sym (append_assoc us (v ∷ []) (drop (n + 1) out₀));
        below = All-push (λ x. x < M.given) us v g.below below;
      }

  -- the side is fed further
  pub gives_fed : {s s' : Sending} {out out' : List ℕ} {n : ℕ} (xs : List ℕ) → Gives M s s' out out' n → Gives M (fed s xs) (fed s' xs) out out' n
  gives_fed {s} {s'} xs g = record {
    units = g.units;
    made_is = g.made_is;
    room = g.room;
    side = ap (λ t. fed t xs) g.side ∙ fed-ahead g.units s' xs;
    buffer = g.buffer;
    below = g.below;
  }

  -- The rest of the output, which is lent as a part, is filled too.
  module _ {s s₁ : Sending} {out out₁ : List ℕ} {m : ℕ} (g : Gives M s s₁ out out₁ m) where
    rest_is : take (length out₁ - m) (drop m out₁) ≡ drop m out
    rest_is =
        let us = g.units in
        between_to_end out₁ m (length out₁) (omega arith) ∙ ap (drop m) g.buffer ∙ drop_at us (drop m out) m g.made_is

    pub gives_then : {N : Model} {s₂ : Sending} {rest : List ℕ} {n : ℕ} → N.given ≡ M.given
        → Gives N s₁ s₂ (take (length out₁ - m) (drop m out₁)) rest n → Gives M s s₂ out (put_mid m (length out₁ - m) out₁ rest) (m + n)
    gives_then {N} {s₂} {rest} {n} same k =
        let us = g.units in
        let vs = k.units in
        let front : take m out₁ ≡ us = ap (take m) g.buffer ∙ take_at us (drop m out) m g.made_is in
        let none : drop (length out₁ - m) (drop m out₁) ≡ [] = drop_all (length out₁ - m) (drop m out₁) (omega (arith, length-drop m out₁)) in
        let tail : drop n (take (length out₁ - m) (drop m out₁)) ≡ drop (m + n) out = ap (drop n) rest_is ∙ drop-drop n m out in
        let fits : n ≤ length (drop m out) = subst (λ w. n ≤ length w) rest_is k.room in
        record {
          units = us ++ vs;
          made_is = omega (arith, length-append us vs, g.made_is, k.made_is);
          room = omega (arith, g.room, fits, length-drop m out);
          side = g.side ∙ ap (ahead us) k.side ∙ ahead-ahead us vs s₂;
          buffer = ap₂ ◌++◌ front (ap₂ ◌++◌ (k.buffer ∙ ap (λ r. vs ++ r) tail) none ∙ append-nil (vs ++ drop (m + n) out)) ∙ sym (append_assoc us vs (drop (m + n) out));
          below = All-append (λ x. x < M.given) us vs g.below (subst (λ l. Under l vs) same k.below);
        }

    -- where the output has room left, so has its rest
    pub room_left : (n : ℕ) → m + n < length out → n < length (take (length out₁ - m) (drop m out₁))
    room_left n h = subst (λ w. n < length w) (sym rest_is) (omega (arith, length-drop m out))

    pub drains_then : {N : Model} {s₂ : Sending} {rest : List ℕ} {n : ℕ} → N ≡ M
        → Drains N s₁ s₂ (take (length out₁ - m) (drop m out₁)) rest n → Drains M s s₂ out (put_mid m (length out₁ - m) out₁ rest) (m + n)
    drains_then {n = n} same d = record { gives = gives_then (ap (λ m. m.given) same) d.gives; all_that_fit = λ h. d.all_that_fit (room_left n h) }

-- a pass has drained the side, and asking what waits alters nothing
pub passed_by : (M : Model) {s s₁ s₂ : Sending} {input out out₁ : List ℕ} (used : ℕ) {made : ℕ} {waits : Bool} → used ≤ length input → Under M.taken (take used input)
    → Drains M (fed s (take used input)) s₁ out out₁ made → (s₁.waits ≡ [] → fitting M.taken (drop used input) ≡ [])
    → waits ≡ some s₁.waits → s₂ ≡ s₁ → Passes M s s₂ input out out₁ (record { used = used; made = made; waits = waits })
passed_by M used h below d up asked left = record {
  input_has = h;
  fits = below;
  drains = record { gives = gives_of M refl (sym left) d.gives; all_that_fit = λ room. ap (λ t. t.waits) left ∙ d.all_that_fit room };
  used_up = λ e. up (ap (λ t. t.waits) (sym left) ∙ e);
  waits = asked ∙ ap (λ t. some t.waits) (sym left);
}

-- units of a list, and then further ones of its rest, which is lent as a part
pub take_further : (xs : List ℕ) (m n : ℕ) → take (m + n) xs ≡ take m xs ++ take n (take (length xs - m) (drop m xs))
take_further xs m n = take-add m n xs ∙ ap (λ w. take m xs ++ take n w) (sym (between_to_end xs m (length xs) (omega arith)))

-- An offer that was not refused: the unit is below the limit, and nothing waits.
pub accepted_since : (fits busy : Bool) → false ≡ is_err (answer fits busy) → (fits ≡ true) × (busy ≡ false)
accepted_since false busy e = let z : ◌≡◌ {A = ℕ} 0 1 = cc in absurd (omega arith)
accepted_since true true e = let z : ◌≡◌ {A = ℕ} 0 1 = cc in absurd (omega arith)
accepted_since true false e = (refl, refl)

-- One that was refused, where nothing waits: the unit is too large.
pub refused_since : (fits busy : Bool) → is_err (answer fits busy) ≡ true → busy ≡ false → fits ≡ false
refused_since false busy e b = refl
refused_since true true e b = let z : ◌≡◌ {A = ℕ} 0 1 = cc in absurd (omega arith)
refused_since true false e b = let z : ◌≡◌ {A = ℕ} 0 1 = cc in absurd (omega arith)

pub refused_stays : (fits busy : Bool) (s : Sending) (u : ℕ) → is_err (answer fits busy) ≡ true → offered fits busy s u ≡ s
refused_stays false busy s u e = refl
refused_stays true true s u e = refl
refused_stays true false s u e = let z : ◌≡◌ {A = ℕ} 0 1 = cc in absurd (omega arith)

-- no unit from here on fits
pub none_fit : (n used : ℕ) (input : List ℕ) → used < length input → ltb (get_or input used 0) n ≡ false → fitting n (drop used input) ≡ []
none_fit n used input h e =
    ap (fitting n) (drop_more input used 0 h) ∙ ap (λ b. keep_if b (get_or input used 0) (fitting n (drop (used + 1) input))) e

-- a unit v of the input is handed on
pub pass_more : (M N : Model) (s₀ : Sending) {s₁ s₂ : Sending} {out out' : List ℕ} {n : ℕ} (input : List ℕ) (used v : ℕ) → N ≡ M → Sends s₀.future
    → used < length input → v ≡ get_or input used 0 → Gives M (fed s₀ (take used input)) s₁ out out' n → Under M.taken (take used input)
    → false ≡ is_err (answer (ltb v N.taken) (some s₁.waits))
    → s₂ ≡ offered (ltb v N.taken) (some s₁.waits) s₁ v
    → Under M.taken (take (used + 1) input) × Gives M (fed s₀ (take (used + 1) input)) s₂ out out' n
pass_more M N s₀ {s₁} {s₂} input used v same grow h is g below took side =
    let ok = accepted_since (ltb v N.taken) (some s₁.waits) took in
    let more : take (used + 1) input ≡ take used input ++ (v ∷ []) = take_more input used 0 h ∙ ap (λ x. take used input ++ (x ∷ [])) (sym is) in
    let on : s₂ ≡ fed s₁ (v ∷ []) = side ∙ ap₂ (λ f b. offered f b s₁ v) ok.0 ok.1 ∙ offered-fed s₁ v (none_waits s₁.waits ok.1) in (
      subst (Under M.taken) (sym more) (All-push (λ x. x < M.taken) (take used input) v below (ltb-true v M.taken (ap (λ m. ltb v m.taken) (sym same) ∙ ok.0))),
      gives_of M (ap (fed s₀) more ∙ sym (fed-fed s₀ grow (take used input) (v ∷ []))) (sym on) (gives_fed M (v ∷ []) g),
    )

-- the same pass, at a model by another name
pub passes_of : {M N : Model} {s s' : Sending} {input out out' : List ℕ} {p : Passed} → N ≡ M → Passes N s s' input out out' p → Passes M s s' input out out' p
passes_of {s = s} {s'} {input} {out} {out'} {p} e r = subst (λ (m : Model). Passes m s s' input out out' p) e r

-- The first `used` units are handed on in one way, and a pass does the rest.
pub passes_then : (M : Model) {N : Model} (s : Sending) {s₁ s₂ : Sending} (input : List ℕ) (used : ℕ) {out out₁ rest : List ℕ} {made : ℕ} (p : Passed)
    → N ≡ M → Sends s.future → used ≤ length input → Under M.taken (take used input) → Gives M (fed s (take used input)) s₁ out out₁ made
    → Passes N s₁ s₂ (take (length input - used) (drop used input)) (take (length out₁ - made) (drop made out₁)) rest p
    → Passes M s s₂ input out (put_mid made (length out₁ - made) out₁ rest) (record { used = used + p.used; made = made + p.made; waits = p.waits })
passes_then M s {s₁} {s₂} input used {out} {out₁} {rest} {made} p same grow h below g r =
    let lent : take (length input - used) (drop used input) ≡ drop used input = between_to_end input used (length input) (omega arith) in
    let t = take p.used (take (length input - used) (drop used input)) in
    let more : take (used + p.used) input ≡ take used input ++ t = take_further input used p.used in
    let fed-more : fed s (take (used + p.used) input) ≡ fed (fed s (take used input)) t = ap (fed s) more ∙ sym (fed-fed s grow (take used input) t) in
    let r' : Passes M s₁ s₂ (take (length input - used) (drop used input)) (take (length out₁ - made) (drop made out₁)) rest p = passes_of same r in
    let done = drains_then M (gives_fed M t g) refl r'.drains in
    record {
      input_has = omega (arith, r'.input_has, ap length lent, length-drop used input);
      fits = subst (Under M.taken) (sym more) (All-append (λ x. x < M.taken) (take used input) t below r'.fits);
      drains = record { gives = gives_of M fed-more refl done.gives; all_that_fit = done.all_that_fit };
      used_up = λ e. ap (fitting M.taken) (sym (ap (drop p.used) lent ∙ drop-drop p.used used input)) ∙ r'.used_up e;
      waits = r'.waits;
    }

-- a pass with no input drains the side
pub drained_by : (M : Model) {s s' : Sending} {out out' : List ℕ} (p : Passed) → Sends s.future → Passes M s s' [] out out' p → Drains M s s' out out' p.made
drained_by M {s} p grow r = record {
  gives = gives_of M (sym (ap (fed s) (take-nil p.used) ∙ fed_none s grow)) refl r.drains.gives;
  all_that_fit = r.drains.all_that_fit;
}

-- a pass that does nothing, of a side that takes no unit and in which none waits
pub none_passes : (M : Model) (s : Sending) (input out : List ℕ) → Sends s.future → s.waits ≡ [] → M.taken ≡ 0
    → Passes M s s input out out (record { used = 0; made = 0; waits = false })
none_passes M s input out grow idle none = record {
  input_has = omega arith;
  fits = tt;
  drains = record { gives = gives_of M (fed_none s grow) refl (gives_none M s out); all_that_fit = λ _. idle };
  used_up = λ _. ap (λ n. fitting n input) none ∙ none_below input;
  waits = sym (ap some idle);
}
  where
    none_below : (xs : List ℕ) → fitting 0 xs ≡ []
    none_below [] = refl
    none_below (x ∷ xs) = ap (λ b. keep_if b x (fitting 0 xs)) (le-ltb x 0 (omega arith))

-- a pass with no input into no room only settles the side
pub only_settled : {M : Model} {s s' : Sending} {out' : List ℕ} {p : Passed} → Sends s.future → Passes M s s' [] [] out' p → s' ≡ s
only_settled {M} {s} {s'} {p = p} grow r =
    let g = (drained_by M p grow r).gives in
    let none : g.units ≡ [] = nil_from_length g.units (omega (arith, g.made_is, g.room)) in
    sym (ap (λ us. ahead us s') none) ∙ sym g.side
