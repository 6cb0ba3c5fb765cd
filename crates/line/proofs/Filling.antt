-- Bytes are handed on, and waiting cells are written into a buffer.
use Rattle.std.proofs.Common.{◌≡◌, ℕ, ◌+◌, ◌<◌, ◌≤◌, List, [], ◌∷◌, ◌++◌, length, get_or, take, drop, sym, refl, ap, ◌∙◌, ap₂, inl, inr, arith, length-append, length-drop, take-append-drop}
use Rattle.std.proofs.lemmas.List.{append_assoc, drop_at, drop-drop, drop_more, nil_from_length, take_at}
use Rattle.std.proofs.lemmas.Bool.{cases_lt, lt-ltb}
use Rattle.stage.specs.declared.Passed.{Passed}
use Rattle.stage.specs.Model.{Model, Sending, fed, some}
use Rattle.stage.specs.Passing.{Gives, Drains, Passes}
use Rattle.stage.specs.Piled.{fitting, keep_if}
use Rattle.stage.specs.Rule.{Sends}
use Rattle.stage.proofs.Feeding.{fed-fed}
use Rattle.stage.proofs.Passing.{gives_of, gives_fed}
use Rattle.broadcast.specs.Line.{room, written}
use Rattle.line.specs.View.{dropped}

-- every byte fits a pile that takes bytes
pub all_used : (bs : List ℕ) (used : ℕ) → ((i : ℕ) → get_or bs i 0 < 256) → used ≤ length bs → fitting 256 (drop used bs) ≡ [] → used ≡ length bs
all_used bs used bytes h e =
    elim (cases_lt used (length bs)) [
      | inl l ↦
          let first : fitting 256 (drop used bs) ≡ get_or bs used 0 ∷ fitting 256 (drop (used + 1) bs) =
          ap (fitting 256) (drop_more bs used 0 l) ∙ ap (λ b. keep_if b (get_or bs used 0) (fitting 256 (drop (used + 1) bs))) (lt-ltb (get_or bs used 0) 256 (bytes used)) in
          let z : ◌≡◌ {A = ℕ} 0 1 = cc in
          absurd (omega arith)
      | inr l ↦ omega arith
    ]

-- The rest of a packet from a place on is handed on, and ns are pending after it.
module _ (M : Model) (s s' : Sending) (grow : Sends s.future) (packet ns : List ℕ) (at : ℕ) {begun out out' : List ℕ} (is : begun ≡ drop at packet)
    (p : Passed) (passed : Passes M s s' begun out out' p) where
  later : drop p.used (drop at packet) ≡ drop (at + p.used) packet
  later = drop-drop p.used at packet

  pub handed-on : Gives M (fed s (drop at packet ++ ns)) (fed s' (drop (at + p.used) packet ++ ns)) out out' p.made
  handed-on =
      let used = take p.used begun in
      let rest = drop (at + p.used) packet ++ ns in
      let split : drop at packet ++ ns ≡ used ++ rest =
      ap (λ w. w ++ ns) (sym (take-append-drop p.used (drop at packet)))
      ∙ append_assoc (take p.used (drop at packet)) (drop p.used (drop at packet)) ns
      ∙ ap₂ (λ a b. a ++ (b ++ ns)) (ap (take p.used) (sym is)) later in
      gives_of M (ap (fed s) split ∙ sym (fed-fed s grow used rest)) refl (gives_fed M rest passed.drains.gives)

  -- so many fewer are pending
  pub fewer : 1 ≤ p.used → length (drop (at + p.used) packet ++ ns) < length (drop at packet ++ ns)
  fewer h =
      omega (arith, length-append (drop (at + p.used) packet) ns, length-append (drop at packet) ns, ap length later, length-drop p.used (drop at packet), passed.input_has, ap length is)

  -- none is, where all of the packet is used and it has nothing left
  pub none_pending : p.used ≡ 0 → p.used ≡ length begun → (drop at packet ≡ [] → drop at packet ++ ns ≡ []) → drop (at + p.used) packet ++ ns ≡ []
  none_pending z all ready =
      let same : at + p.used ≡ at = omega arith in
      ap (λ n. drop n packet ++ ns) same ∙ ready (nil_from_length (drop at packet) (omega (arith, ap length is)))

-- nothing waits in the side that the line has fed, where nothing waits in the pile and none is pending
pub none_fed : (s : Sending) (ps : List ℕ) → Sends s.future → s.waits ≡ [] → ps ≡ [] → (fed s ps).waits ≡ []
none_fed s ps grow w p = ap₂ (λ w p. w ++ s.future p) w p ∙ grow.none

-- some wait in it exactly where some wait in the pile, where none is pending once none waits in the pile
pub waits_fed : (s : Sending) (ps : List ℕ) → Sends s.future → (s.waits ≡ [] → ps ≡ []) → some s.waits ≡ some (fed s ps).waits
waits_fed s ps grow settled = go s.waits refl
  where
    go : (w : List ℕ) → s.waits ≡ w → some w ≡ some (w ++ s.future ps)
    go [] e = sym (ap (λ w. some (w ++ s.future ps)) (sym e) ∙ ap some (none_fed s ps grow e (settled e)))
    go (x ∷ w) e = refl

-- what the buffer then holds, and what is left
pub filled_by : (M : Model) (W W' : Sending) (out out' : List ℕ) (n : ℕ) → Drains M W W' out out' n
    → (n ≡ room W.waits out) × (out' ≡ written (take n W.waits) out) × (W' ≡ dropped n W)
filled_by M W W' out out' n d =
    let g = d.gives in
    let us = g.units in
    let whole : W.waits ≡ us ++ W'.waits = ap (λ s. s.waits) g.side in
    let front : take n W.waits ≡ us = ap (take n) whole ∙ take_at us W'.waits n g.made_is in
    let long = ap length whole ∙ length-append us W'.waits in (
      elim (cases_lt n (length out)) [
        | inl l ↦ omega (arith, long, g.made_is, ap length (d.all_that_fit l))
        | inr l ↦ omega (arith, long, g.made_is, g.room)
      ],
      g.buffer ∙ ap₂ (λ a k. a ++ drop k out) (sym front) (sym (ap length front ∙ g.made_is)),
      λ i. record { waits = sym (ap (drop n) whole ∙ drop_at us W'.waits n g.made_is) i; future = (ap (λ s. s.future) (sym g.side)) i },
    )
