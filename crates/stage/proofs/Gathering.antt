-- A side that gathers the units of a block in the front of a store, and then gives the code of the block from a list, by a place in that list.
--   Offered t u s r after    an offer of u to the side s, which takes units below t: its answer r, and the side after it
--   Took s r after           a take from the side s
-- Each serves a receiving side too, where that does what a sending side does, with no fault.
use Rattle.std.proofs.Common.{◌≡◌, ℕ, ◌+◌, ◌<◌, ◌≤◌, true, false, ltb, List, [], ◌∷◌, length, get_or, take, drop, set, Some, None, Ok, Err, Option, Result, sym, ap, ◌∙◌, ap₂, arith, length-take}
use Rattle.std.proofs.lemmas.List.{take_more_set}
use Rattle.std.proofs.lemmas.Bool.{lt-ltb, le-ltb}
use Rattle.refusal.specs.declared.Refusal.{Refusal}
use Rattle.refusal.specs.declared.Refusal.TheVariants.{SomethingWaits}
use Rattle.stage.specs.Blocks.{block_sending}
use Rattle.stage.specs.Model.{Sending, some, some_heard, answer, offered, heard, heard_of, first, others, first_heard, sent, collected}
use Rattle.stage.proofs.Blocks.{sent-more, sent_whole}
use Rattle.stage.specs.Faultless.{clean_some, clean_first, heard_of_offered}
use Rattle.stage.proofs.Offers.{waiting, waiting-sent, accepted, accepted-sent}
use Rattle.stage.proofs.Waits.{some-rest, next-rest, no_rest}

pub record Offered (t u : ℕ) (s : Sending) (r : Result (Unit {0}) Refusal) (after : Sending) : Type 0 where
  pub answers : r ≡ answer (ltb u t) (some s.waits)
  pub side : after ≡ offered (ltb u t) (some s.waits) s u
  pub heard_answers : r ≡ answer (ltb u t) (some_heard (heard_of s).waits)
  pub heard_side : heard_of after ≡ heard (ltb u t) (some_heard (heard_of s).waits) (heard_of s) u

pub record Took (s : Sending) (r : Option ℕ) (after : Sending) : Type 0 where
  pub answers : r ≡ first s.waits
  pub side : after ≡ sent s
  pub heard_answers : Ok r ≡ first_heard (heard_of s).waits
  pub heard_side : heard_of after ≡ collected (heard_of s)

offer : (t u : ℕ) (s : Sending) (r : Result (Unit {0}) Refusal) (after : Sending)
    → r ≡ answer (ltb u t) (some s.waits) → after ≡ offered (ltb u t) (some s.waits) s u → Offered t u s r after
offer t u s r after a b =
    let waits = sym (clean_some s.waits) in
    record {
      answers = a;
      side = b;
      heard_answers = a ∙ ap (answer (ltb u t)) waits;
      heard_side = ap heard_of b ∙ sym (heard_of_offered (ltb u t) (some s.waits) s u) ∙ ap (λ busy. heard (ltb u t) busy (heard_of s) u) waits;
    }

took : (s : Sending) (r : Option ℕ) (after : Sending) → r ≡ first s.waits → after ≡ sent s → Took s r after
took s r after a b = record { answers = a; side = b; heard_answers = ap Ok a ∙ sym (clean_first s.waits); heard_side = ap heard_of b }

-- B units make a block of kind k, of which `have` stand in the store; n units of the list `out` wait from the place `at` on
module _ {K : Type 0} (turn : K → K) (code : K → List ℕ → List ℕ) (B n : ℕ) (k : K) (out store : List ℕ) (have at : ℕ) (sized : length out ≡ n) where
  abbrev now_is : Sending
  now_is = block_sending turn code B (drop at out) k (take have store)

  pub waits_is : some now_is.waits ≡ ltb at n
  waits_is = some-rest out n at sized

  pub waits_heard : some_heard (heard_of now_is).waits ≡ ltb at n
  waits_heard = clean_some (drop at out) ∙ waits_is

  module _ (t u : ℕ) (fits : u < t) where
    pub busy : at < n → Offered t u now_is (Err SomethingWaits) now_is
    busy h =
        let f = lt-ltb u t fits in
        let b = waits_is ∙ lt-ltb at n h in
        offer t u now_is _ _ (waiting _ _ f b) (waiting-sent _ _ now_is u f b)

    idle : n ≤ at → (after : Sending) → after ≡ offered true false now_is u → Offered t u now_is (Ok tt) after
    idle h after p =
        let f = lt-ltb u t fits in
        let b = waits_is ∙ le-ltb at n h in
        offer t u now_is _ _ (accepted _ _ f b) (accepted-sent _ _ now_is after u f b p)

    -- the block is not whole yet, or whole
    pub more : n ≤ at → have < length store → have + 1 < B → (out' : List ℕ) → length out' ≡ n
        → Offered t u now_is (Ok tt) (block_sending turn code B (drop at out') k (take (have + 1) (set store have u)))
    more h l m out' e =
        idle h _
        (ap₂ (λ w g. block_sending turn code B w k g) (no_rest out' n at e h) (take_more_set store have u l)
        ∙ sym (sent-more turn code B (drop at out) k (take have store) u (simp length-take (omega arith))))

    pub whole : n ≤ at → have < length store → have + 1 ≡ B → (out' : List ℕ) → out' ≡ code k (take B (set store have u))
        → Offered t u now_is (Ok tt) (block_sending turn code B out' (turn k) [])
    whole h l m out' e =
        idle h _
        (ap (λ w. block_sending turn code B w (turn k) [])
        (e ∙ ap (λ i. code k (take i (set store have u))) (sym m) ∙ ap (code k) (take_more_set store have u l))
        ∙ sym (sent_whole turn code B (drop at out) k (take have store) u (simp length-take (omega arith))))

  pub none : n ≤ at → Took now_is None now_is
  none h =
      let w = no_rest out n at sized h in
      took now_is None now_is (sym (ap first w)) (ap (λ v. block_sending turn code B v k (take have store)) (w ∙ sym (ap others w)))

  pub next : at < n → (x : ℕ) → get_or out at 0 ≡ x → Took now_is (Some x) (block_sending turn code B (drop (at + 1) out) k (take have store))
  next h x e =
      let w = next-rest out n at sized h ∙ ap (λ y. y ∷ drop (at + 1) out) e in
      took now_is (Some x) _ (sym (ap first w)) (ap (λ v. block_sending turn code B v k (take have store)) (sym (ap others w)))
