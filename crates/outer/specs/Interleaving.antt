-- The outer interleaver keeps the stage rule: what was sent is back 2244 bytes later.
use Rattle.std.specs.Prelude.{◌≡◌, ℕ, zero, suc, ◌+◌, ◌-◌, ◌*◌, ◌%◌, ◌<◌, ◌≤◌, min, Bool, true, false, not, T, List, [], ◌∷◌, ◌++◌, map, length, take, drop, replicate, Some, ◌==◌, nat_lt, slice_index, slice_index_or, refl}
use Rattle.std.proofs.Common.{eqb→eq, lit≤, length-append, length-take, take-append-drop, append_assoc, inl, inr, sym, ap, ap₂, subst, ◌∙◌, arith}
use Rattle.std.proofs.ByRecursion.{All-get_or, All-append, All-drop, All-set}
use Rattle.std.proofs.lemmas.List.{get_or-take, get_or_at, get_or_past, drop_more, length_push}
use Rattle.std.proofs.lemmas.Bool.{cases_lt, lt-ltb, le-ltb, eq-eqb, and_left, and_right}
use Rattle.std.specs.List.{AllByRecursion}
use Rattle.stage.specs.declared.Fault.{Fault}
use Rattle.stage.specs.Model.{Heard, and_then, clean}
use Rattle.stage.specs.Rule.{Rule, Under, Back, Numbered}
use Rattle.stage.specs.Faultless.{no_fault}
use Rattle.holds.proofs.Capped.{capped_stops, capped-most, capped_grows, capped_claims}
use Rattle.stage.proofs.Machine.{gives_sends, hears_from_hears, hears_from_faults}
use Rattle.outer.specs.Branches.{Branches, Arriving, unreached, sending_depths, hearing_depths, new_branches, new_arriving, passed, passing, oldest, queue_now, sends_one, interleaved, hears_if, hears_one, arriving_after, restored, misplaced}
use Rattle.outer.specs.OuterInterleaver.{outer_interleaver, plus_2244}
use Rattle.outer.specs.Delays.{past, Leaves, LeavingVectors}
use Rattle.outer.specs.Delaying.{Follows, past_read, past-zero, past_left, passed_is, follows_on, follows_new, leaves_all, as_many}
use Rattle.computed.proofs.Everywhere.{every, at}

-- the depths of the branches, in bytes
abbrev sends_by : ℕ → ℕ
sends_by j = slice_index sending_depths j

abbrev hears_by : ℕ → ℕ
hears_by j = slice_index hearing_depths j

abbrev deep : ℕ → Bool
deep j = 12 * sends_by j == 204 * j

abbrev matched : ℕ → Bool
matched j = 12 * hears_by j + 204 * j == 2244

all_deep : T (every deep 12)
all_deep = tt

all_matched : T (every matched 12)
all_matched = tt

sending_delay : (p : ℕ) → 12 * sends_by (p % 12) ≡ 204 * (p % 12)
sending_delay p = eqb→eq (12 * sends_by (p % 12)) (204 * (p % 12)) (at deep 12 all_deep (p % 12) (omega arith))

hearing_delay : (p : ℕ) → 12 * hears_by (p % 12) + 204 * (p % 12) ≡ 2244
hearing_delay p = eqb→eq (12 * hears_by (p % 12) + 204 * (p % 12)) 2244 (at matched 12 all_matched (p % 12) (omega arith))

abbrev sent : List ℕ → List ℕ
sent = interleaved (new_branches sending_depths)

-- the byte that leaves at a place
pub sent_at : (xs : List ℕ) (p : ℕ) → p < length xs → slice_index (sent xs) p ≡ past xs p (204 * (p % 12))
sent_at xs p h =
    let e : 0 + p ≡ p = omega arith in
    leaves_all sends_by [] xs (new_branches sending_depths) (follows_new sending_depths refl) p h
    ∙ ap (λ i. past xs i (12 * sends_by (i % 12))) e
    ∙ ap (past xs p) (sending_delay p)

pub leaves : Leaves
leaves = record {
  as_many = as_many (new_branches sending_depths);
  later = λ xs t h.
      let p = t + 204 * (t % 12) in
      let r : p % 12 ≡ t % 12 = omega arith in
      sent_at xs p h ∙ ap (λ j. past xs p (204 * j)) r ∙ past_read xs p (204 * (t % 12)) (omega arith) ∙ ap (λ i. slice_index xs i) (omega arith);
  unreached = λ xs p h.
      elim (cases_lt p (length xs)) [
        | inl l ↦ sent_at xs p l ∙ past-zero xs p (204 * (p % 12)) h
        | inr g ↦ get_or_past (sent xs) p 0 (omega (arith, as_many (new_branches sending_depths) xs))
      ];
}

-- zs begins what is sent for xs
module _ (xs zs : List ℕ) (short : length zs ≤ length xs) (is : (p : ℕ) → p < length zs → slice_index zs p ≡ past xs p (204 * (p % 12))) where
  module _ (us vs : List ℕ) (v : ℕ) (s : Branches) (all : us ++ v ∷ vs ≡ zs) (f : Follows hears_by us s) where
    abbrev t : ℕ
    t = length us

    long : t + suc (length vs) ≡ length zs
    long = sym (length-append us (v ∷ vs)) ∙ ap length all

    v_is : v ≡ past xs t (204 * (t % 12))
    v_is = sym (get_or_at us v vs 0 t refl) ∙ ap (λ w. slice_index w t) all ∙ is t (omega (arith, long))

    placed : misplaced (record { branches = s; count = min t 2244 }) v ≡ false
    placed =
        elim (cases_lt t (204 * (t % 12))) [
          | inl l ↦ and_left (not (v == 0)) (nat_lt (min t 2244) (204 * s.turn)) (ap not (eq-eqb v 0 (v_is ∙ past-zero xs t (204 * (t % 12)) l)))
          | inr g ↦ and_right (not (v == 0)) (nat_lt (min t 2244) (204 * s.turn)) (le-ltb (min t 2244) (204 * s.turn) (let e = f.turn_is in omega arith))
        ]

    -- 2244 bytes later
    back : 2244 ≤ t → passed s v ≡ slice_index xs (t - 2244)
    back h =
        let d : 12 * hears_by (t % 12) + 204 * (t % 12) ≡ 2244 = hearing_delay t in
        let p : ℕ = t - 12 * hears_by (t % 12) in
        let r : p % 12 ≡ t % 12 = omega arith in
        passed_is hears_by us v s f
        ∙ sym (past_left (us ++ v ∷ []) vs t (12 * hears_by (t % 12)) (omega (arith, length_push us v)))
        ∙ ap (λ w. past w t (12 * hears_by (t % 12))) (append_assoc us (v ∷ []) vs ∙ all)
        ∙ past_read zs t (12 * hears_by (t % 12)) (omega arith)
        ∙ is p (omega (arith, long))
        ∙ ap (λ j. past xs p (204 * j)) r
        ∙ past_read xs p (204 * (t % 12)) (omega arith)
        ∙ ap (λ i. slice_index xs i) (omega arith)

  abbrev due : ℕ → ℕ → Heard
  due t n = clean (take (n - (2244 - t)) (drop (t - 2244) xs))

  hears_all : (us vs : List ℕ) (s : Branches) → us ++ vs ≡ zs → Follows hears_by us s
      → restored (record { branches = s; count = min (length us) 2244 }) vs ≡ due (length us) (length vs)
  hears_all us [] s all f =
      let e : 0 ≡ 0 - (2244 - length us) = omega arith in
      ap (λ n. clean (take n (drop (length us - 2244) xs))) e
  hears_all us (v ∷ vs) s all f =
      let t = length us in
      let n = length vs in
      let t' = length (us ++ v ∷ []) in
      let more : t' ≡ t + 1 = length_push us v in
      let l : t + suc n ≡ length zs = long us vs v s all f in
      let counted : min (min t 2244 + 1) 2244 ≡ min t' 2244 = omega arith in
      let rest : restored (arriving_after (record { branches = s; count = min t 2244 }) v) vs ≡ due t' n =
      ap (λ c. restored (record { branches = passing s v; count = c }) vs) counted
      ∙ hears_all (us ++ v ∷ []) vs (passing s v) (append_assoc us (v ∷ []) vs ∙ all) (follows_on hears_by us v s f) in
      let step : and_then (hears_if false (nat_lt (min t 2244) 2244) (passed s v)) (due t' n) ≡ due t (suc n) =
      elim (cases_lt t 2244) [
        | inl early ↦
            let a : n - (2244 - t') ≡ suc n - (2244 - t) = omega arith in
            let b : t' - 2244 ≡ t - 2244 = omega arith in
            ap (λ early. and_then (hears_if false early (passed s v)) (due t' n)) (lt-ltb (min t 2244) 2244 (omega arith))
            ∙ ap₂ (λ a b. clean (take a (drop b xs))) a b
        | inr late ↦
            let a : n - (2244 - t') ≡ n = omega arith in
            let b : t' - 2244 ≡ (t - 2244) + 1 = omega arith in
            let d : suc n ≡ suc n - (2244 - t) = omega arith in
            ap₂ (λ early w. and_then (hears_if false early w) (due t' n)) (le-ltb (min t 2244) 2244 (omega arith)) (back us vs v s all f late)
            ∙ ap clean
            (ap₂ (λ a b. slice_index xs (t - 2244) ∷ take a (drop b xs)) a b
            ∙ sym (ap (take (suc n)) (drop_more xs (t - 2244) 0 (omega arith)))
            ∙ ap (λ a. take a (drop (t - 2244) xs)) d)
      ] in
      ap₂ (λ wrong h. and_then (hears_if wrong (nat_lt (min t 2244) 2244) (passed s v)) h) (placed us vs v s all f) rest ∙ step

-- units stay below 256
abbrev Bytes : List ℕ → Type 0
Bytes = Under 256

queue_bytes : (qs : List (List ℕ)) (i : ℕ) → AllByRecursion Bytes qs → Bytes (slice_index_or qs i [])
queue_bytes qs i h =
    elim (cases_lt i (length qs)) [
      | inl l ↦ All-get_or Bytes qs i [] l h
      | inr g ↦ subst Bytes (sym (get_or_past qs i [] g)) tt
    ]

oldest_byte : (q : List ℕ) → Bytes q → oldest q < 256
oldest_byte [] h = omega arith
oldest_byte (x ∷ q) h = h.0

module _ (s : Branches) (x : ℕ) (h : AllByRecursion Bytes s.queues) (k : x < 256) where
  pushed_bytes : Bytes (queue_now s ++ x ∷ [])
  pushed_bytes = All-append (λ y. y < 256) (queue_now s) (x ∷ []) (queue_bytes s.queues s.turn h) (k, tt)

  passed_byte : passed s x < 256
  passed_byte = oldest_byte (queue_now s ++ x ∷ []) pushed_bytes

  passing_bytes : AllByRecursion Bytes (passing s x).queues
  passing_bytes = All-set Bytes s.queues s.turn (drop 1 (queue_now s ++ x ∷ [])) (All-drop (λ y. y < 256) 1 (queue_now s ++ x ∷ []) pushed_bytes) h

zero_bytes : (d : ℕ) → Bytes (replicate d 0)
zero_bytes zero = tt
zero_bytes (suc d) = (omega arith, zero_bytes d)

all_zeros : (ds : List ℕ) → AllByRecursion Bytes (map (λ d. replicate d 0) ds)
all_zeros [] = tt
all_zeros (d ∷ ds) = (zero_bytes d, all_zeros ds)

new_bytes : (ds : List ℕ) → AllByRecursion Bytes (new_branches ds).queues
unfolding new_branches
new_bytes ds = all_zeros ds

sends_bytes : (s : Branches) (xs : List ℕ) → AllByRecursion Bytes s.queues → Bytes xs → Bytes (interleaved s xs)
sends_bytes s [] h k = tt
sends_bytes s (x ∷ xs) h k = (passed_byte s x h k.0, sends_bytes (passing s x) xs (passing_bytes s x h k.0) k.1)

one_byte : (wrong early : Bool) (x : ℕ) (r : Heard) → x < 256 → Bytes r.units → Bytes (and_then (hears_if wrong early x) r).units
one_byte true early x r h k = tt
one_byte false true x r h k = k
one_byte false false x r h k = (h, k)

hears_bytes : (s : Arriving) (ys : List ℕ) → AllByRecursion Bytes s.branches.queues → Bytes ys → Bytes (restored s ys).units
hears_bytes s [] h k = tt
hears_bytes s (y ∷ ys) h k =
    one_byte (misplaced s y) (nat_lt s.count 2244) (passed s.branches y) (restored (arriving_after s y) ys)
    (passed_byte s.branches y h k.0) (hears_bytes (arriving_after s y) ys (passing_bytes s.branches y h k.0) k.1)

law : (xs : List ℕ) (m : ℕ) → m ≤ length (sent xs) → Back outer_interleaver xs m (restored new_arriving (take (length (sent xs) - m) (sent xs)))
law xs m k =
    let n : ℕ = length (sent xs) - m in
    let zs : List ℕ = take n (sent xs) in
    let many : length (sent xs) ≡ length xs = as_many (new_branches sending_depths) xs in
    let len : length zs ≡ n = length-take n (sent xs) ∙ omega arith in
    let is : (p : ℕ) → p < length zs → slice_index zs p ≡ past xs p (204 * (p % 12)) =
    λ p h. get_or-take n (sent xs) p 0 (omega arith) ∙ sent_at xs p (omega arith) in
    let e : restored new_arriving zs ≡ clean (take (length zs - 2244) xs) =
    hears_all xs zs (omega arith) is [] zs (new_branches hearing_depths) refl (follows_new hearing_depths refl) in
    subst (Back outer_interleaver xs m) (sym e)
    (record {
      clean = refl;
      begins = (drop (length zs - 2244) xs, sym (take-append-drop (length zs - 2244) xs));
      within = λ below. simp length-take (omega (arith, capped_claims plus_2244 m below));
    })

-- the only fault
numbered : (wrong early : Bool) (x : ℕ) (f : Fault) → (hears_if wrong early x).fault ≡ Some f → Numbered 1 f
numbered true early x f e = let same : unreached ≡ f = cc in subst (Numbered 1) same (lit≤ tt, lit≤ tt)
numbered false true x f e = no_fault (Numbered 1) f e
numbered false false x f e = no_fault (Numbered 1) f e

pub interleaver_rule : Rule outer_interleaver
interleaver_rule = record {
  taken_is = inr (8, lit≤ tt, lit≤ tt, refl);
  given_is = inr (8, lit≤ tt, lit≤ tt, refl);
  size_some = lit≤ tt;
  size_stops = lit≤ tt;
  hold_stops = capped_stops plus_2244;
  hold_grows = capped_grows plus_2244 (λ m n h. omega arith);
  hold_most = capped-most plus_2244;
  sends_grow = gives_sends sends_one passing (new_branches sending_depths);
  hears_grow = hears_from_hears hears_one arriving_after new_arriving;
  sends_under = λ xs h. sends_bytes (new_branches sending_depths) xs (new_bytes sending_depths) h;
  hears_under = λ ys h. hears_bytes new_arriving ys (new_bytes hearing_depths) h;
  faults_numbered = hears_from_faults hears_one arriving_after (Numbered 1)
      (λ s y f e. numbered (misplaced s y) (nat_lt s.count 2244) (passed s.branches y) f e) new_arriving;
  law = λ xs m h k. law xs m k;
}

pub leaving_vectors : LeavingVectors
leaving_vectors = record {
  byte_0 = λ xs h. leaves.later xs 0 (omega arith);
  byte_1 = λ xs h. leaves.later xs 1 (omega arith);
  byte_203 = λ xs h. leaves.later xs 203 h;
}
