-- The outer coder keeps the stage rule: whole packets come back, and less than one more is held.
use Rattle.std.specs.Prelude.{◌≡◌, ℕ, zero, suc, ◌+◌, ◌-◌, ◌*◌, ◌<◌, ◌≤◌, Bool, true, false, cond, ltb, List, [], ◌∷◌, ◌++◌, length, take, drop, replicate, Some, Decides, nat_eq, nat_lt, refl}
use Rattle.std.proofs.Common.{lit≤, length-append, length-take, length-drop, take-append-drop, append_assoc, inl, inr, sym, ap, ap₂, subst, ◌∙◌, not-suc-le-zero, mul-suc, arith}
use Rattle.std.proofs.Math.Seq.{take-append-add}
use Rattle.std.proofs.ByRecursion.{All-append, All-push, All-take}
use Rattle.std.proofs.lemmas.List.{length_push, take_at}
use Rattle.std.proofs.lemmas.List.Sums.{fold_push}
use Rattle.std.proofs.lemmas.Bool.{cases_lt, cases_eq, lt-ltb, le-ltb, eqb-true, eq-eqb, and_parts, and_from}
use Rattle.reed.specs.Code.{remainder, stepped, Bytes, Codeword}
use Rattle.reed.specs.Field.{power, value}
use Rattle.reed.proofs.Codewords.{protected_codeword}
use Rattle.reed.proofs.Sizes.{bytes_stepped, bytes_remainder}
use Rattle.stage.specs.declared.Fault.{Fault}
use Rattle.stage.specs.Model.{Heard, and_then, clean, silence}
use Rattle.stage.specs.Rule.{Rule, Begins, Back, Numbered}
use Rattle.stage.specs.Faultless.{no_fault}
use Rattle.holds.proofs.Capped.{capped_stops, capped-most, capped_grows, capped_claims}
use Rattle.stage.proofs.Machine.{gives_sends, hears_from_hears, hears_from_faults}
use Rattle.outer.specs.OuterCoder.{Progress, new_packet, passes, progressed, coded, vanishes, failed_root, checked, decoded, hears_block, gathered, restored_from, plus_187, outer_coder}
use Rattle.outer.specs.Protection.{SendsCodewords, HearsCodewords}

-- ---- sending

-- after the bytes p of a packet
abbrev within : List ℕ → Progress
within p = record { gone = length p; so_far = remainder p }

remainder-more : (p : List ℕ) (x : ℕ) → remainder (p ++ x ∷ []) ≡ stepped (remainder p) x
unfolding remainder
remainder-more p x = fold_push stepped (replicate 16 0) p x

-- one byte more, and the packet is not whole, or whole
more : (p : List ℕ) (x : ℕ) (xs : List ℕ) → length p + 1 < 188 → coded (within p) (x ∷ xs) ≡ x ∷ coded (within (p ++ x ∷ [])) xs
more p x xs h =
    let on : record { gone = length p + 1; so_far = stepped (remainder p) x } ≡ within (p ++ x ∷ []) =
    λ i. record { gone = sym (length_push p x) i; so_far = sym (remainder-more p x) i } in
    ap (λ b. x ∷ (cond b [] (stepped (remainder p) x) ++ coded (cond b (record { gone = length p + 1; so_far = stepped (remainder p) x }) new_packet) xs))
    (lt-ltb (length p) 187 (omega arith))
    ∙ ap (λ (s : Progress). x ∷ coded s xs) on

whole : (p : List ℕ) (x : ℕ) (xs : List ℕ) → length p + 1 ≡ 188 → coded (within p) (x ∷ xs) ≡ x ∷ (remainder (p ++ x ∷ []) ++ coded new_packet xs)
whole p x xs h =
    ap (λ b. x ∷ (cond b [] (stepped (remainder p) x) ++ coded (cond b (record { gone = length p + 1; so_far = stepped (remainder p) x }) new_packet) xs))
    (le-ltb (length p) 187 (omega arith))
    ∙ ap (λ r. x ∷ (r ++ coded new_packet xs)) (sym (remainder-more p x))

packet_from : (p : List ℕ) (x : ℕ) (xs rest : List ℕ) → length p + length (x ∷ xs) ≡ 188
    → coded (within p) ((x ∷ xs) ++ rest) ≡ (x ∷ xs) ++ (remainder (p ++ x ∷ xs) ++ coded new_packet rest)
packet_from p x [] rest h = whole p x rest (omega arith)
packet_from p x (y ∷ ys) rest h =
    more p x ((y ∷ ys) ++ rest) (omega arith)
    ∙ ap (λ w. x ∷ w)
    (packet_from (p ++ x ∷ []) y ys rest (simp length-append (omega arith))
    ∙ ap (λ q. (y ∷ ys) ++ (remainder q ++ coded new_packet rest)) (append_assoc p (x ∷ []) (y ∷ ys)))

sends_packet : (p rest : List ℕ) → length p ≡ 188 → coded new_packet (p ++ rest) ≡ (p ++ remainder p) ++ coded new_packet rest
sends_packet [] rest h = absurd (omega arith)
sends_packet (x ∷ xs) rest h =
    packet_from [] x xs rest (omega arith) ∙ sym (append_assoc (x ∷ xs) (remainder (x ∷ xs)) (coded new_packet rest))

tail_from : (p xs : List ℕ) → length p + length xs < 188 → coded (within p) xs ≡ xs
tail_from p [] h = refl
tail_from p (x ∷ xs) h = more p x xs (omega arith) ∙ ap (λ w. x ∷ w) (tail_from (p ++ x ∷ []) xs (simp length-append (omega arith)))

sends_tail : (xs : List ℕ) → length xs < 188 → coded new_packet xs ≡ xs
sends_tail xs h = tail_from [] xs (omega arith)

-- no byte is left out
no_fewer : (s : Progress) (xs : List ℕ) → length xs ≤ length (coded s xs)
no_fewer s [] = omega arith
no_fewer s (x ∷ xs) = simp length-append (omega (arith, no_fewer (progressed s x) xs))

-- ---- receiving

more-heard : (b : List ℕ) (y : ℕ) (ys : List ℕ) → length b + 1 < 204 → restored_from b (y ∷ ys) ≡ restored_from (b ++ y ∷ []) ys
more-heard b y ys h =
    ap (λ t. and_then (cond t silence (decoded (b ++ y ∷ []))) (restored_from (cond t (b ++ y ∷ []) []) ys)) (lt-ltb (length b) 203 (omega arith))

whole_heard : (b : List ℕ) (y : ℕ) (ys : List ℕ) → length b + 1 ≡ 204 → restored_from b (y ∷ ys) ≡ and_then (decoded (b ++ y ∷ [])) (restored_from [] ys)
whole_heard b y ys h =
    ap (λ t. and_then (cond t silence (decoded (b ++ y ∷ []))) (restored_from (cond t (b ++ y ∷ []) []) ys)) (le-ltb (length b) 203 (omega arith))

block-from : (b : List ℕ) (y : ℕ) (ys rest : List ℕ) → length b + length (y ∷ ys) ≡ 204
    → restored_from b ((y ∷ ys) ++ rest) ≡ and_then (decoded (b ++ y ∷ ys)) (restored_from [] rest)
block-from b y [] rest h = whole_heard b y rest (omega arith)
block-from b y (z ∷ zs) rest h =
    more-heard b y ((z ∷ zs) ++ rest) (omega arith)
    ∙ block-from (b ++ y ∷ []) z zs rest (simp length-append (omega arith))
    ∙ ap (λ c. and_then (decoded c) (restored_from [] rest)) (append_assoc b (y ∷ []) (z ∷ zs))

hears_whole : (b rest : List ℕ) → length b ≡ 204 → restored_from [] (b ++ rest) ≡ and_then (decoded b) (restored_from [] rest)
hears_whole [] rest h = absurd (omega arith)
hears_whole (y ∷ ys) rest h = block-from [] y ys rest (omega arith)

short-from : (b ys : List ℕ) → length b + length ys < 204 → restored_from b ys ≡ silence
short-from b [] h = refl
short-from b (y ∷ ys) h = more-heard b y ys (omega arith) ∙ short-from (b ++ y ∷ []) ys (simp length-append (omega arith))

hears_short : (ys : List ℕ) → length ys < 204 → restored_from [] ys ≡ silence
hears_short ys h = short-from [] ys (omega arith)

-- the test is exact
vanishes_decides : (n : ℕ) (xs : List ℕ) → Decides (vanishes n xs) ((i : ℕ) → i < n → value (power i) xs ≡ 0)
unfolding vanishes
vanishes_decides zero xs = (λ e i h. absurd (not-suc-le-zero h), λ z. refl)
vanishes_decides (suc n) xs =
    let here = nat_eq (value (power n) xs) 0 in
    let below = vanishes_decides n xs in (
      λ e i h.
          let both = and_parts here (vanishes n xs) e in
          elim (cases_eq i n) [
            | inl same ↦ ap (λ k. value (power k) xs) same ∙ eqb-true (value (power n) xs) 0 both.0
            | inr other ↦ below.0 both.1 i (omega arith)
          ],
      λ z. and_from here (vanishes n xs) (eq-eqb (value (power n) xs) 0 (z n (omega arith))) (below.1 (λ i h. z i (omega arith))),
    )

pub codeword_decides : (b : List ℕ) → length b ≡ 204 → Decides (vanishes 16 b) (Codeword b)
codeword_decides b l = let d = vanishes_decides 16 b in (λ e. (l, d.0 e), λ c. d.1 c.1)

decoded_codeword : (b : List ℕ) → Codeword b → decoded b ≡ clean (take 188 b)
decoded_codeword b c = ap (λ v. checked v b) ((vanishes_decides 16 b).1 c.1)

decoded_other : (b : List ℕ) → length b ≡ 204 → (Codeword b → ⊥) → (v : Bool) → v ≡ vanishes 16 b → checked v b ≡ record { units = []; fault = Some failed_root }
decoded_other b l n true e = absurd (n ((codeword_decides b l).0 (sym e)))
decoded_other b l n false e = refl

hears_codeword : (b rest : List ℕ) → Codeword b → restored_from [] (b ++ rest) ≡ and_then (clean (take 188 b)) (restored_from [] rest)
hears_codeword b rest c = hears_whole b rest c.0 ∙ ap (λ h. and_then h (restored_from [] rest)) (decoded_codeword b c)

-- ---- the laws in the coder's own words

pub sends_codewords : SendsCodewords
sends_codewords = record {
  packet = λ p rest l. (remainder p, protected_codeword p l, sends_packet p rest l);
  tail = sends_tail;
}

pub hears_codewords : HearsCodewords
hears_codewords = record {
  codeword = hears_codeword;
  other = λ b rest l n. hears_whole b rest l ∙ ap (λ h. and_then h (restored_from [] rest)) (decoded_other b l n (vanishes 16 b) refl);
  tail = hears_short;
}

-- ---- the stage's law

-- n units of what was sent are heard
record Kept (xs : List ℕ) (n : ℕ) : Type 0 where
  us : List ℕ
  heard_is : restored_from [] (take n (coded new_packet xs)) ≡ clean us
  begins : Begins us xs
  few : length xs + n ≤ length us + (length (coded new_packet xs) + 187)

kept_none : (xs : List ℕ) (n : ℕ) → n < 204 → length xs + n ≤ length (coded new_packet xs) + 187 → Kept xs n
kept_none xs n h few = record {
  us = [];
  heard_is = hears_short (take n (coded new_packet xs)) (simp length-take (omega arith));
  begins = (xs, refl);
  few = omega arith;
}

module _ (xs : List ℕ) (n : ℕ) (some : 188 ≤ length xs) where
  abbrev p : List ℕ
  p = take 188 xs

  abbrev rest : List ℕ
  rest = drop 188 xs

  p_long : length p ≡ 188
  p_long = length-take 188 xs ∙ omega arith

  sent_is : coded new_packet xs ≡ (p ++ remainder p) ++ coded new_packet rest
  sent_is = ap (coded new_packet) (sym (take-append-drop 188 xs)) ∙ sends_packet p rest p_long

  sent_long : length (coded new_packet xs) ≡ 204 + length (coded new_packet rest)
  sent_long = ap length sent_is ∙ length-append (p ++ remainder p) (coded new_packet rest) ∙ omega (arith, (protected_codeword p p_long).0)

  kept-first : n < 204 → Kept xs n
  kept-first h = kept_none xs n h (omega (arith, sent_long, no_fewer new_packet rest, length-drop 188 xs))

  kept_later : 204 ≤ n → Kept rest (n - 204) → Kept xs n
  kept_later h k =
      let block : List ℕ = p ++ remainder p in
      let c = protected_codeword p p_long in
      let heard : take n (coded new_packet xs) ≡ block ++ take (n - 204) (coded new_packet rest) =
      ap (take n) sent_is
      ∙ ap (λ i. take i (block ++ coded new_packet rest)) (omega (arith, c.0))
      ∙ take-append-add block (coded new_packet rest) (n - 204) in
      record {
        us = p ++ k.us;
        heard_is = ap (restored_from []) heard
            ∙ hears_codeword block (take (n - 204) (coded new_packet rest)) c
            ∙ ap₂ (λ b r. and_then (clean b) r) (take_at p (remainder p) 188 p_long) k.heard_is;
        begins = (k.begins.0, sym (take-append-drop 188 xs) ∙ ap (λ w. p ++ w) k.begins.1 ∙ sym (append_assoc p k.us k.begins.0));
        few = simp length-append (omega (arith, k.few, sent_long, p_long, length-drop 188 xs));
      }

kept-short : (xs : List ℕ) (n : ℕ) → n ≤ length (coded new_packet xs) → length xs < 188 → Kept xs n
kept-short xs n h short = let same = ap length (sends_tail xs short) in kept_none xs n (omega arith) (omega arith)

kept : (q : ℕ) (xs : List ℕ) (n : ℕ) → length xs < 188 * q + 188 → n ≤ length (coded new_packet xs) → Kept xs n
kept zero xs n few h = kept-short xs n h (omega arith)
kept (suc q) xs n few h =
    elim (cases_lt (length xs) 188) [
      | inl short ↦ kept-short xs n h short
      | inr long ↦
          elim (cases_lt n 204) [
            | inl early ↦ kept-first xs n long early
            | inr late ↦
                kept_later xs n long late
                (kept q (drop 188 xs) (n - 204) (simp length-drop (omega (arith, mul-suc 188 q))) (omega (arith, sent_long xs n long)))
          ]
    ]

law : (xs : List ℕ) (m : ℕ) → m ≤ length (coded new_packet xs)
    → Back outer_coder xs m (restored_from [] (take (length (coded new_packet xs) - m) (coded new_packet xs)))
law xs m h =
    let n : ℕ = length (coded new_packet xs) - m in
    let k = kept (length xs) xs n (omega arith) (omega arith) in
    subst (Back outer_coder xs m) (sym k.heard_is)
    (record {
      clean = refl;
      begins = k.begins;
      within = λ below. omega (arith, k.few, capped_claims plus_187 m below);
    })

-- units stay below 256
progressed_bytes : (b : Bool) (n : ℕ) (r : List ℕ) → Bytes r → Bytes (cond b (record { gone = n; so_far = r }) new_packet).so_far
progressed_bytes true n r h = h
progressed_bytes false n r h = bytes_remainder []

parity_bytes : (b : Bool) (r : List ℕ) → Bytes r → Bytes (cond b [] r)
parity_bytes true r h = tt
parity_bytes false r h = h

sends_bytes : (s : Progress) (xs : List ℕ) → Bytes s.so_far → Bytes xs → Bytes (coded s xs)
sends_bytes s [] h k = tt
sends_bytes s (x ∷ xs) h k =
    let b = ltb s.gone 187 in
    let r = bytes_stepped s.so_far x h in (
      k.0,
      All-append (λ y. y < 256) (cond b [] (stepped s.so_far x)) (coded (progressed s x) xs) (parity_bytes b (stepped s.so_far x) r)
          (sends_bytes (progressed s x) xs (progressed_bytes b (s.gone + 1) (stepped s.so_far x) r) k.1),
    )

block_bytes : (b : Bool) (c : List ℕ) → Bytes c → Bytes (cond b c [])
block_bytes true c h = h
block_bytes false c h = tt

heard_bytes : (b v : Bool) (c : List ℕ) (r : Heard) → Bytes c → Bytes r.units → Bytes (and_then (cond b silence (checked v c)) r).units
heard_bytes true v c r h k = k
heard_bytes false true c r h k = All-append (λ y. y < 256) (take 188 c) r.units (All-take (λ y. y < 256) 188 c h) k
heard_bytes false false c r h k = tt

hears_bytes : (c ys : List ℕ) → Bytes c → Bytes ys → Bytes (restored_from c ys).units
hears_bytes c [] h k = tt
hears_bytes c (y ∷ ys) h k =
    let b = ltb (length c) 203 in
    let pushed = All-push (λ x. x < 256) c y h k.0 in
    heard_bytes b (vanishes 16 (c ++ y ∷ [])) (c ++ y ∷ []) (restored_from (gathered c y) ys) pushed
    (hears_bytes (gathered c y) ys (block_bytes b (c ++ y ∷ []) pushed) k.1)

-- the only fault
numbered : (b v : Bool) (c : List ℕ) (f : Fault) → (cond b silence (checked v c)).fault ≡ Some f → Numbered 1 f
numbered true v c f e = no_fault (Numbered 1) f e
numbered false true c f e = no_fault (Numbered 1) f e
numbered false false c f e = let same : failed_root ≡ f = cc in subst (Numbered 1) same (lit≤ tt, lit≤ tt)

pub coder_rule : Rule outer_coder
coder_rule = record {
  taken_is = inr (8, lit≤ tt, lit≤ tt, refl);
  given_is = inr (8, lit≤ tt, lit≤ tt, refl);
  size_some = lit≤ tt;
  size_stops = lit≤ tt;
  hold_stops = capped_stops plus_187;
  hold_grows = capped_grows plus_187 (λ m n h. omega arith);
  hold_most = capped-most plus_187;
  sends_grow = gives_sends passes progressed new_packet;
  hears_grow = hears_from_hears hears_block gathered [];
  sends_under = λ xs h. sends_bytes new_packet xs (bytes_remainder []) h;
  hears_under = λ ys h. hears_bytes [] ys tt h;
  faults_numbered = hears_from_faults hears_block gathered (Numbered 1)
      (λ c y f e. numbered (nat_lt (length c) 203) (vanishes 16 (c ++ y ∷ [])) (c ++ y ∷ []) f e) [];
  law = λ xs m h k. law xs m k;
}
