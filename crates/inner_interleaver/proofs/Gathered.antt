-- The block begun takes several bits at once: it is not whole yet, or whole.
use Rattle.std.proofs.Common.{◌≡◌, ℕ, ◌+◌, ◌-◌, ◌*◌, ◌<◌, ◌≤◌, List, [], ◌∷◌, ◌++◌, length, get_or, take, drop, sym, refl, ap, ◌∙◌, subst, ap₂, arith, length-append, length-drop, length-take}
use borrow.Rule.Slice.PartMut.{put_mid}
use Rattle.std.proofs.ByRecursion.{All-from_get_or, All-append, All-take, All-drop}
use Rattle.std.proofs.lemmas.List.{append-nil, append_assoc, take_at, drop-drop}
use Rattle.std.proofs.lemmas.Slice.{between_to_end}
use Rattle.settings.specs.declared.constellation.Constellation.{Constellation}
use Rattle.settings.specs.Constellation.{word_bits}
use Rattle.stage.specs.Blocks.{block_sending}
use Rattle.stage.specs.Model.{Model, Sending, fed}
use Rattle.stage.specs.Passing.{Gives}
use Rattle.stage.specs.Piled.{fitting}
use Rattle.stage.specs.Rule.{Sends, Under}
use Rattle.stage.proofs.Blocks.{blocks_sends, sent-more, sent_whole}
use Rattle.stage.proofs.Feeding.{fed_none, fed-fed}
use Rattle.stage.proofs.Passing.{offered-fed, gives_of, gives_fed, take_further}
use Rattle.stage.proofs.Waits.{no_rest}
use Rattle.inner_interleaver.specs.Words.{words_of}
use Rattle.inner_interleaver.specs.BitInterleaver.{same, encode}
use Rattle.inner_interleaver.specs.BitBlocks.{block-fits, words_take}
use Rattle.inner_interleaver.specs.Digits.{bits_small, length-words}

-- a side of blocks of B units in which nothing waits, and which holds some of a block of kind k
module _ {K : Type 0} (turn : K → K) (code : K → List ℕ → List ℕ) (B : ℕ) (k : K) where
  abbrev holding : List ℕ → Sending
  holding held = block_sending turn code B [] k held

  sends : (held : List ℕ) → Sends (holding held).future
  sends held = blocks_sends turn code B k held

  one_more : (held : List ℕ) (x : ℕ) (xs : List ℕ) → length held + 1 < B → fed (holding held) (x ∷ xs) ≡ fed (holding (held ++ x ∷ [])) xs
  one_more held x xs h =
      sym (fed-fed (holding held) (sends held) (x ∷ []) xs)
      ∙ ap (λ s. fed s xs) (sym (offered-fed (holding held) x refl) ∙ sent-more turn code B [] k held x h)

  fed-short : (held xs : List ℕ) → length held + length xs < B → fed (holding held) xs ≡ holding (held ++ xs)
  fed-short held [] h = fed_none (holding held) (sends held) ∙ ap holding (sym (append-nil held))
  fed-short held (x ∷ xs) h =
      one_more held x xs (omega arith)
      ∙ fed-short (held ++ x ∷ []) xs (simp length-append (omega arith))
      ∙ ap holding (append_assoc held (x ∷ []) xs)

  fed_whole : (held xs : List ℕ) → length held < B → length held + length xs ≡ B
      → fed (holding held) xs ≡ block_sending turn code B (code k (held ++ xs)) (turn k) []
  fed_whole held [] l h = absurd (omega arith)
  fed_whole held (x ∷ []) l h = sym (offered-fed (holding held) x refl) ∙ sent_whole turn code B [] k held x (omega arith)
  fed_whole held (x ∷ y ∷ ys) l h =
      one_more held x (y ∷ ys) (omega arith)
      ∙ fed_whole (held ++ x ∷ []) (y ∷ ys) (simp length-append (omega arith)) (simp length-append (omega arith))
      ∙ ap (λ b. block_sending turn code B (code k b) (turn k) []) (append_assoc held (x ∷ []) (y ∷ ys))

-- Bits xs are put behind the first `have` of a store, into a part that is lent for n.
put_behind : (bits xs rest : List ℕ) (have n r : ℕ) → have ≤ length bits → length xs ≡ r → take (have + r) (put_mid have n bits (xs ++ rest)) ≡ take have bits ++ xs
put_behind bits xs rest have n r h l =
    let others = drop n (drop have bits) in
    ap (take (have + r)) (ap (λ w. take have bits ++ w) (append_assoc xs rest others) ∙ sym (append_assoc (take have bits) xs (rest ++ others)))
    ∙ take_at (take have bits ++ xs) (rest ++ others) (have + r) (simp (length-append, length-take) (omega arith))

put_under : (bits xs : List ℕ) (have n r : ℕ) → Under 2 bits → Under 2 xs → Under 2 (put_mid have n bits (xs ++ drop r (take n (drop have bits))))
put_under bits xs have n r all u =
    let P : ℕ → Type 0 = λ x. x < 2 in
    let later : Under 2 (drop have bits) = All-drop P have bits all in
    let lent : Under 2 (take n (drop have bits)) = All-take P n (drop have bits) later in
    All-append P (take have bits) _ (All-take P have bits all)
    (All-append P (xs ++ drop r (take n (drop have bits))) _ (All-append P xs _ u (All-drop P r _ lent)) (All-drop P n (drop have bits) later))

abbrev side : Constellation → List ℕ → List ℕ → Sending
side c waits held = block_sending same (encode c) (126 * word_bits c) waits tt held

abbrev stored : List ℕ → List ℕ → ℕ → ℕ → List ℕ
stored bits room have block = put_mid have (block - have) bits room

-- The first r bits of the input were copied into the room that a block has behind the first `have` bits of the store: it is not whole yet, or whole.
pub record Stored (c : Constellation) (input bits room : List ℕ) (have at block r : ℕ) : Type 0 where
  pub room_is : length (take (block - have) (drop have bits)) ≡ block - have
  pub small : (k : ℕ) → get_or (stored bits room have block) k 0 < 2
  pub short : have + r < block
      → side c (drop at (words_of c (stored bits room have block))) (take (have + r) (stored bits room have block))
      ≡ fed (side c (drop at (words_of c bits)) (take have bits)) (take r input)
  pub whole : have + r ≡ block
      → side c (words_of c (stored bits room have block)) [] ≡ fed (side c (drop at (words_of c bits)) (take have bits)) (take r input)

pub bits-stored : (c : Constellation) (input bits room : List ℕ) (have at block r : ℕ)
    → length bits ≡ 756 → ((k : ℕ) → get_or bits k 0 < 2) → have < 126 * word_bits c → 126 ≤ at → block ≡ 126 * word_bits c
    → r ≤ length input → Under 2 (take r input) → room ≡ take r input ++ drop r (take (block - have) (drop have bits))
    → Stored c input bits room have at block r
bits-stored c input bits room have at block r many small below idle is has fits copied =
    let n = block - have in
    let xs = take r input in
    let held = take have bits in
    let bits' = stored bits room have block in
    let sized : length xs ≡ r = simp length-take (omega arith) in
    let held_is : length held ≡ have = simp length-take (omega (arith, block-fits c)) in
    let front : take (have + r) bits' ≡ held ++ xs =
    ap (λ w. take (have + r) (put_mid have n bits w)) copied ∙ put_behind bits xs _ have n r (omega (arith, block-fits c)) sized in
    let nothing : (b : List ℕ) → drop at (words_of c b) ≡ [] = λ b. no_rest (words_of c b) 126 at (length-words c b) idle in
    let before = ap (λ w. fed (side c w held) xs) (sym (nothing bits)) in
    record {
      room_is = simp (length-take, length-drop) (omega (arith, block-fits c));
      small = bits_small bits'
          (subst (λ w. Under 2 (put_mid have n bits w)) (sym copied) (put_under bits xs have n r (All-from_get_or (λ x. x < 2) bits 0 (λ i _. small i)) fits));
      short = λ h. ap₂ (side c) (nothing bits') front ∙ sym (fed-short same (encode c) (126 * word_bits c) tt held xs (omega arith)) ∙ before;
      whole = λ h.
          ap (λ w. side c w []) (words_take c bits' ∙ ap (λ n. words_of c (take n bits')) (sym is ∙ sym h) ∙ ap (words_of c) front)
          ∙ sym (fed_whole same (encode c) (126 * word_bits c) tt held xs (omega arith) (omega arith))
          ∙ before;
    }

-- A pass that was handed `used` units of the input is handed r more of the rest, which is lent as a part.
module _ (input : List ℕ) (used r : ℕ) where
  abbrev rest : List ℕ
  rest = take (length input - used) (drop used input)

  rest_is : rest ≡ drop used input
  rest_is = between_to_end input used (length input) (omega arith)

  pub used_within : used ≤ length input → r ≤ length rest → used + r ≤ length input
  used_within h k = omega (arith, ap length rest_is, length-drop used input)

  pub used_fits : (t : ℕ) → Under t (take used input) → Under t (take r rest) → Under t (take (used + r) input)
  used_fits t h k = subst (Under t) (sym (take_further input used r)) (All-append (λ x. x < t) (take used input) (take r rest) h k)

  pub gives_further : (M : Model) (s₀ : Sending) {s₁ s₂ : Sending} {out out' : List ℕ} {made : ℕ} → Sends s₀.future
      → Gives M (fed s₀ (take used input)) s₁ out out' made → s₂ ≡ fed s₁ (take r rest) → Gives M (fed s₀ (take (used + r) input)) s₂ out out' made
  gives_further M s₀ grow g side =
      gives_of M (ap (fed s₀) (take_further input used r) ∙ sym (fed-fed s₀ grow (take used input) (take r rest))) (sym side) (gives_fed M (take r rest) g)

  pub none_left : (t : ℕ) → fitting t (drop r rest) ≡ [] → fitting t (drop (used + r) input) ≡ []
  none_left t e = ap (fitting t) (sym (ap (drop r) rest_is ∙ drop-drop r used input)) ∙ e
