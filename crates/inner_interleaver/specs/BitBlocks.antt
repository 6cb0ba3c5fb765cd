-- The bit interleaver keeps the stage rule, and sends what the clause's formulas give.
use Rattle.std.specs.Prelude.{◌≡◌, ℕ, ◌+◌, ◌-◌, ◌*◌, ◌/◌, ◌%◌, ◌^◌, ◌<◌, ◌≤◌, List, [], ◌∷◌, ◌++◌, map, length, take, drop, slice_index, refl}
use Rattle.std.proofs.Common.{lit≤, inr, sym, ap, ap₂, ◌∙◌, mul_comm, arith}
use Rattle.std.proofs.lemmas.Nat.{div-add-mod', mod_below, mul-add-lt}
use Rattle.std.proofs.lemmas.List.{append-nil, get_or-take}
use Rattle.std.specs.List.{range_with_len}
use Rattle.settings.specs.declared.constellation.Constellation.{Constellation}
use Rattle.settings.specs.declared.constellation.Constellation.TheVariants.{Qpsk, Qam16, Qam64}
use Rattle.settings.specs.Constellation.{word_bits}
use Rattle.stage.specs.Blocks.{Coding, Covers, block_sending, block_receiving}
use Rattle.stage.specs.Model.{new_sending, new_receiving}
use Rattle.stage.specs.Rule.{Rule, Alphabet}
use Rattle.stage.proofs.Blocks.{blocks_rule, block-first, block-short}
use Rattle.stage.proofs.Waits.{no_rest}
use Rattle.inner_interleaver.specs.declared.words.Lane.{Lane}
use Rattle.inner_interleaver.specs.Words.{lanes_of, lane_at, brought, words_of, bits_of}
use Rattle.inner_interleaver.specs.BitInterleaver.{same, encode, decode, bits_missing, bit_interleaving}
use Rattle.inner_interleaver.specs.Published.{stream_of, offset_of, permuted, BitsPublished}
use Rattle.inner_interleaver.specs.Digits.{digit, lane-fits, width_some, bits_small, length-words, length-bits, get_d_words, words_under, bits_under, undone}

coding : (c : Constellation) → Coding (126 * word_bits c) 126 2 (2 ^ word_bits c) (encode c) (decode c)
coding c = record {
  some_in = omega (arith, width_some c);
  some_out = lit≤ tt;
  sized = λ k b l u. length-words c b;
  sends_under = λ k b l u. words_under c b u;
  hears_under = λ k ws l u. bits_under c ws;
  undone = λ k b l u. undone c b u l;
}

covers : (c : Constellation) → Covers (126 * word_bits c) 126 (bits_missing (word_bits c))
covers Qpsk m j h = omega arith
covers Qam16 m j h = omega arith
covers Qam64 m j h = omega arith

grows : (c : Constellation) (m n : ℕ) → m ≤ n → bits_missing (word_bits c) m ≤ bits_missing (word_bits c) n
grows Qpsk m n h = omega arith
grows Qam16 m n h = omega arith
grows Qam64 m n h = omega arith

pub alphabet : (c : Constellation) → Alphabet (2 ^ word_bits c)
alphabet Qpsk = inr (2, lit≤ tt, lit≤ tt, refl)
alphabet Qam16 = inr (4, lit≤ tt, lit≤ tt, refl)
alphabet Qam64 = inr (6, lit≤ tt, lit≤ tt, refl)

pub bit_rule : (c : Constellation) → Rule (bit_interleaving c)
bit_rule c = blocks_rule same (coding c) (bits_missing (word_bits c)) (covers c) tt (inr (1, lit≤ tt, lit≤ tt, refl)) (alphabet c) (grows c)

-- new sides
pub block-fits : (c : Constellation) → 126 * word_bits c ≤ 756
block-fits Qpsk = lit≤ tt
block-fits Qam16 = lit≤ tt
block-fits Qam64 = lit≤ tt

pub new_sends : (c : Constellation) (bits : List ℕ) → block_sending same (encode c) (126 * word_bits c) (drop 126 (words_of c bits)) tt [] ≡ new_sending (bit_interleaving c)
new_sends c bits = ap (λ w. block_sending same (encode c) (126 * word_bits c) w tt []) (no_rest (words_of c bits) 126 126 (length-words c bits) (lit≤ tt))

pub new_hears : (c : Constellation) (words : List ℕ) → block_receiving same (decode c) 126 (drop 756 (bits_of c words)) tt [] ≡ new_receiving (bit_interleaving c)
new_hears c words =
    ap (λ w. block_receiving same (decode c) 126 w tt []) (no_rest (bits_of c words) (126 * word_bits c) 756 (length-bits c words) (block-fits c))

-- the words of a block are those of its 126 × v bits
brought-take : (v : ℕ) (ls : List Lane) (j : ℕ) (b : List ℕ) (w : ℕ) → j + length ls ≤ v → brought v ls j b w ≡ brought v ls j (take (126 * v) b) w
brought-take v [] j b w h = refl
brought-take v (l ∷ ls) j b w h =
    let k = (w + l.offset) % 126 in
    let p : v * k + j < 126 * v = omega (arith, mul-add-lt k v j 126 (omega arith) (omega arith), mul_comm v k, mul_comm v 126) in
    ap₂ (λ x y. x * 2 ^ (v - 1 - l.stream) + y) (sym (get_or-take (126 * v) b (v * k + j) 0 p)) (brought-take v ls (j + 1) b w (omega arith))

pub lanes_many : (c : Constellation) → length (lanes_of c) ≡ word_bits c
lanes_many Qpsk = refl
lanes_many Qam16 = refl
lanes_many Qam64 = refl

pub words_take : (c : Constellation) (b : List ℕ) → words_of c b ≡ words_of c (take (126 * word_bits c) b)
unfolding words_of
words_take c b = λ i. map (λ w. brought-take (word_bits c) (lanes_of c) 0 b w (omega (arith, lanes_many c)) i) (range_with_len 0 126)

-- the clause's formulas
module _ (c : Constellation) where
  abbrev v : ℕ
  v = word_bits c

  pub one_block : (b : List ℕ) → length b ≡ 126 * v → (bit_interleaving c).sends b ≡ words_of c b
  one_block b l =
      ap (bit_interleaving c).sends (sym (append-nil b))
      ∙ block-first same (encode c) (126 * v) tt b [] (coding c).some_in l
      ∙ ap (λ w. words_of c b ++ w) (block-short same (encode c) (126 * v) tt [] (coding c).some_in)
      ∙ append-nil (words_of c b)

halves : (c : Constellation) (di : ℕ) → di % word_bits c % (word_bits c / 2) ≡ di % (word_bits c / 2)
halves Qpsk di = omega arith
halves Qam16 di = omega arith
halves Qam64 di = omega arith

-- the stream of a lane is the formula's, and so is its offset
lane_is : (c : Constellation) (di w : ℕ) → ((lane_at c (di % word_bits c)).stream ≡ stream_of (word_bits c) di)
    × ((w + (lane_at c (di % word_bits c)).offset) % 126 ≡ permuted (stream_of (word_bits c) di) w)
lane_is c di w =
    let f = lane-fits c (di % word_bits c) (mod_below di (word_bits c) (width_some c)) in
    let stream = f.1 ∙ ap (λ m. di % word_bits c / (word_bits c / 2) + 2 * m) (halves c di) in
    (stream, ap (λ o. (w + o) % 126) (f.2 ∙ ap offset_of stream))

pub bits-published : (c : Constellation) → BitsPublished c
bits-published c =
    let v = word_bits c in
    record {
      first_block = λ b xs l.
          block-first same (encode c) (126 * v) tt b xs (coding c).some_in l ∙ ap (λ w. w ++ (bit_interleaving c).sends xs) (sym (one_block c b l));
      no_block = λ xs l. block-short same (encode c) (126 * v) tt xs l;
      words = λ b l. ap length (one_block c b l) ∙ length-words c b;
      bits = λ b l u di w dl wl e.
          let j = di % v in
          let is = lane_is c di w in
          ap₂ (λ ws s. slice_index ws w / 2 ^ (v - 1 - s) % 2) (one_block c b l) (sym is.0)
          ∙ ap (λ x. x / 2 ^ (v - 1 - (lane_at c j).stream) % 2) (get_d_words c b w 0 wl)
          ∙ digit c b w j (bits_small b u) (mod_below di v (width_some c))
          ∙ ap (λ k. slice_index b (v * k + j)) (is.1 ∙ e)
          ∙ ap (λ k. slice_index b k) (omega (arith, div-add-mod' di v, mul_comm v (di / v)));
    }
