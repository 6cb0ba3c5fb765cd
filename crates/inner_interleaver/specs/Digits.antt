-- A word has the bits that its lanes bring, and a block's words have its bits back.
use Rattle.std.specs.Prelude.{◌≡◌, ℕ, zero, suc, ◌+◌, ◌-◌, ◌*◌, ◌/◌, ◌%◌, ◌^◌, ◌<◌, ◌≤◌, List, length, get_or, drop, slice_index, slice_index_or, refl}
use Rattle.std.proofs.Common.{lit≤, inl, inr, sym, ap, ap₂, ◌∙◌, mul_comm}
use native.Mathlib.Omega.{arith}
use Rattle.std.proofs.lemmas.Nat.{div-add-mod', div_below, mod_below}
use Rattle.std.proofs.lemmas.List.FromFn.{length-map-range_with_len, get_or-map-range_with_len}
use Rattle.std.proofs.ByRecursion.{All-get_or, All-from_get_or}
use Rattle.std.proofs.lemmas.List.{at_drop_more, get_or_past, same_lists, get_or_default}
use Rattle.std.proofs.lemmas.Bool.{cases_lt}
use Rattle.stage.specs.Rule.{Under}
use Rattle.settings.specs.declared.constellation.Constellation.{Constellation}
use Rattle.settings.specs.declared.constellation.Constellation.TheVariants.{Qpsk, Qam16, Qam64}
use Rattle.settings.specs.Constellation.{word_bits}
use Rattle.inner_interleaver.specs.declared.words.Lane.{Lane}
use Rattle.inner_interleaver.specs.Published.{offset_of}
use Rattle.inner_interleaver.specs.Words.{lane, lanes_of, lane_at, brought, word_at, words_of, bit_at, bits_of}

-- one lane more
pub brought-more : (v : ℕ) (ls : List Lane) (i : ℕ) (b : List ℕ) (w : ℕ) → i < length ls
    → brought v (drop i ls) i b w
    ≡ slice_index b (v * ((w + (get_or ls i (lane 0 0)).offset) % 126) + i) * 2 ^ (v - 1 - (get_or ls i (lane 0 0)).stream) + brought v (drop (i + 1) ls) (i + 1) b w
brought-more v ls i b w h = at_drop_more (λ ds. brought v ds i b w) ls i (lane 0 0) h

-- words of v bits
small2 : {a b : ℕ} → a < 2 → b < 2 → a * 2 + (b * 1 + 0) < 4
small2 p q = omega arith

small4 : {a b c d : ℕ} → a < 2 → b < 2 → c < 2 → d < 2 → a * 8 + (b * 2 + (c * 4 + (d * 1 + 0))) < 16
small4 p q r s = omega arith

small6 : {a b c d e f : ℕ} → a < 2 → b < 2 → c < 2 → d < 2 → e < 2 → f < 2
    → a * 32 + (b * 8 + (c * 2 + (d * 16 + (e * 4 + (f * 1 + 0))))) < 64
small6 p q r s t u = omega arith

pub word_small : (c : Constellation) (b : List ℕ) (w : ℕ) → ((k : ℕ) → slice_index b k < 2) → word_at c b w < 2 ^ word_bits c
word_small Qpsk b w h = small2 (h _) (h _)
word_small Qam16 b w h = small4 (h _) (h _) (h _) (h _)
word_small Qam64 b w h = small6 (h _) (h _) (h _) (h _) (h _) (h _)

-- a word has the bits that its lanes bring
digit2 : (a b : ℕ) → a < 2 → b < 2 → ((a * 2 + (b * 1 + 0)) / 2 % 2 ≡ a) × ((a * 2 + (b * 1 + 0)) / 1 % 2 ≡ b)
digit2 a b p q = (omega arith, omega arith)

module _ (a b c d : ℕ) (p : a < 2) (q : b < 2) (r : c < 2) (s : d < 2) where
  digit4 : ℕ → ℕ
  digit4 n = (a * 8 + (b * 2 + (c * 4 + (d * 1 + 0)))) / n % 2

  digits4 : (digit4 8 ≡ a) × (digit4 2 ≡ b) × (digit4 4 ≡ c) × (digit4 1 ≡ d)
  unfolding digit4
  digits4 = (omega arith, omega arith, omega arith, omega arith)

module _ (a b c d e f : ℕ) (p : a < 2) (q : b < 2) (r : c < 2) (s : d < 2) (t : e < 2) (u : f < 2) where
  digit6 : ℕ → ℕ
  digit6 n = (a * 32 + (b * 8 + (c * 2 + (d * 16 + (e * 4 + (f * 1 + 0)))))) / n % 2

  digits6 : (digit6 32 ≡ a) × (digit6 8 ≡ b) × (digit6 2 ≡ c) × (digit6 16 ≡ d) × (digit6 4 ≡ e) × (digit6 1 ≡ f)
  unfolding digit6
  digits6 = (omega arith, omega arith, omega arith, omega arith, omega arith, omega arith)

-- bit j of each v bits, in word w
abbrev pub Digit : Constellation → List ℕ → ℕ → ℕ → Type 0
Digit c b w j =
    (word_at c b w / 2 ^ (word_bits c - 1 - (lane_at c j).stream)) % 2 ≡ slice_index b (word_bits c * ((w + (lane_at c j).offset) % 126) + j)

pub digit : (c : Constellation) (b : List ℕ) (w j : ℕ) → ((k : ℕ) → slice_index b k < 2) → j < word_bits c → Digit c b w j
unfolding digit4 digit6
digit Qpsk b w zero h l = (digit2 _ _ (h _) (h _)).0
digit Qpsk b w (suc zero) h l = (digit2 _ _ (h _) (h _)).1
digit Qpsk b w (suc (suc j)) h l = absurd (omega arith)
digit Qam16 b w zero h l = (digits4 _ _ _ _ (h _) (h _) (h _) (h _)).0
digit Qam16 b w (suc zero) h l = (digits4 _ _ _ _ (h _) (h _) (h _) (h _)).1
digit Qam16 b w (suc (suc zero)) h l = (digits4 _ _ _ _ (h _) (h _) (h _) (h _)).2
digit Qam16 b w (suc (suc (suc zero))) h l = (digits4 _ _ _ _ (h _) (h _) (h _) (h _)).3
digit Qam16 b w (suc (suc (suc (suc j)))) h l = absurd (omega arith)
digit Qam64 b w zero h l = (digits6 _ _ _ _ _ _ (h _) (h _) (h _) (h _) (h _) (h _)).0
digit Qam64 b w (suc zero) h l = (digits6 _ _ _ _ _ _ (h _) (h _) (h _) (h _) (h _) (h _)).1
digit Qam64 b w (suc (suc zero)) h l = (digits6 _ _ _ _ _ _ (h _) (h _) (h _) (h _) (h _) (h _)).2
digit Qam64 b w (suc (suc (suc zero))) h l = (digits6 _ _ _ _ _ _ (h _) (h _) (h _) (h _) (h _) (h _)).3
digit Qam64 b w (suc (suc (suc (suc zero)))) h l = (digits6 _ _ _ _ _ _ (h _) (h _) (h _) (h _) (h _) (h _)).4
digit Qam64 b w (suc (suc (suc (suc (suc zero))))) h l = (digits6 _ _ _ _ _ _ (h _) (h _) (h _) (h _) (h _) (h _)).5
digit Qam64 b w (suc (suc (suc (suc (suc (suc j)))))) h l = absurd (omega arith)

power_small : (c : Constellation) → 2 ^ word_bits c ≤ 64
power_small Qpsk = lit≤ tt
power_small Qam16 = lit≤ tt
power_small Qam64 = lit≤ tt

pub brought_small : (c : Constellation) (v : ℕ) (ls : List Lane) (b : List ℕ) (w : ℕ) → v ≡ word_bits c → ls ≡ lanes_of c → ((k : ℕ) → slice_index b k < 2)
    → brought v ls 0 b w < 64
brought_small c v ls b w p q h = omega (arith, ap₂ (λ v ls. brought v ls 0 b w) p q, word_small c b w h, power_small c)

pub width_some : (c : Constellation) → 0 < word_bits c
width_some Qpsk = lit≤ tt
width_some Qam16 = lit≤ tt
width_some Qam64 = lit≤ tt

-- the lane at a place of the v bits, in the words of the clause
abbrev pub LaneFits : Constellation → ℕ → Type 0
LaneFits c j =
    ((lane_at c j).offset < 126)
    × ((lane_at c j).stream ≡ j / (word_bits c / 2) + 2 * (j % (word_bits c / 2)))
    × ((lane_at c j).offset ≡ offset_of (lane_at c j).stream)

pub lane-fits : (c : Constellation) (j : ℕ) → j < word_bits c → LaneFits c j
lane-fits Qpsk zero l = (lit≤ tt, refl, refl)
lane-fits Qpsk (suc zero) l = (lit≤ tt, refl, refl)
lane-fits Qpsk (suc (suc j)) l = absurd (omega arith)
lane-fits Qam16 zero l = (lit≤ tt, refl, refl)
lane-fits Qam16 (suc zero) l = (lit≤ tt, refl, refl)
lane-fits Qam16 (suc (suc zero)) l = (lit≤ tt, refl, refl)
lane-fits Qam16 (suc (suc (suc zero))) l = (lit≤ tt, refl, refl)
lane-fits Qam16 (suc (suc (suc (suc j)))) l = absurd (omega arith)
lane-fits Qam64 zero l = (lit≤ tt, refl, refl)
lane-fits Qam64 (suc zero) l = (lit≤ tt, refl, refl)
lane-fits Qam64 (suc (suc zero)) l = (lit≤ tt, refl, refl)
lane-fits Qam64 (suc (suc (suc zero))) l = (lit≤ tt, refl, refl)
lane-fits Qam64 (suc (suc (suc (suc zero)))) l = (lit≤ tt, refl, refl)
lane-fits Qam64 (suc (suc (suc (suc (suc zero))))) l = (lit≤ tt, refl, refl)
lane-fits Qam64 (suc (suc (suc (suc (suc (suc j)))))) l = absurd (omega arith)

pub length-words : (c : Constellation) (b : List ℕ) → length (words_of c b) ≡ 126
unfolding words_of
length-words c b = length-map-range_with_len (word_at c b) 0 126

pub length-bits : (c : Constellation) (ws : List ℕ) → length (bits_of c ws) ≡ 126 * word_bits c
unfolding bits_of
length-bits c ws = length-map-range_with_len (bit_at c ws) 0 (126 * word_bits c)

pub get_d_words : (c : Constellation) (b : List ℕ) (w d : ℕ) → w < 126 → slice_index_or (words_of c b) w d ≡ word_at c b w
unfolding words_of
get_d_words c b w d h = get_or-map-range_with_len (word_at c b) 0 126 w w d h (omega arith)

pub get_d_bits : (c : Constellation) (ws : List ℕ) (p d : ℕ) → p < 126 * word_bits c → slice_index_or (bits_of c ws) p d ≡ bit_at c ws p
unfolding bits_of
get_d_bits c ws p d h = get_or-map-range_with_len (bit_at c ws) 0 (126 * word_bits c) p p d h (omega arith)

-- a list of bits, by places
pub bits_small : (b : List ℕ) → Under 2 b → (k : ℕ) → slice_index b k < 2
bits_small b u k =
    elim (cases_lt k (length b)) [
      | inl h ↦ All-get_or (λ x. x < 2) b k 0 h u
      | inr h ↦ omega (arith, get_or_past b k 0 h)
    ]

-- going back by the offset
turned : (i o : ℕ) → i < 126 → o < 126 → (((i + 126 - o) % 126) + o) % 126 ≡ i
turned i o h k = omega arith

module _ (c : Constellation) (b : List ℕ) (u : Under 2 b) where
  back_at : (p : ℕ) → p < 126 * word_bits c → bit_at c (words_of c b) p ≡ slice_index b p
  back_at p h =
      let v = word_bits c in
      let i = p / v in
      let j = p % v in
      let o = (lane_at c j).offset in
      let w = (i + 126 - o) % 126 in
      let jl : j < v = mod_below p v (width_some c) in
      let il : i < 126 = div_below p v 126 (width_some c) h in
      let wl : w < 126 = omega arith in
      ap (λ x. x / 2 ^ (v - 1 - (lane_at c j).stream) % 2) (get_d_words c b w 0 wl)
      ∙ digit c b w j (bits_small b u) jl
      ∙ ap (λ k. slice_index b (v * k + j)) (turned i o il (lane-fits c j jl).0)
      ∙ ap (λ k. slice_index b k) (omega (arith, div-add-mod' p v, mul_comm v i))

  pub undone : length b ≡ 126 * word_bits c → bits_of c (words_of c b) ≡ b
  undone l =
      same_lists (bits_of c (words_of c b)) b (length-bits c (words_of c b) ∙ sym l)
      (λ k d h.
      let p : k < 126 * word_bits c = omega (arith, length-bits c (words_of c b)) in
      get_d_bits c (words_of c b) k d p ∙ back_at k p ∙ get_or_default b k 0 d (omega arith))

pub words_under : (c : Constellation) (b : List ℕ) → Under 2 b → Under (2 ^ word_bits c) (words_of c b)
words_under c b u =
    All-from_get_or (λ x. x < 2 ^ word_bits c) (words_of c b) 0
    (λ i h. omega (arith, get_d_words c b i 0 (omega (arith, length-words c b)), word_small c b i (bits_small b u)))

pub bits_under : (c : Constellation) (ws : List ℕ) → Under 2 (bits_of c ws)
bits_under c ws =
    All-from_get_or (λ x. x < 2) (bits_of c ws) 0
    (λ i h. let e = get_d_bits c ws i 0 (omega (arith, length-bits c ws)) in omega (arith, e))
