-- The chart tells where the words go; marks that were permuted and then told their places are the chart.
use Rattle.std.proofs.Common.{◌≡◌, ℕ, ◌<◌, ◌≤◌, Bool, true, false, cond, ◌||◌, ltb, List, ◌++◌, length, take, drop, Some, None, Ok, Option, sym, refl, ap, ◌∙◌, subst, ap₂, arith}
use Rattle.std.proofs.lemmas.List.FromFn.{fill_by_all, length-map-range_with_len, get_or-map-range_with_len}
use Rattle.std.proofs.lemmas.List.{drop_at, take_at}
use Rattle.std.proofs.lemmas.Bool.{cond-true, cond-false, le-ltb}
use Rattle.settings.specs.declared.mode.Mode.{Mode}
use Rattle.settings.specs.Mode.{symbol_cells}
use Rattle.address.specs.Address.{addresses_of}
use Rattle.address.specs.Permutation.{Permutes}
use Rattle.address.proofs.Address.{addresses_permute, words_fit}
use Rattle.permute.specs.declared.parity.Parity.{Parity}
use Rattle.permute.specs.declared.parity.Parity.TheVariants.{Even, Odd}
use Rattle.permute.specs.Parity.{opposite}
use Rattle.permute.specs.Permuted as permuting
use Rattle.permute.specs.Permuted.{word_at, permuted, short, refusal_of}
use Rattle.permute.proofs.Permuted.{address_word, word_lt, word_back, word_forth, length-permuted, permuted_at}
use Rattle.chart.specs.declared.mark.Mark.{Mark}
use Rattle.chart.specs.Chart.{mark, mark_at, unmoved, chart_of, checked, buffer_after, Goes, Charts}

-- what each mark of a chart is
module _ (m : Mode) (p : Parity) where
  length_chart : length (chart_of m p) ≡ symbol_cells m
  unfolding chart_of
  length_chart = length-map-range_with_len (λ place. mark (word_at p (addresses_of m) place) place) 0 (symbol_cells m)

  chart_at : (k : ℕ) → k < symbol_cells m → mark_at (chart_of m p) k ≡ mark (word_at p (addresses_of m) k) k
  unfolding chart_of
  chart_at k h = get_or-map-range_with_len (λ place. mark (word_at p (addresses_of m) place) place) 0 (symbol_cells m) k k (mark 0 0) h (omega arith)

before_at : (m : Mode) (p : Parity) (k : ℕ) → k < symbol_cells m → (mark_at (chart_of m p) k).before ≡ word_at p (addresses_of m) k
before_at m p k h = ap (λ a. a.before) (chart_at m p k h)

goes : (n : ℕ) (hs : List ℕ) → Permutes n hs → (p : Parity) (k : ℕ) → k < n → Goes p hs (word_at p hs k) k
goes n hs s Even k h = sym (address_word n hs s k h)
goes n hs s Odd k h = refl

pub chart_holds_lem : (m : Mode) (p : Parity) → Charts (symbol_cells m) p (addresses_of m) (chart_of m p)
chart_holds_lem m p =
    let n = symbol_cells m in
    let hs = addresses_of m in
    let s = addresses_permute m in
    let other = word_at (opposite p) hs in
    record {
      size = length_chart m p;
      marked = λ q h. (other q, (word_lt n hs s (opposite p) q h, before_at m p (other q) (word_lt n hs s (opposite p) q h) ∙ word_forth n hs s p q h));
      once = λ j k hj hk e. sym (word_back n hs s p j hj) ∙ ap other (sym (before_at m p j hj) ∙ e ∙ before_at m p k hk) ∙ word_back n hs s p k hk;
      told = λ k h. subst (λ a. Goes p hs a.before a.after) (sym (chart_at m p k h)) (goes n hs s p k h);
      rising = λ k h. ap (λ a. a.after) (chart_at m p k h);
    }

length-unmoved : (n : ℕ) → length (unmoved n) ≡ n
unfolding unmoved
length-unmoved n = length-map-range_with_len (λ q. mark q q) 0 n

unmoved_at : (n k : ℕ) → k < n → mark_at (unmoved n) k ≡ mark k k
unfolding unmoved
unmoved_at n k h = get_or-map-range_with_len (λ q. mark q q) 0 n k k (mark 0 0) h (omega arith)

-- a buffer that was permuted into, and whose first marks were then told their places
landed_is : (m : Mode) (p : Parity) (old moved front : List Mark) (t : ℕ) → t ≡ symbol_cells m
    → moved ≡ permuted p (addresses_of m) (mark 0 0) (unmoved 6048) ++ drop (symbol_cells m) old
    → length front ≡ length (take t moved)
    → ((k : ℕ) → k < length (take t moved) → mark_at front k ≡ mark (mark_at (take t moved) k).before k)
    → front ++ drop t moved ≡ chart_of m p ++ drop (symbol_cells m) old
unfolding chart_of
landed_is m p old moved front t size is same told =
    let n = symbol_cells m in
    let hs = addresses_of m in
    let s = addresses_permute m in
    let ws = unmoved 6048 in
    let ps = permuted p hs (mark 0 0) ws in
    let long : n ≤ length ws = omega (arith, length-unmoved 6048, words_fit m) in
    let lp : length ps ≡ n = length-permuted n hs s p (mark 0 0) ws in
    let first : take t moved ≡ ps = ap₂ take size is ∙ take_at ps (drop n old) n lp in
    let last : drop t moved ≡ drop n old = ap₂ drop size is ∙ drop_at ps (drop n old) n lp in
    let lf : length (take t moved) ≡ n = ap length first ∙ lp in
    ap₂ ◌++◌
    (fill_by_all (λ place. mark (word_at p hs place) place) front n (mark 0 0) (same ∙ lf) (λ k i.
    told k (omega arith)
    ∙ ap (λ a. mark a.before k)
    (ap (λ l. mark_at l k) first ∙ permuted_at n hs s p (mark 0 0) ws long k (mark 0 0) i
    ∙ unmoved_at 6048 (word_at p hs k) (omega (arith, words_fit m, word_lt n hs s p k i)))))
    last

said_no : (b : Bool) → ◌≡◌ {A = Option ℕ} None (cond b (Some 16) None) → b ≡ false
said_no true e = absurd (let z : ◌≡◌ {A = ℕ} 0 1 = cc in omega arith)
said_no false e = refl

said_yes : (b : Bool) (x : ℕ) → ◌≡◌ {A = Option ℕ} (Some x) (cond b (Some 16) None) → b ≡ true
said_yes true x e = refl
said_yes false x e = absurd (let z : ◌≡◌ {A = ℕ} 0 1 = cc in omega arith)

-- marks ws, which are the unmoved ones, were permuted by the addresses of a mode b, which is m
module _ (m b : Mode) (mode : b ≡ m) (p : Parity) (ws old moved : List Mark) (whole : ws ≡ unmoved 6048)
    (after : moved ≡ permuting.buffer_after p (addresses_of b) (mark 0 0) ws old) where
  size : length (addresses_of b) ≡ symbol_cells m
  size = ap (λ a. length (addresses_of a)) mode ∙ (addresses_permute m).size

  -- there are words enough for every symbol, so that only the buffer can be short
  short_is : short (addresses_of b) ws old ≡ ltb (length old) (symbol_cells m)
  short_is =
      ap₂ ◌||◌ (le-ltb (length ws) (length (addresses_of b)) (omega (arith, size, ap length whole, length-unmoved 6048, words_fit m))) (ap (ltb (length old)) size)

  refusal_is : refusal_of (addresses_of b) ws old ≡ checked (Ok m) (Ok p) (length old)
  refusal_is = ap (λ t. cond t (Some 16) None) short_is

  pub answered : (o : Option ℕ) → o ≡ refusal_of (addresses_of b) ws old → o ≡ checked (Ok m) (Ok p) (length old)
  answered o e = e ∙ refusal_is

  pub refused : (x : ℕ) → Some x ≡ refusal_of (addresses_of b) ws old → moved ≡ buffer_after (Ok m) (Ok p) old
  refused x e =
      let t : ltb (length old) (symbol_cells m) ≡ true = said_yes (ltb (length old) (symbol_cells m)) x (e ∙ refusal_is) in
      after ∙ cond-true (short (addresses_of b) ws old) old (permuted p (addresses_of b) (mark 0 0) ws ++ drop (length (addresses_of b)) old) (short_is ∙ t)
      ∙ sym (cond-true (ltb (length old) (symbol_cells m)) old (chart_of m p ++ drop (symbol_cells m) old) t)

  module _ (e : None ≡ refusal_of (addresses_of b) ws old) where
    long : ltb (length old) (symbol_cells m) ≡ false
    long = said_no (ltb (length old) (symbol_cells m)) (e ∙ refusal_is)

    permuted_is : moved ≡ permuted p (addresses_of m) (mark 0 0) (unmoved 6048) ++ drop (symbol_cells m) old
    permuted_is =
        after ∙ cond-false (short (addresses_of b) ws old) old (permuted p (addresses_of b) (mark 0 0) ws ++ drop (length (addresses_of b)) old) (short_is ∙ long)
        ∙ ap₂ ◌++◌ (ap₂ (λ a us. permuted p (addresses_of a) (mark 0 0) us) mode whole) (ap (λ (n : ℕ). drop n old) size)

    pub accepted : (front : List Mark) (t : ℕ) → t ≡ length (addresses_of b) → length front ≡ length (take t moved)
        → ((k : ℕ) → k < length (take t moved) → mark_at front k ≡ mark (mark_at (take t moved) k).before k)
        → front ++ drop t moved ≡ buffer_after (Ok m) (Ok p) old
    accepted front t whole same told =
        landed_is m p old moved front t (whole ∙ size) permuted_is same told
        ∙ sym (cond-false (ltb (length old) (symbol_cells m)) old (chart_of m p ++ drop (symbol_cells m) old) long)
