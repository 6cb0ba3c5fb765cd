-- The permuted list is the one that has each word at its place, and the other parity undoes it.
use Rattle.std.proofs.Common.{◌≡◌, ℕ, zero, suc, ◌+◌, ◌-◌, ◌<◌, ◌≤◌, false, ◌||◌, eqb, List, [], ◌∷◌, ◌++◌, length, get_or, take, drop, Some, None, sym, ap, ◌∙◌, ap₂, inl, inr, add-one, arith, length-append, length-drop, length-take}
use Rattle.std.proofs.lemmas.List.FromFn.{length-map-range_with_len, get_or-map-range_with_len}
use Rattle.std.proofs.lemmas.List.{same_lists, get_or_default, get_or_append_left, get_or-append_right, get_or-drop, get_or-take}
use Rattle.std.proofs.lemmas.Bool.{cases_lt, cases_eq, cond-true, cond-false, eq-eqb, le-ltb, ne_eqb}
use Rattle.address.specs.Permutation.{Permutes}
use Rattle.permute.specs.declared.parity.Parity.{Parity}
use Rattle.permute.specs.declared.parity.Parity.TheVariants.{Even, Odd}
use Rattle.permute.specs.Parity.{opposite}
use Rattle.permute.specs.Permuted.{Interleaved, index_of, word_at, permuted, short, refusal_of, buffer_after, PermutingHolds}

-- what a list has at a place is found there
Found : ℕ → List ℕ → Type 0
Found p hs = (get_or hs (index_of p hs) 0 ≡ p) × (index_of p hs < length hs)

found_here : (p h : ℕ) (hs : List ℕ) → p ≡ h → Found p (h ∷ hs)
unfolding Found
found_here p h hs d =
    let i : index_of p (h ∷ hs) ≡ 0 = cond-true (eqb p h) 0 (index_of p hs + 1) (eq-eqb p h d) in
    (ap (λ k. get_or (h ∷ hs) k 0) i ∙ sym d, omega (arith, i))

found_later : (p h : ℕ) (hs : List ℕ) → (p ≡ h → ⊥) → Found p hs → Found p (h ∷ hs)
unfolding Found
found_later p h hs d r =
    let i : index_of p (h ∷ hs) ≡ suc (index_of p hs) = cond-false (eqb p h) 0 (index_of p hs + 1) (ne_eqb p h d) ∙ add-one (index_of p hs) in
    (ap (λ k. get_or (h ∷ hs) k 0) i ∙ r.0, omega (arith, i, r.1))

found : (p : ℕ) (hs : List ℕ) (q : ℕ) → q < length hs → get_or hs q 0 ≡ p → Found p hs
found p [] q l e = absurd (omega arith)
found p (h ∷ hs) zero l e = found_here p h hs (sym e)
found p (h ∷ hs) (suc q) l e =
    elim (cases_eq p h) [ inl d ↦ found_here p h hs d | inr d ↦ found_later p h hs d (found p hs q (omega arith) e) ]

module _ (n : ℕ) (hs : List ℕ) (s : Permutes n hs) where
  index_found : (k : ℕ) → k < n → Found k hs
  index_found k h =
      let w = s.reached k h in
      found k hs w.0 (omega (arith, s.size)) w.1.1

  pub address_word : (k : ℕ) → k < n → get_or hs (index_of k hs) 0 ≡ k
  unfolding Found
  address_word k h = (index_found k h).0

  pub word_lt : (p : Parity) (k : ℕ) → k < n → word_at p hs k < n
  unfolding Found
  word_lt Even k h = omega (arith, s.size, (index_found k h).1)
  word_lt Odd k h = s.within k h

  word_address : (q : ℕ) → q < n → index_of (get_or hs q 0) hs ≡ q
  word_address q h =
      let k = get_or hs q 0 in
      let i : k < n = s.within q h in
      s.apart (index_of k hs) q (word_lt Even k i) h (address_word k i)

  -- the word that one parity brings to a place comes back by the other
  pub word_back : (p : Parity) (k : ℕ) → k < n → word_at (opposite p) hs (word_at p hs k) ≡ k
  word_back Even k h = address_word k h
  word_back Odd k h = word_address k h

  pub word_forth : (p : Parity) (k : ℕ) → k < n → word_at p hs (word_at (opposite p) hs k) ≡ k
  word_forth Even k h = word_address k h
  word_forth Odd k h = address_word k h

  module _ {X : Type 0} where
    pub length-permuted : (p : Parity) (d : X) (xs : List X) → length (permuted p hs d xs) ≡ n
    unfolding permuted
    length-permuted p d xs = length-map-range_with_len (λ k. get_or xs (word_at p hs k) d) 0 (length hs) ∙ s.size

    pub permuted_at : (p : Parity) (d : X) (xs : List X) → n ≤ length xs → (k : ℕ) (e : X) → k < n → get_or (permuted p hs d xs) k e ≡ get_or xs (word_at p hs k) e
    unfolding permuted
    permuted_at p d xs l k e h =
        get_or-map-range_with_len (λ k. get_or xs (word_at p hs k) d) 0 (length hs) k k e (omega (arith, s.size)) (omega arith)
        ∙ get_or_default xs (word_at p hs k) d e (omega (arith, word_lt p k h))

    placed : (p : Parity) (d : X) (xs : List X) → n ≤ length xs → Interleaved p hs xs (permuted p hs d xs)
    placed Even d xs l = λ q e h.
        let i : q < n = omega (arith, s.size) in
        permuted_at Even d xs l (get_or hs q 0) e (s.within q i) ∙ ap (λ k. get_or xs k e) (word_address q i)
    placed Odd d xs l = λ q e h. sym (permuted_at Odd d xs l q e (omega (arith, s.size)))

    undone : (p : Parity) (d : X) (xs : List X) → n ≤ length xs → permuted (opposite p) hs d (permuted p hs d xs) ≡ take n xs
    undone p d xs l =
        let ys = permuted p hs d xs in
        let ly : length ys ≡ n = length-permuted p d xs in
        same_lists (permuted (opposite p) hs d ys) (take n xs) (omega (arith, length-permuted (opposite p) d ys, length-take n xs)) (λ k e h.
        let i : k < n = omega (arith, length-permuted (opposite p) d ys) in
        permuted_at (opposite p) d ys (omega arith) k e i
        ∙ permuted_at p d xs l (word_at (opposite p) hs k) e (word_lt (opposite p) k i)
        ∙ ap (λ j. get_or xs j e) (word_forth p k i)
        ∙ sym (get_or-take n xs k e i))

    -- what stands at a place of a list that was permuted
    arrived : (p : Parity) (xs ys : List X) → Interleaved p hs xs ys → (k : ℕ) (e : X) → k < n → get_or ys k e ≡ get_or xs (word_at p hs k) e
    arrived Even xs ys m k e h =
        ap (λ j. get_or ys j e) (sym (address_word k h)) ∙ m (index_of k hs) e (omega (arith, s.size, word_lt Even k h))
    arrived Odd xs ys m k e h = sym (m k e (omega (arith, s.size)))

    -- a buffer with the words at their places, and all else as it was
    buffer_is : (p : Parity) (d : X) (xs old ys : List X) → n ≤ length xs → n ≤ length old → length ys ≡ length old
        → Interleaved p hs xs ys → ((k : ℕ) (e : X) → n ≤ k → get_or ys k e ≡ get_or old k e)
        → ys ≡ permuted p hs d xs ++ drop n old
    buffer_is p d xs old ys l room same m rest =
        let front = permuted p hs d xs in
        let lf : length front ≡ n = length-permuted p d xs in
        same_lists ys (front ++ drop n old) (simp (length-append, length-drop) (omega arith)) (λ k e h.
        elim (cases_lt k n) [
          | inl i ↦ arrived p xs ys m k e i ∙ sym (permuted_at p d xs l k e i) ∙ sym (get_or_append_left front (drop n old) e k (omega arith))
          | inr i ↦
              let j : n + (k - n) ≡ k = omega arith in
              rest k e i ∙ sym (get_or-append_right front (drop n old) n k e lf i ∙ get_or-drop n old (k - n) e ∙ ap (λ (x : ℕ). get_or old x e) j)
        ])

-- what a call answers and leaves that wasn't refused, by a table that is hs
module _ {X : Type 0} (table hs : List ℕ) (is : table ≡ hs) (xs old : List X) (from : length table ≤ length xs) (to : length table ≤ length old) where
  roomy : short table xs old ≡ false
  roomy = ap₂ ◌||◌ (le-ltb (length xs) (length table) from) (le-ltb (length old) (length table) to)

  pub answer : None ≡ refusal_of hs xs old
  answer = sym (cond-false (short table xs old) (Some 16) None roomy) ∙ ap (λ ts. refusal_of ts xs old) is

  pub buffer : (p q : Parity) (d : X) (ys : List X) → Permutes (length table) table → p ≡ q → length ys ≡ length old → Interleaved q table xs ys
      → ((k : ℕ) (e : X) → length table ≤ k → get_or ys k e ≡ get_or old k e) → ys ≡ buffer_after p hs d xs old
  buffer p q d ys s e same moved rest =
      buffer_is (length table) table s q d xs old ys from to same moved rest
      ∙ sym (cond-false (short table xs old) old (permuted q table d xs ++ drop (length table) old) roomy)
      ∙ ap₂ (λ r ts. buffer_after r ts d xs old) (sym e) is

pub permuting_holds_lem : (X : Type 0) → PermutingHolds X
permuting_holds_lem X n hs p d xs s l = record { size = length-permuted n hs s p d xs; placed = placed n hs s p d xs l; undone = undone n hs s p d xs l }
