-- Stages that work on blocks keep the rule, and what an offer does to their sides.
use Rattle.std.proofs.Common.{◌≡◌, ℕ, zero, suc, ◌+◌, ◌-◌, ◌*◌, ◌/◌, ◌%◌, ◌<◌, ◌≤◌, Bool, true, false, cond, leb, List, [], ◌∷◌, ◌++◌, length, take, drop, sym, refl, ap, ◌∙◌, subst, inl, inr, append_assoc, mul_comm, mul-zero, mul-suc, arith, lit≤, length-append, length-drop, take-append-drop, length-take}
use lib.Seq.{take-append-add}
use Rattle.std.proofs.lemmas.Nat.{div-add-mod', mod_below}
use Rattle.std.proofs.ByRecursion.{All-append, All-push, All-take, All-drop}
use Rattle.std.proofs.lemmas.List.{append-nil, drop_at}
use Rattle.std.proofs.lemmas.Bool.{cases_lt, cond-true, cond-false, le-leb, lt-leb}
use Rattle.stage.specs.Model.{clean, after, offered, heard, heard_of}
use Rattle.stage.specs.Rule.{Rule, Alphabet, Sends, Hears, Under, Begins, Back, Numbered}
use Rattle.stage.specs.Blocks.{blocks, Coding, Covers, blockwise, block_sending, block_receiving}
use Rattle.stage.specs.Faultless.{clean_hears, no_fault, heard_of_offered}
use Rattle.holds.proofs.Capped.{capped_stops, capped-most, capped_grows, capped_claims}

module _ {K : Type 0} (turn : K → K) (code : K → List ℕ → List ℕ) (B : ℕ) where
  grows_if : (b : Bool) (p q r s : List ℕ) → Begins p r → Begins q s → Begins (cond b p q) (cond b r s)
  grows_if true p q r s h k = h
  grows_if false p q r s h k = k

  after_front : (p q r : List ℕ) → Begins q r → Begins (p ++ q) (p ++ r)
  after_front p q r h = (h.0, ap (λ w. p ++ w) h.1 ∙ sym (append_assoc p q h.0))

  grows : (k : K) (held xs ys : List ℕ) → Begins (blocks turn code B k held xs) (blocks turn code B k held (xs ++ ys))
  unfolding blocks
  grows k held [] ys = (blocks turn code B k held ys, refl)
  grows k held (x ∷ xs) ys =
      grows_if (leb B (length held + 1)) _ _ _ _
      (after_front (code k (held ++ x ∷ [])) _ _ (grows (turn k) [] xs ys))
      (grows k (held ++ x ∷ []) xs ys)

  -- the futures are regular, whatever the side holds
  pub blocks_sends : (k : K) (held : List ℕ) → Sends (blocks turn code B k held)
  unfolding blocks
  blocks_sends k held = record { none = refl; grows = grows k held }

  pub blocks_hears : (k : K) (held : List ℕ) → Hears (λ ys. clean (blocks turn code B k held ys))
  blocks_hears k held = clean_hears (blocks_sends k held)

  -- one unit more, and the block is not whole, or whole
  more : (k : K) (held : List ℕ) (x : ℕ) (xs : List ℕ) → length held + 1 < B
      → blocks turn code B k held (x ∷ xs) ≡ blocks turn code B k (held ++ x ∷ []) xs
  unfolding blocks
  more k held x xs h = cond-false _ _ _ (lt-leb B (length held + 1) h)

  whole : (k : K) (held : List ℕ) (x : ℕ) (xs : List ℕ) → B ≤ length held + 1
      → blocks turn code B k held (x ∷ xs) ≡ code k (held ++ x ∷ []) ++ blocks turn code B (turn k) [] xs
  unfolding blocks
  whole k held x xs h = cond-true _ _ _ (le-leb B (length held + 1) h)

  none : (k : K) (held : List ℕ) → blocks turn code B k held [] ≡ []
  unfolding blocks
  none k held = refl

  -- a list that makes the block whole comes first
  first_block : (k : K) (held : List ℕ) (b : ℕ) (bs xs : List ℕ) → length held + length (b ∷ bs) ≡ B
      → blocks turn code B k held ((b ∷ bs) ++ xs) ≡ code k (held ++ b ∷ bs) ++ blocks turn code B (turn k) [] xs
  first_block k held b [] xs h = whole k held b xs (omega arith)
  first_block k held b (c ∷ bs) xs h =
      more k held b ((c ∷ bs) ++ xs) (omega arith)
      ∙ first_block k (held ++ b ∷ []) c bs xs (simp length-append (omega arith))
      ∙ ap (λ w. code k w ++ blocks turn code B (turn k) [] xs) (append_assoc held (b ∷ []) (c ∷ bs))

  pub block-first : (k : K) (b xs : List ℕ) → 1 ≤ B → length b ≡ B → blocks turn code B k [] (b ++ xs) ≡ code k b ++ blocks turn code B (turn k) [] xs
  block-first k [] xs h l = absurd (omega arith)
  block-first k (b ∷ bs) xs h l = first_block k [] b bs xs (omega arith)

  short : (k : K) (held xs : List ℕ) → length held + length xs < B → blocks turn code B k held xs ≡ []
  short k held [] h = none k held
  short k held (x ∷ xs) h = more k held x xs (omega arith) ∙ short k (held ++ x ∷ []) xs (simp length-append (omega arith))

  pub block-short : (k : K) (xs : List ℕ) → length xs < B → blocks turn code B k [] xs ≡ []
  block-short k xs h = short k [] xs (omega arith)

  -- what is given is below n where the code of a block is
  blocks_under : (t n : ℕ) → ((k : K) (b : List ℕ) → length b ≡ B → Under t b → Under n (code k b))
      → (k : K) (held xs : List ℕ) → length held < B → Under t held → Under t xs → Under n (blocks turn code B k held xs)
  blocks_under t n u k held [] l h a = subst (Under n) (sym (none k held)) tt
  blocks_under t n u k held (x ∷ xs) l h a =
      elim (cases_lt (length held + 1) B) [
        | inl s ↦
            subst (Under n) (sym (more k held x xs s))
            (blocks_under t n u k (held ++ x ∷ []) xs (simp length-append s) (All-push (λ y. y < t) held x h a.0) a.1)
        | inr s ↦
            let z : length (held ++ x ∷ []) ≡ B = simp length-append (omega arith) in
            subst (Under n) (sym (whole k held x xs s))
            (All-append (λ y. y < n) (code k (held ++ x ∷ [])) _
            (u k (held ++ x ∷ []) z (All-push (λ y. y < t) held x h a.0))
            (blocks_under t n u (turn k) [] xs (omega arith) tt a.1))
      ]

  -- What an offer does where nothing waits: the block is not whole yet, or whole.
  after_more : (k : K) (held : List ℕ) (u : ℕ) (ys : List ℕ) → length held + 1 < B
      → after (blocks turn code B k held) (u ∷ []) ys ≡ blocks turn code B k (held ++ u ∷ []) ys
  after_more k held u ys h =
      ap (λ w. drop (length w) (blocks turn code B k held (u ∷ ys))) (more k held u [] h ∙ none k (held ++ u ∷ []))
      ∙ more k held u ys h

  gives_whole : (k : K) (held : List ℕ) (u : ℕ) → B ≤ length held + 1 → blocks turn code B k held (u ∷ []) ≡ code k (held ++ u ∷ [])
  gives_whole k held u h =
      whole k held u [] h ∙ ap (λ w. code k (held ++ u ∷ []) ++ w) (none (turn k) []) ∙ append-nil (code k (held ++ u ∷ []))

  after_whole : (k : K) (held : List ℕ) (u : ℕ) (ys : List ℕ) → B ≤ length held + 1
      → after (blocks turn code B k held) (u ∷ []) ys ≡ blocks turn code B (turn k) [] ys
  after_whole k held u ys h =
      ap (λ w. drop (length (blocks turn code B k held (u ∷ []))) w) (whole k held u ys h)
      ∙ drop_at (code k (held ++ u ∷ [])) (blocks turn code B (turn k) [] ys) _ (sym (ap length (gives_whole k held u h)))

  module _ (waits : List ℕ) (k : K) (held : List ℕ) (u : ℕ) where
    pub sent-more : length held + 1 < B → offered true false (block_sending turn code B waits k held) u ≡ block_sending turn code B [] k (held ++ u ∷ [])
    sent-more h =
        let w = more k held u [] h ∙ none k (held ++ u ∷ []) in
        λ i. record { waits = w i; future = λ ys. after_more k held u ys h i }

    pub sent_whole : B ≤ length held + 1
        → offered true false (block_sending turn code B waits k held) u ≡ block_sending turn code B (code k (held ++ u ∷ [])) (turn k) []
    sent_whole h = let w = gives_whole k held u h in λ i. record { waits = w i; future = λ ys. after_whole k held u ys h i }

    pub heard-more : length held + 1 < B → heard true false (block_receiving turn code B waits k held) u ≡ block_receiving turn code B [] k (held ++ u ∷ [])
    heard-more h = heard_of_offered true false (block_sending turn code B waits k held) u ∙ ap heard_of (sent-more h)

    pub heard_whole : B ≤ length held + 1
        → heard true false (block_receiving turn code B waits k held) u ≡ block_receiving turn code B (code k (held ++ u ∷ [])) (turn k) []
    heard_whole h = heard_of_offered true false (block_sending turn code B waits k held) u ∙ ap heard_of (sent_whole h)

-- All but the last m units that were sent are heard: a beginning is back, and j blocks and less than one more are not.
record Lost (B C : ℕ) (xs us : List ℕ) (m : ℕ) : Type 0 where
  begins : Begins us xs
  j : ℕ
  reached : C * j < m + C
  left : length xs ≤ length us + (B * j + (B - 1))

module _ {K : Type 0} (turn : K → K) {B C t g : ℕ} {encode decode : K → List ℕ → List ℕ} (c : Coding B C t g encode decode) where
  -- the first block and the others
  split : (k : K) (xs : List ℕ) → B ≤ length xs → blocks turn encode B k [] xs ≡ encode k (take B xs) ++ blocks turn encode B (turn k) [] (drop B xs)
  split k xs h =
      ap (blocks turn encode B k []) (sym (take-append-drop B xs))
      ∙ block-first turn encode B k (take B xs) (drop B xs) c.some_in (simp length-take (omega arith))

  first_size : (k : K) (xs : List ℕ) → Under t xs → B ≤ length xs → length (encode k (take B xs)) ≡ C
  first_size k xs u h = c.sized k (take B xs) (simp length-take (omega arith)) (All-take (λ x. x < t) B xs u)

  -- q whole blocks are sent
  size : (q : ℕ) (k : K) (xs : List ℕ) → Under t xs → B * q ≤ length xs → length xs < B * q + B → length (blocks turn encode B k [] xs) ≡ C * q
  size zero k xs u a b = ap length (block-short turn encode B k xs (omega arith)) ∙ sym (mul-zero C)
  size (suc q) k xs u a b =
      let z = mul-suc B q in
      let h : B ≤ length xs = omega arith in
      ap length (split k xs h)
      ∙ length-append (encode k (take B xs)) (blocks turn encode B (turn k) [] (drop B xs))
      ∙ omega (
        arith,
        first_size k xs u h,
        mul-suc C q,
        size q (turn k) (drop B xs) (All-drop (λ x. x < t) B xs u) (simp length-drop (omega arith)) (simp length-drop (omega arith)),
      )

  -- Of q whole blocks n units are heard: less than a block, or the first block and more.
  lost_all : (q : ℕ) (k : K) (xs ys : List ℕ) (n m : ℕ) → length xs < B * q + B → n + m ≡ C * q → n < C → Lost B C xs (blocks turn decode C k [] (take n ys)) m
  lost_all q k xs ys n m b e h =
      let none : blocks turn decode C k [] (take n ys) ≡ [] = block-short turn decode C k (take n ys) (simp length-take (omega arith)) in
      subst (λ us. Lost B C xs us m) (sym none) (record { begins = (xs, refl); j = q; reached = omega arith; left = omega arith })

  lost_later : (k : K) (xs : List ℕ) (n m : ℕ) → Under t xs → B ≤ length xs → C ≤ n
      → Lost B C (drop B xs) (blocks turn decode C (turn k) [] (take (n - C) (blocks turn encode B (turn k) [] (drop B xs)))) m
      → Lost B C xs (blocks turn decode C k [] (take n (blocks turn encode B k [] xs))) m
  lost_later k xs n m u h l r =
      let b = take B xs in
      let e = encode k b in
      let rest = blocks turn encode B (turn k) [] (drop B xs) in
      let us = blocks turn decode C (turn k) [] (take (n - C) rest) in
      let z : length b ≡ B = simp length-take (omega arith) in
      let below : Under t b = All-take (λ x. x < t) B xs u in
      let sized : length e ≡ C = first_size k xs u h in
      let heard : take n (blocks turn encode B k [] xs) ≡ e ++ take (n - C) rest =
      ap (take n) (split k xs h)
      ∙ ap (λ i. take i (e ++ rest)) (omega (arith, sized))
      ∙ take-append-add e rest (n - C) in
      let back : blocks turn decode C k [] (take n (blocks turn encode B k [] xs)) ≡ b ++ us =
      ap (blocks turn decode C k []) heard
      ∙ block-first turn decode C k e (take (n - C) rest) c.some_out sized
      ∙ ap (λ w. w ++ us) (c.undone k b z below) in
      let whole : xs ≡ (b ++ us) ++ r.begins.0 =
      sym (take-append-drop B xs) ∙ ap (λ w. b ++ w) r.begins.1 ∙ sym (append_assoc b us r.begins.0) in
      subst (λ us. Lost B C xs us m) (sym back) (record {
        begins = (r.begins.0, whole);
        j = r.j;
        reached = r.reached;
        left = simp length-append (omega (arith, r.left, length-drop B xs));
      })

  lost : (q : ℕ) (k : K) (xs : List ℕ) (n m : ℕ) → Under t xs → B * q ≤ length xs → length xs < B * q + B → n + m ≡ C * q
      → Lost B C xs (blocks turn decode C k [] (take n (blocks turn encode B k [] xs))) m
  lost zero k xs n m u a b e = lost_all zero k xs (blocks turn encode B k [] xs) n m b e (omega (arith, c.some_out))
  lost (suc q) k xs n m u a b e =
      elim (cases_lt n C) [
        | inl h ↦ lost_all (suc q) k xs (blocks turn encode B k [] xs) n m b e h
        | inr h ↦
            let z = mul-suc B q in
            let w = mul-suc C q in
            lost_later k xs n m u (omega arith) h
            (lost q (turn k) (drop B xs) (n - C) m (All-drop (λ x. x < t) B xs u) (simp length-drop (omega arith)) (simp length-drop (omega arith)) (omega arith))
      ]

  module _ (formula : ℕ → ℕ) (covers : Covers B C formula) (k : K) where
    back : (xs : List ℕ) (m : ℕ) → Under t xs → m ≤ length (blocks turn encode B k [] xs)
        → Back (blockwise B C t g formula turn k encode decode) xs m
        (clean (blocks turn decode C k [] (take (length (blocks turn encode B k [] xs) - m) (blocks turn encode B k [] xs))))
    back xs m u h =
        let q = length xs / B in
        let d : q * B + length xs % B ≡ length xs = div-add-mod' (length xs) B in
        let r : length xs % B < B = mod_below (length xs) B c.some_in in
        let w : B * q ≡ q * B = mul_comm B q in
        let s = size q k xs u (omega arith) (omega arith) in
        let l = lost q k xs (length (blocks turn encode B k [] xs) - m) m u (omega arith) (omega arith) (omega arith) in
        record {
          clean = refl;
          begins = l.begins;
          within = λ below. omega (arith, l.left, covers m l.j l.reached, capped_claims formula m below);
        }

    -- a stage of blocks keeps the rule
    pub blocks_rule : Alphabet t → Alphabet g → ((m n : ℕ) → m ≤ n → formula m ≤ formula n) → Rule (blockwise B C t g formula turn k encode decode)
    blocks_rule p q grows = record {
      taken_is = p;
      given_is = q;
      size_some = lit≤ tt;
      size_stops = lit≤ tt;
      hold_stops = capped_stops formula;
      hold_grows = capped_grows formula grows;
      hold_most = capped-most formula;
      sends_grow = blocks_sends turn encode B k [];
      hears_grow = blocks_hears turn decode C k [];
      sends_under = λ xs u. blocks_under turn encode B t g c.sends_under k [] xs c.some_in tt u;
      hears_under = λ ys u. blocks_under turn decode C g t c.hears_under k [] ys c.some_out tt u;
      faults_numbered = λ ys. no_fault (Numbered 1);
      law = back;
    }
