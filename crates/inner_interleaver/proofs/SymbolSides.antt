-- What each call does to a side of the symbol interleaver.
use Rattle.std.proofs.Common.{◌≡◌, ℕ, zero, suc, ◌+◌, ◌-◌, ◌<◌, ◌≤◌, true, false, cond, leb, ltb, List, [], ◌∷◌, ◌++◌, length, get_or, take, drop, sym, refl, ap, ◌∙◌, ap₂, inl, inr, arith, length-take}
use Rattle.std.proofs.lemmas.List.{drop_all, get_or_append_left, get_or-append_right, get_or-drop, take_at}
use Rattle.std.proofs.lemmas.Bool.{cases_lt, lt-ltb, le-ltb}
use Rattle.address.specs.Address.{addresses_of}
use Rattle.address.proofs.Address.{words_fit}
use Rattle.permute.specs.declared.parity.Parity.{Parity}
use Rattle.permute.specs.declared.parity.Parity.TheVariants.{Even, Odd}
use Rattle.permute.specs.Parity.{opposite}
use Rattle.permute.specs.Permuted.{permuted, word_at}
use Rattle.settings.specs.declared.constellation.Constellation.{Constellation}
use Rattle.settings.specs.declared.mode.Mode.{Mode}
use Rattle.settings.specs.Mode.{symbol_cells}
use Rattle.stage.specs.Blocks.{blocks, block_sending}
use Rattle.stage.specs.Model.{Sending, clean, silence, some, heard_of, offered, new_receiving}
use Rattle.stage.proofs.Blocks.{sent-more, sent_whole}
use Rattle.stage.proofs.Offers.{accepted-sent}
use Rattle.stage.proofs.Waits.{some-rest, no_rest}
use Rattle.inner_interleaver.specs.SymbolInterleaver.{encode, decode, idle, symbol_interleaving}
use Rattle.inner_interleaver.specs.Symbols.{sized, moved_at}

twice : (p : Parity) → opposite (opposite p) ≡ p
twice Even = refl
twice Odd = refl

-- what waits once a symbol is whole
abbrev pub turned : Parity → List ℕ → List ℕ → Mode → List ℕ
turned p words moved m = permuted p (addresses_of m) 0 words ++ drop (symbol_cells m) moved

module _ (m : Mode) where
  abbrev n : ℕ
  n = symbol_cells m

  -- what decodes a symbol of one parity encodes one of the other
  same_blocks : (p : Parity) (held xs : List ℕ) → blocks opposite (encode m) n p held xs ≡ blocks opposite (decode m) n (opposite p) held xs
  unfolding blocks
  same_blocks p held [] = refl
  same_blocks p held (x ∷ xs) =
      ap₂ (cond (leb n (length held + 1)))
      (ap₂ ◌++◌ (ap (λ q. permuted q (addresses_of m) 0 (held ++ x ∷ [])) (sym (twice p))) (same_blocks (opposite p) [] xs))
      (same_blocks p (held ++ x ∷ []) xs)

  pub new_hears : (c : Constellation) → heard_of (idle m Odd) ≡ new_receiving (symbol_interleaving m c)
  new_hears c = λ i. record { waits = silence; future = λ ys. clean (same_blocks Odd [] ys i) }

  -- nothing is gathered and nothing waits in a new side
  pub new_side : (p : Parity) (moved held : List ℕ) → held ≡ [] → block_sending opposite (encode m) n (drop 6048 (take n moved)) p held ≡ idle m p
  new_side p moved held e =
      ap₂ (λ w h. block_sending opposite (encode m) n w p h)
      (drop_all 6048 (take n moved) (simp length-take (omega (arith, words_fit m)))) e

  pub long : (moved : List ℕ) → length moved ≡ 6048 → length (take n moved) ≡ n
  long moved l = simp length-take (omega (arith, words_fit m))

  module _ (p : Parity) (moved held : List ℕ) (at t u : ℕ) (stored : length moved ≡ 6048) (fits : u < t) (nothing : n ≤ at) where
    abbrev now : Sending
    now = block_sending opposite (encode m) n (drop at (take n moved)) p held

    accepted : (after : Sending) → after ≡ offered true false now u → after ≡ offered (ltb u t) (some now.waits) now u
    accepted after e =
        accepted-sent _ _ now after u (lt-ltb u t fits) (some-rest (take n moved) n at (long moved stored) ∙ le-ltb at n nothing) e

    pub one_more : length held + 1 < n
        → block_sending opposite (encode m) n (drop at (take n moved)) p (held ++ u ∷ []) ≡ offered (ltb u t) (some now.waits) now u
    one_more h =
        accepted _
        (ap (λ w. block_sending opposite (encode m) n w p (held ++ u ∷ [])) (no_rest (take n moved) n at (long moved stored) nothing)
        ∙ sym (sent-more opposite (encode m) n (drop at (take n moved)) p held u h))

    pub whole : length held + 1 ≡ n
        → block_sending opposite (encode m) n (take n (turned p (held ++ u ∷ []) moved m)) (opposite p) [] ≡ offered (ltb u t) (some now.waits) now u
    whole h =
        accepted _
        (ap (λ w. block_sending opposite (encode m) n w (opposite p) [])
        (take_at (permuted p (addresses_of m) 0 (held ++ u ∷ [])) (drop n moved) n (sized m p (held ++ u ∷ [])))
        ∙ sym (sent_whole opposite (encode m) n (drop at (take n moved)) p held u (omega (arith, h))))

  -- what is held is below t
  pub moved_below : (t : ℕ) (p : Parity) (words moved : List ℕ) → n ≤ length words → ((k : ℕ) → get_or words k 0 < t) → ((k : ℕ) → get_or moved k 0 < t)
      → (k : ℕ) → get_or (turned p words moved m) k 0 < t
  moved_below t p words moved l low before k =
      let ys = permuted p (addresses_of m) 0 words in
      elim (cases_lt k n) [
        | inl i ↦
            omega (
              arith,
              get_or_append_left ys (drop n moved) 0 k (omega (arith, sized m p words)),
              moved_at m p words l k i,
              low (word_at p (addresses_of m) k),
            )
        | inr i ↦ omega (arith, get_or-append_right ys (drop n moved) n k 0 (sized m p words) i, get_or-drop n moved (k - n) 0, before (n + (k - n)))
      ]

-- a word more is below t
pub push_below : (t : ℕ) (held : List ℕ) (u : ℕ) → ((k : ℕ) → get_or held k 0 < t) → u < t → (k : ℕ) → get_or (held ++ u ∷ []) k 0 < t
push_below t [] u low h zero = h
push_below t [] u low h (suc k) = omega (arith, h)
push_below t (x ∷ held) u low h zero = low zero
push_below t (x ∷ held) u low h (suc k) = push_below t held u (λ k. low (suc k)) h k
