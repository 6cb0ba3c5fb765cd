-- The symbol interleaver keeps the stage rule, and puts each word where the clause says.
use Rattle.std.specs.Prelude.{◌≡◌, ℕ, ◌^◌, ◌<◌, ◌≤◌, List, [], ◌++◌, length, slice_index}
use Rattle.std.proofs.Common.{lit≤, inl, inr, ap, ◌∙◌, arith}
use Rattle.std.proofs.lemmas.Nat.{pow_pos}
use Rattle.std.proofs.ByRecursion.{All-get_or, All-from_get_or}
use Rattle.std.proofs.lemmas.List.{append-nil, get_or_past, take_all}
use Rattle.std.proofs.lemmas.Bool.{cases_lt}
use Rattle.address.specs.Address.{addresses_of}
use Rattle.address.specs.Permutation.{Permutes}
use Rattle.address.proofs.Address.{addresses_permute}
use Rattle.permute.specs.declared.parity.Parity.{Parity}
use Rattle.permute.specs.declared.parity.Parity.TheVariants.{Even, Odd}
use Rattle.permute.specs.Parity.{opposite}
use Rattle.permute.specs.Permuted.{permuted}
use Rattle.permute.proofs.Permuted.{length-permuted, permuted_at, permuting_holds_lem}
use Rattle.permute.specs.Permuted.{word_at}
use Rattle.settings.specs.declared.constellation.Constellation.{Constellation}
use Rattle.settings.specs.declared.mode.Mode.{Mode}
use Rattle.settings.specs.declared.mode.Mode.TheVariants.{TwoK, EightK}
use Rattle.settings.specs.Constellation.{word_bits}
use Rattle.settings.specs.Mode.{symbol_cells}
use Rattle.stage.specs.Blocks.{blocks, Coding, Covers}
use Rattle.stage.specs.Rule.{Rule, Under}
use Rattle.stage.proofs.Blocks.{blocks_rule, block-first, block-short}
use Rattle.inner_interleaver.specs.SymbolInterleaver.{encode, decode, words_missing, symbol_interleaving}
use Rattle.inner_interleaver.specs.Published.{SymbolsPublished}
use Rattle.inner_interleaver.specs.BitBlocks.{alphabet}

pub symbol_some : (m : Mode) → 1 ≤ symbol_cells m
symbol_some TwoK = lit≤ tt
symbol_some EightK = lit≤ tt

-- what is below t stays below
under_at : (t : ℕ) (xs : List ℕ) → 0 < t → Under t xs → (k : ℕ) → slice_index xs k < t
under_at t xs z u k =
    elim (cases_lt k (length xs)) [
      | inl h ↦ All-get_or (λ x. x < t) xs k 0 h u
      | inr h ↦ omega (arith, get_or_past xs k 0 h)
    ]

module _ (m : Mode) where
  abbrev n : ℕ
  n = symbol_cells m

  abbrev hs : List ℕ
  hs = addresses_of m

  permutes : Permutes n hs
  permutes = addresses_permute m

  pub sized : (p : Parity) (xs : List ℕ) → length (permuted p hs 0 xs) ≡ n
  sized p xs = length-permuted n hs permutes p 0 xs

  -- what stands at a place of a moved symbol stood somewhere in it
  pub moved_at : (p : Parity) (xs : List ℕ) → n ≤ length xs → (k : ℕ) → k < n → slice_index (permuted p hs 0 xs) k ≡ slice_index xs (word_at p hs k)
  moved_at p xs l k h = permuted_at n hs permutes p 0 xs l k 0 h

  moved_under : (t : ℕ) → 0 < t → (p : Parity) (xs : List ℕ) → length xs ≡ n → Under t xs → Under t (permuted p hs 0 xs)
  moved_under t z p xs l u =
      All-from_get_or (λ x. x < t) (permuted p hs 0 xs) 0
      (λ k h. omega (arith, moved_at p xs (omega arith) k (omega (arith, sized p xs)), under_at t xs z u (word_at p hs k)))

  coding : (t : ℕ) → 0 < t → Coding n n t t (encode m) (decode m)
  coding t z = record {
    some_in = symbol_some m;
    some_out = symbol_some m;
    sized = λ p b l u. sized p b;
    sends_under = λ p b l u. moved_under t z p b l u;
    hears_under = λ p b l u. moved_under t z (opposite p) b l u;
    undone = λ p b l u. (permuting_holds_lem ℕ n hs p 0 b permutes (omega arith)).undone ∙ take_all n b (omega arith);
  }

covers : (n : ℕ) → 1 ≤ n → Covers n n (words_missing n)
covers n h m j l = omega arith

module _ (m : Mode) (c : Constellation) where
  pub symbol_rule : Rule (symbol_interleaving m c)
  symbol_rule =
      blocks_rule opposite (coding m (2 ^ word_bits c) (pow_pos (word_bits c))) (words_missing (n m)) (covers (n m) (symbol_some m)) Even
      (alphabet c) (alphabet c) (λ a b h. omega arith)

  first : (p : Parity) (b xs : List ℕ) → length b ≡ n m → blocks opposite (encode m) (n m) p [] (b ++ xs) ≡ encode m p b ++ blocks opposite (encode m) (n m) (opposite p) [] xs
  first p b xs l = block-first opposite (encode m) (n m) p b xs (symbol_some m) l

  pub symbols_published : SymbolsPublished m c
  symbols_published = record {
    two_symbols = λ a b xs la lb.
        let y = permuted Even (hs m) 0 a in
        let z = permuted Odd (hs m) 0 b in (
          y,
          z,
          first Even a (b ++ xs) la ∙ ap (λ w. y ++ w) (first Odd b xs lb),
          sized m Even a,
          sized m Odd b,
          (permuting_holds_lem ℕ (n m) (hs m) Even 0 a (permutes m) (omega arith)).placed,
          (permuting_holds_lem ℕ (n m) (hs m) Odd 0 b (permutes m) (omega arith)).placed,
        );
    one_symbol = λ a xs la lx.
        let y = permuted Even (hs m) 0 a in (
          y,
          first Even a xs la ∙ ap (λ w. y ++ w) (block-short opposite (encode m) (n m) Odd xs lx) ∙ append-nil y,
          sized m Even a,
          (permuting_holds_lem ℕ (n m) (hs m) Even 0 a (permutes m) (omega arith)).placed,
        );
    no_symbol = λ xs l. block-short opposite (encode m) (n m) Even xs l;
  }
