-- Elements permuted by addresses hs, as a symbol's words are (EN 300 744, clause 4.3.4.2).
--   Moved hs xs ys         what is at q in xs is at hs(q) in ys
--   Interleaved p hs xs ys words xs before the symbol interleaver are ys after it
--   permuted p hs d xs     the words after it, as a list (d is never read where xs is long enough)
use Rattle.std.specs.Prelude.{◌≡◌, ℕ, ◌+◌, ◌<◌, ◌≤◌, Bool, cond, ◌||◌, List, [], ◌∷◌, ◌++◌, map, length, get_or, take, drop, Some, None, Option, ◌==◌, nat_lt, slice_index, slice_index_or}
use Rattle.std.specs.List.{range_with_len}
use Rattle.address.specs.Permutation.{Permutes}
use Rattle.permute.specs.declared.parity.Parity.{Parity}
use Rattle.permute.specs.declared.parity.Parity.TheVariants.{Even, Odd}
use Rattle.permute.specs.Parity.{opposite}

abbrev pub Moved : {X : Type 0} → List ℕ → List X → List X → Type 0
Moved {X} hs xs ys = (q : ℕ) (d : X) → q < length hs → slice_index_or ys (slice_index hs q) d ≡ slice_index_or xs q d

-- an even symbol has word q at H(q), an odd one word H(q) at q
abbrev pub Interleaved : {X : Type 0} → Parity → List ℕ → List X → List X → Type 0
Interleaved Even hs xs ys = Moved hs xs ys
Interleaved Odd hs xs ys = Moved hs ys xs

-- where p stands in a list that has it
abbrev pub index_of : ℕ → List ℕ → ℕ
index_of p [] = 0
index_of p (h ∷ hs) = cond (p == h) 0 (index_of p hs + 1)

-- the word that comes to a place
abbrev pub word_at : Parity → List ℕ → ℕ → ℕ
word_at Even hs place = index_of place hs
word_at Odd hs place = slice_index hs place

unfoldable pub permuted : {X : Type 0} → Parity → List ℕ → X → List X → List X
permuted p hs d xs = map (λ place. get_or xs (word_at p hs place) d) (range_with_len 0 (length hs))

-- fewer elements than addresses, or no room for as many
abbrev pub short : {X : Type 0} → List ℕ → List X → List X → Bool
short hs xs ys = nat_lt (length xs) (length hs) || nat_lt (length ys) (length hs)

abbrev pub refusal_of : {X : Type 0} → List ℕ → List X → List X → Option ℕ
refusal_of hs xs ys = cond (short hs xs ys) (Some 16) None

abbrev pub buffer_after : {X : Type 0} → Parity → List ℕ → X → List X → List X → List X
buffer_after p hs d xs ys = cond (short hs xs ys) ys (permuted p hs d xs ++ drop (length hs) ys)

pub record PermutesWords {X : Type 0} (n : ℕ) (hs : List ℕ) (p : Parity) (d : X) (xs : List X) : Type 0 where
  pub size : length (permuted p hs d xs) ≡ n
  pub placed : Interleaved p hs xs (permuted p hs d xs)
  pub undone : permuted (opposite p) hs d (permuted p hs d xs) ≡ take n xs

-- by any permutation, words come to the places that the clause gives, and come back by the other parity
abbrev pub PermutingHolds : Type 0 → Type 0
PermutingHolds X = (n : ℕ) (hs : List ℕ) (p : Parity) (d : X) (xs : List X) → Permutes n hs → n ≤ length xs → PermutesWords n hs p d xs
