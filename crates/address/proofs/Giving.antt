-- What the generator gives: its word i gives one address more, or none.
use Rattle.std.proofs.Common.{◌≡◌, ℕ, suc, ◌+◌, ◌-◌, ◌*◌, ◌%◌, ◌^◌, ◌<◌, ◌≤◌, ltb, List, [], ◌∷◌, ◌++◌, length, take, set, sym, refl, ap, ◌∙◌, ap₂, append_assoc, arith, length-append, length-take}
use native.Mathlib.Nat.{sub-zero}
use Rattle.settings.specs.declared.mode.Mode.{Mode}
use Rattle.settings.specs.declared.mode.Mode.TheVariants.{TwoK, EightK}
use Rattle.settings.specs.Mode.{symbol_cells}
use Rattle.address.specs.Address.{row_of, address, following, kept, addresses_from, addresses_of}
use Rattle.address.specs.Generator.{addresses_left}
use Rattle.address.proofs.Address.{addresses_permute, words_fit}
use Rattle.std.proofs.lemmas.Bool.{lt-ltb, le-ltb}
use Rattle.std.proofs.lemmas.List.{append-nil, take_more_set}

module _ (m : Mode) where
  pub started : addresses_left m 0 0 ≡ addresses_of m
  unfolding addresses_left addresses_of
  started = ap (λ (t : ℕ). addresses_from (row_of m) (symbol_cells m) t 0 0) (sub-zero (2 ^ ((row_of m).bits + 1)))

  pub ended : (i r : ℕ) → 2 ^ ((row_of m).bits + 1) ≤ i → addresses_left m i r ≡ []
  unfolding addresses_left
  ended i r h =
      let e : 2 ^ ((row_of m).bits + 1) - i ≡ 0 = omega arith in
      ap (λ (t : ℕ). addresses_from (row_of m) (symbol_cells m) t i r) e

  module _ (i r at next : ℕ) (turn : i < 2 ^ ((row_of m).bits + 1)) (here : at ≡ address (row_of m) i r) (then : next ≡ following (row_of m) i r) where
    word : addresses_left m i r ≡ kept (ltb at (symbol_cells m)) at (addresses_left m (i + 1) next)
    unfolding addresses_left
    word =
        let end : ℕ = 2 ^ ((row_of m).bits + 1) in
        let e : end - i ≡ suc (end - (i + 1)) = omega arith in
        ap (λ (t : ℕ). addresses_from (row_of m) (symbol_cells m) t i r) e
        ∙ ap₂ (λ (x y : ℕ). kept (ltb x (symbol_cells m)) x (addresses_from (row_of m) (symbol_cells m) (end - (i + 1)) (i + 1) y)) (sym here) (sym then)

    pub given : at < symbol_cells m → addresses_left m i r ≡ at ∷ addresses_left m (i + 1) next
    given h = word ∙ ap (λ b. kept b at (addresses_left m (i + 1) next)) (lt-ltb at (symbol_cells m) h)

    pub passed : symbol_cells m ≤ at → addresses_left m i r ≡ addresses_left m (i + 1) next
    passed h = word ∙ ap (λ b. kept b at (addresses_left m (i + 1) next)) (le-ltb at (symbol_cells m) h)

-- how many turns the code makes, as it shifts their number
pub turns : (m : Mode) (w : ℕ) → w ≡ (row_of m).bits → (2 * 2 ^ w) % 65536 ≡ 2 ^ ((row_of m).bits + 1)
turns m w e = ap (λ (x : ℕ). (2 * 2 ^ x) % 65536) e ∙ at m
  where
    at : (m : Mode) → (2 * 2 ^ (row_of m).bits) % 65536 ≡ 2 ^ ((row_of m).bits + 1)
    at TwoK = refl
    at EightK = refl

-- the table is written from the front: there is room for the next address, which has its place, and in the end the table is H
module _ (m : Mode) (xs left : List ℕ) (q : ℕ) (whole : length xs ≡ 6048) (so_far : take q xs ++ left ≡ addresses_of m) where
  pub room : (x : ℕ) (rest : List ℕ) → left ≡ x ∷ rest → q < 6048
  room x rest e =
      omega (arith, whole, words_fit m, (addresses_permute m).size, ap length e, simp (length-append, length-take) at (ap length so_far))

  pub put : (x : ℕ) (rest : List ℕ) → left ≡ x ∷ rest → take (q + 1) (set xs q x) ++ rest ≡ addresses_of m
  put x rest e =
      ap (λ ys. ys ++ rest) (take_more_set xs q x (omega (arith, whole, room x rest e))) ∙ append_assoc (take q xs) (x ∷ []) rest
      ∙ ap (λ ys. take q xs ++ ys) (sym e) ∙ so_far

  pub done : q ≤ 6048 → left ≡ [] → take (symbol_cells m) xs ≡ addresses_of m
  done room e =
      let f : take q xs ≡ addresses_of m = sym (append-nil (take q xs)) ∙ ap (λ ys. take q xs ++ ys) (sym e) ∙ so_far in
      let last : symbol_cells m ≡ q = omega (arith, whole, (addresses_permute m).size, length-take q xs, ap length f) in
      ap (λ (t : ℕ). take t xs) last ∙ f
