-- 204 bytes are a codeword exactly where the last sixteen are the parity of the others.
use Rattle.std.proofs.Common.{◌≡◌, ℕ, ◌-◌, ◌<◌, List, [], ◌++◌, length, take, drop, sym, ap, ◌∙◌, subst, ap₂, arith, length-append, length-drop}
use borrow.Rule.Slice.PartMut.{put_mid}
use Rattle.reed.specs.Code.{remainder, Bytes, ZeroAtRoots, Codeword}
use Rattle.reed.proofs.Roots.{vanishing}
use Rattle.reed.proofs.Sizes.{length-remainder, bytes_remainder}
use Rattle.reed.proofs.Unique.{unique}
use Rattle.std.proofs.ByRecursion.{All-drop}
use Rattle.std.proofs.lemmas.List.{append-nil, drop_all, take-append-drop, take_at}

module _ (xs : List ℕ) where
  pub roots_from_parity : drop 188 xs ≡ remainder (take 188 xs) → ZeroAtRoots xs
  roots_from_parity e = subst ZeroAtRoots (ap (λ ys. take 188 xs ++ ys) (sym e) ∙ take-append-drop 188 xs) (vanishing (take 188 xs))

  pub parity_from_roots : length xs ≡ 204 → Bytes xs → ZeroAtRoots xs → drop 188 xs ≡ remainder (take 188 xs)
  parity_from_roots l b z =
      unique (take 188 xs) (drop 188 xs) (remainder (take 188 xs)) (length-drop 188 xs ∙ (omega arith)) (length-remainder (take 188 xs))
      (All-drop (λ (x : ℕ). x < 256) 188 xs b) (bytes_remainder (take 188 xs)) (subst ZeroAtRoots (sym (take-append-drop 188 xs)) z) (vanishing (take 188 xs))

  pub protected_codeword : length xs ≡ 188 → Codeword (xs ++ remainder xs)
  protected_codeword l = (length-append xs (remainder xs) ∙ omega (arith, length-remainder xs), vanishing xs)

-- two parts written one after the other
pub put_both : (xs ys old front back : List ℕ) → length xs ≡ 188 → front ≡ xs → back ≡ ys
    → put_mid 188 (length (front ++ drop 188 old) - 188) (front ++ drop 188 old) back ≡ xs ++ ys
put_both xs ys old front back l f b =
    let all : List ℕ = xs ++ drop 188 old in
    let none : drop (length all - 188) (drop 188 all) ≡ [] = drop_all (length all - 188) (drop 188 all) (omega (arith, length-drop 188 all)) in
    ap₂ (λ (zs ws : List ℕ). put_mid 188 (length (zs ++ drop 188 old) - 188) (zs ++ drop 188 old) ws) f b
    ∙ ap₂ (λ (zs ws : List ℕ). zs ++ (ys ++ ws)) (take_at xs (drop 188 old) 188 l) none ∙ ap (λ zs. xs ++ zs) (append-nil ys)
