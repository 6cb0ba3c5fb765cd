-- The bytes of a parity that are left.
use Rattle.std.proofs.Common.{◌≡◌, ℕ, zero, suc, ◌-◌, ◌<◌, ◌≤◌, ltb, List, [], ◌∷◌, ◌++◌, length, get_or, take, drop, sym, refl, ap, ◌∙◌, ap₂, arith}
use Rattle.std.proofs.lemmas.List.{take-append-le}
use Rattle.std.proofs.lemmas.Bool.{lt-ltb}
use Rattle.stage.specs.Model.{some}

pub some_due : (l : ℕ) (r : List ℕ) → l ≤ length r → some (take l r) ≡ ltb 0 l
some_due zero r h = refl
some_due (suc l) [] h = absurd (omega arith)
some_due (suc l) (x ∷ r) h = sym (lt-ltb 0 (suc l) (omega arith))

-- one byte is taken, and the others move up
pub due_taken : (r s : List ℕ) (l b : ℕ) → 0 < l → l ≤ length r → b ≡ get_or r 0 0 → s ≡ drop 1 r ++ 0 ∷ [] → take l r ≡ b ∷ take (l - 1) s
due_taken [] s l b some room first rest = absurd (omega arith)
due_taken (x ∷ r) s zero b some room first rest = absurd (omega arith)
due_taken (x ∷ r) s (suc l) b some room first rest =
    let k : l ≡ suc l - 1 = omega arith in
    ap₂ (λ (c : ℕ) w. c ∷ w) (sym first)
    (sym (take-append-le l r (0 ∷ []) (omega arith)) ∙ ap (λ i. take i (r ++ 0 ∷ [])) k ∙ ap (λ w. take (suc l - 1) w) (sym rest))
