-- A table is made by a call at each element of another.
use Rattle.std.proofs.Common.{◌≡◌, ℕ, ◌<◌, List, [], ◌∷◌, ◌++◌, length, get_or, All, refl, ap, subst, ◌∙◌, length-append, arith}
use Rattle.std.proofs.lemmas.List.{get_or_at}
use Rattle.std.proofs.lemmas.List.Elements.{All-get_or}
use Rattle.std.specs.Array.{list_steps}
use Rattle.std.specs.Iterator.{Yields}

came_from : (xs s t : List ℕ) → Yields list_steps s xs t → s ≡ xs ++ t
came_from [] s t y = y
came_from (x ∷ xs) s t y = y.1 ∙ ap (λ w. x ∷ w) (came_from xs y.0 t y.2)

-- what holds of all elements holds of each one at which a call comes
pub holds_at : (P : ℕ → Type 0) (s : List ℕ) → All P s → (xs t u : List ℕ) (x : ℕ) → Yields list_steps s xs t → t ≡ x ∷ u → P x
holds_at P s h xs t u x y e =
    let whole : s ≡ xs ++ x ∷ u = came_from xs s t y ∙ ap (λ w. xs ++ w) e in
    let inside : length xs < length s = omega (arith, ap length whole, length-append xs (x ∷ u)) in
    subst P (ap (λ w. get_or w (length xs) 0) whole ∙ get_or_at xs x u 0 (length xs) refl) (All-get_or P s (length xs) 0 inside h)
