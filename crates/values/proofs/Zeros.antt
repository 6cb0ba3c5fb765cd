-- A packet of zeros leaves a remainder of zeros, byte by byte.
use Rattle.std.proofs.Common.{◌≡◌, ℕ, zero, suc, ◌+◌, true, ltb, List, [], ◌∷◌, ◌++◌, replicate, refl, ap, ◌∙◌, subst, arith}
use Rattle.std.proofs.lemmas.Bool.{lt-ltb}
use Rattle.reed.specs.Code.{factors, remainder, stepped}
use Rattle.reed.specs.Field.{product, times}
use Rattle.outer.specs.OuterCoder.{Progress, coded, outer_coder}

abbrev zeros : List ℕ
zeros = replicate 16 0

still : stepped zeros 0 ≡ zeros
unfolding factors product times
still = refl

abbrev after : ℕ → List ℕ → Progress
after n r = record { gone = n; so_far = r }

from : (n g : ℕ) → n + g ≡ 187 → coded (after g zeros) (replicate (suc n) 0) ≡ replicate (suc n) 0 ++ zeros
from zero g e =
    let last : 187 ≡ g = omega arith in
    subst (λ (k : ℕ). coded (after k zeros) (0 ∷ []) ≡ 0 ∷ zeros) last (ap (λ (r : List ℕ). 0 ∷ (r ++ [])) still)
from (suc n) g e =
    let early : ltb g 187 ≡ true = lt-ltb g 187 (omega arith) in
    rw early
    (ap (λ (r : List ℕ). 0 ∷ coded (after (g + 1) r) (replicate (suc n) 0)) still ∙ ap (λ (l : List ℕ). 0 ∷ l) (from n (g + 1) (omega arith)))

pub zeros-sent : (n : ℕ) → n ≡ 187 → outer_coder.sends (replicate (suc n) 0) ≡ replicate (suc n) 0 ++ replicate 16 0
unfolding remainder
zeros-sent n e = from n 0 (omega arith)
