-- Bits that a new inner coder sends.
use Rattle.std.specs.Prelude.{◌≡◌, [], ◌∷◌}
use Rattle.settings.specs.declared.rate.Rate.TheVariants.{Half, ThreeQuarters}
use Rattle.inner_coder.specs.Coder.{inner_code}

pub record InnerVectors : Type 0 where
  pub half : (inner_code Half).sends (1 ∷ 0 ∷ 0 ∷ 0 ∷ 0 ∷ 0 ∷ 0 ∷ []) ≡ 1 ∷ 1 ∷ 1 ∷ 0 ∷ 1 ∷ 1 ∷ 1 ∷ 1 ∷ 0 ∷ 0 ∷ 0 ∷ 1 ∷ 1 ∷ 1 ∷ []
  pub three_quarters : (inner_code ThreeQuarters).sends (1 ∷ 0 ∷ 0 ∷ []) ≡ 1 ∷ 1 ∷ 0 ∷ 1 ∷ []
