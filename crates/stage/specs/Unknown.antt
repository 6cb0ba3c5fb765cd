-- The stage for an unknown code keeps the rule.
use Rattle.std.specs.Prelude.{ℕ, List, [], ◌∷◌, refl}
use Rattle.std.proofs.Common.{lit≤, inl, arith}
use Rattle.stage.specs.Model.{silence}
use Rattle.stage.specs.Rule.{Rule, Sends, Hears, Back, Under, Numbered}
use Rattle.stage.specs.Optional.{unknown}
use Rattle.stage.specs.Faultless.{no_fault}

pub unknown_sends : Sends unknown.sends
unknown_sends = record { none = refl; grows = λ xs ys. ([], refl) }

pub unknown_hears : Hears unknown.hears
unknown_hears = record { none = refl; grows = λ xs ys. (silence, refl) }

back : (xs : List ℕ) (m : ℕ) → Under 0 xs → Back unknown xs m silence
back [] m h = record { clean = refl; begins = ([], refl); within = λ w. omega arith }
back (x ∷ xs) m h = absurd (omega (arith, h.0))

pub unknown_rule : Rule unknown
unknown_rule = record {
  taken_is = inl refl;
  given_is = inl refl;
  size_some = lit≤ tt;
  size_stops = lit≤ tt;
  hold_stops = λ m. omega arith;
  hold_grows = λ m n h. omega arith;
  hold_most = λ m h. omega arith;
  sends_grow = unknown_sends;
  hears_grow = unknown_hears;
  sends_under = λ xs h. tt;
  hears_under = λ xs h. tt;
  faults_numbered = λ ys. no_fault (Numbered 1);
  law = λ xs m h k. back xs m h;
}
