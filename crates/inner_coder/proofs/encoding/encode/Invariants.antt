use Rattle.std.proofs.Common.{◌≡◌, ◌≤◌, length, take}
use Rattle.stage.specs.Model.{fed}
use Rattle.stage.specs.Passing.{Gives}
use Rattle.stage.specs.Rule.{Under}
use Rattle.inner_coder.specs.Coder.{inner_code, idle_at}
use Rattle.inner_coder.specs.Walks.{walk_of}
use Rattle.inner_coder.proofs.encoding.encode.Given as goal

abbrev pub invariant-loop-used : goal.invariant-loop-used
invariant-loop-used l =
    let w = l.fn.walk in
    (l.walk.rate ≡ w.rate)
    × (l.made ≤ length l.fn.output)
    × Under 2 (take l.used l.input)
    × Gives (inner_code w.rate) (fed (idle_at w.rate (walk_of w)) (take l.used l.input)) (idle_at w.rate (walk_of l.walk)) l.fn.output l.output l.made
