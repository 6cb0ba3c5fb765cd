use Rattle.std.proofs.Common.{◌≡◌, ◌-◌, ◌≤◌, length, take}
use Rattle.stage.specs.Model.{fed}
use Rattle.stage.specs.Passing.{Gives}
use Rattle.stage.specs.Rule.{Under}
use Rattle.inner_interleaver.specs.BitInterleaver.{bit_interleaving, sending_of, receiving_of}
use Rattle.inner_interleaver.proofs.bit_interleaver.rule.BitInterleaverStage.send_pass.Given as goal

abbrev pub invariant-loop-self : goal.invariant-loop-self
invariant-loop-self l =
    let s = l.initial.self in
    let m = bit_interleaving s.constellation in
    (bit_interleaving l.self.constellation ≡ m)
    × (receiving_of l.self ≡ receiving_of s)
    × (l.used ≤ length l.input)
    × Under 2 (take l.used l.input)
    × Gives m (fed (sending_of s) (take l.used l.input)) (sending_of l.self) l.initial.output l.output l.made

abbrev pub decreases-loop-self : goal.decreases-loop-self
decreases-loop-self l = length l.input - l.used
