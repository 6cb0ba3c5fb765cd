use Rattle.std.proofs.Common.{◌≡◌, ◌-◌}
use Rattle.arrayvec.specs.ArrayVec.{array_vec_len}
use Rattle.receiver.specs.View.{side_of}
use Rattle.receiver.proofs.gatherer.Gatherer.gather.Given as goal

abbrev pub invariant-loop-self : goal.invariant-loop-self
invariant-loop-self g l =
    let p = g.P.Stage in
    (p.model l.self.pile ≡ p.model l.initial.self.pile) × (side_of p.receiving l.self ≡ side_of p.receiving l.initial.self)

abbrev pub decreases-loop-self : goal.decreases-loop-self
decreases-loop-self g l = 188 - array_vec_len l.self.packet
