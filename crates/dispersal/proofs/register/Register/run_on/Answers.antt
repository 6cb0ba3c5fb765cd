use Rattle.std.proofs.Common.{ℕ, ◌+◌, ◌*◌, ◌%◌, ap, ◌∙◌}
use lib.Bits.{bit_and}
use Rattle.dispersal.specs.Octets.{onwards}
use Rattle.dispersal.proofs.register.Register.run_on.Goals as goal

pub returns : goal.returns
returns c =
    let r = c.args.self in
    ap (λ (x : ℕ). (bit_and r.bits 127 * 256) % 65536 + x) (c.from.ensures ∙ c.outputs.ensures) ∙ onwards r.bits r.fifteen
