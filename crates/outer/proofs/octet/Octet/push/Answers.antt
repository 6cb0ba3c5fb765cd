use Rattle.std.proofs.Common.{ℕ, List, [], ◌∷◌, ◌++◌, length, Some, ap, ◌∙◌, arith}
use Rattle.outer.specs.Bits.{value_after}
use Rattle.outer.specs.Serializing.{length_last_bits, whole_byte}
use Rattle.outer.proofs.octet.Octet.push.Goals as goal

pub returns-then-self-lt7-clause-short : goal.returns-then-self-lt7-clause-short
returns-then-self-lt7-clause-short c =
    let o = c.self.inside in
    omega (arith, ap length c.self.view_is, length_last_bits o.have o.bits)

pub returns-then-self-lt7-clause-whole : goal.returns-then-self-lt7-clause-whole
returns-then-self-lt7-clause-whole c =
    let o = c.self.inside in
    λ e. absurd (omega (arith, e, ap length c.self.view_is, length_last_bits o.have o.bits))

pub returns-clause-whole : goal.returns-clause-whole
returns-clause-whole c =
    let o = c.self.inside in
    let b = c.args.bit in
    λ e. (
      ap Some (whole_byte o.have o.bits b c.self.invariant.1 ∙ ap (λ (w : List ℕ). value_after 0 (w ++ b ∷ [])) c.self.view_is),
      c.self-2.view_is ∙ c.new.ensures,
    )
