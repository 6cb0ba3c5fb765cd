use Rattle.std.proofs.Common.{◌≡◌, ◌+◌, sym, ap, ◌∙◌, arith}
use lib.Bits.{bit_xor}
use Rattle.dispersal.specs.Noise.{outputs, before, masked, moved_on}
use Rattle.dispersal.specs.Masks.{before-first, before-next, mask_is}
use Rattle.dispersal.proofs.noise.Noise.pass.Goals as goal
use Rattle.dispersal.proofs.noise.Noise.pass.Goals.{then-place-eq0, else-place-eq0}

pub invariant_of-self : goal.invariant_of-self
invariant_of-self c =
    let s = c.args.self.now in
    let next = c.next_place-place.result in
    record {
      within = omega (arith, c.next_place-place.ensures);
      runs = elim c.if-place-eq0.branch [
        | then-place-eq0 w ↦ ap (λ r. r.bits) w.register-is ∙ w.loaded-register.ensures ∙ sym (before-first next w.if-place-eq0.true)
        | else-place-eq0 w ↦
            let on : s.place + 1 ≡ next = omega (arith, c.next_place-place.ensures, w.if-place-eq0.false) in
            ap (λ r. r.bits) w.register-is ∙ w.moved-register.ensures ∙ ap (moved_on s.place) s.runs ∙ sym (before-next s.place) ∙ ap before on
      ];
    }

pub returns : goal.returns
returns c =
    let s = c.args.self.now in
    record {
      out = ap (bit_xor c.args.byte)
          (c.mask_at-mask.ensures ∙ ap (masked s.place) (c.outputs.ensures ∙ ap (outputs 8 0) s.runs) ∙ sym (mask_is s.place));
      on = c.next_place-place.ensures;
    }
