use Rattle.std.proofs.Common.{◌≡◌, suc, ◌<◌, ◌≢◌, length, refl, ap, ◌∙◌, add-one, arith, get_or-set_other, get_or-set_same, below_more}
use Rattle.samples.specs.Generator.{stepped, shown, after}
use Rattle.samples.proofs.generator.fill.Goals as goal

pub loop-byte-init : goal.loop-byte-init
unfolding after
loop-byte-init c = (refl, λ k h. absurd (omega arith))

pub loop-byte-preserved : goal.loop-byte-preserved
unfolding after
loop-byte-preserved c =
    let lt : c.loop-byte.byte-index < length c.loop-byte.bytes = omega (arith, c.loop-byte-test.true) in
    let state : c.step-state.result ≡ after (suc c.loop-byte.byte-index) c.args.state = c.step-state.ensures ∙ ap stepped c.loop-byte.invariant.0 in (
      rw add-one state,
      below_more _ _
          (λ k h. let ne : k ≢ c.loop-byte.byte-index = omega arith in rw get_or-set_other (c.loop-byte.invariant.1 k h))
          (rw get_or-set_same (c.show.ensures ∙ ap shown state)),
    )
