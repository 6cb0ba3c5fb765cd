use Rattle.std.proofs.Common.{◌-◌, ◌/◌, ◌%◌, ◌^◌, [], ◌∷◌, ◌++◌, length, sym, ap, ◌∙◌, append_assoc, arith, length-append}
use Rattle.tps.specs.Field.{bits}
use Rattle.tps.proofs.Bits.{bits-length}
use Rattle.tps.proofs.Writing.{bits_more}
use Rattle.tps.proofs.field.Field.send.Goals as goal

pub push-requires : goal.push-requires
push-requires c =
    let f = c.args.self in
    let k = c.loop-place.place in
    let done = bits (f.width - k) (f.value / 2 ^ k) in
    omega (arith, ap length c.loop-place.invariant, length-append c.args.sent.now.items done, bits-length (f.width - k) (f.value / 2 ^ k))

pub loop-place-preserved : goal.loop-place-preserved
loop-place-preserved c =
    let f = c.args.self in
    let k = c.loop-place.place in
    let done = bits (f.width - k) (f.value / 2 ^ k) in
    let bit = f.value / 2 ^ (k - 1) % 2 in
    c.push.ensures.items
    ∙ ap (λ xs. xs ++ bit ∷ []) c.loop-place.invariant
    ∙ append_assoc c.args.sent.now.items done (bit ∷ [])
    ∙ ap (λ xs. c.args.sent.now.items ++ xs) (sym (bits_more f.width f.value k c.loop-place-test.true c.loop-place.auto.place))
