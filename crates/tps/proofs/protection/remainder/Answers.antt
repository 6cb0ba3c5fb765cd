use Rattle.std.proofs.Common.{◌≡◌, ◌+◌, ◌*◌, ◌^◌, ◌<◌, length, get_or, drop, sym, ap, ◌∙◌, subst, arith}
use Rattle.std.proofs.lemmas.List.{at_drop_more}
use Rattle.std.proofs.ByRecursion.{All-get_or}
use Rattle.tps.specs.Protection.{reduced, remainder_from}
use Rattle.tps.proofs.Dividing.{reduced_less}
use Rattle.tps.proofs.protection.remainder.Goals as goal

pub loop-bit-preserved : goal.loop-bit-preserved
loop-bit-preserved c =
    let bs = c.args.bits.now in
    let r = c.loop-bit.r in
    let i = c.loop-bit.bit-index in
    let b = get_or bs i 0 in
    let inside : i < length bs = c.loop-bit-test.true in
    let binary : b < 2 = All-get_or (λ v. v < 2) bs i 0 inside c.requires in
    let e : c.reduced-r.result ≡ reduced (2 * r + b) = c.reduced-r.ensures ∙ ap (λ v. reduced (2 * r + v)) c.from.ensures in (
      subst (λ v. v < 2 ^ 14) (sym e) (reduced_less (2 * r + b) (omega arith)),
      ap (λ v. remainder_from v (drop (i + 1) bs)) e ∙ sym (at_drop_more (remainder_from r) bs i 0 inside) ∙ c.loop-bit.invariant.1,
    )
