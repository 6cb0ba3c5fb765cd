use Rattle.std.proofs.Common.{◌≡◌, ◌<◌, length, refl, ap, ◌∙◌, inl, arith, length-set}
use Rattle.address.specs.Address.{addresses_of}
use Rattle.address.specs.Generator.{addresses_left}
use Rattle.address.proofs.Address.{addresses_permute, words_fit}
use Rattle.address.proofs.Giving.{room, put, done}
use Rattle.address.proofs.addresses.Addresses.new.Goals as goal

pub loop-q-init : goal.loop-q-init
loop-q-init c =
    let it = c.into_iter-q-iterator.result in
    let source = ap (λ s. s.iter) c.into_iter-q-iterator.ensures.into_iter_gives ∙ c.enumerate-q-items.ensures.source in
    let all : addresses_left it.iter.mode it.iter.index it.iter.register ≡ addresses_of c.args.mode = ap (λ g. addresses_left g.mode g.index g.register) source ∙ c.new.ensures in
    let none : it.count ≡ 0 = ap (λ s. s.count) c.into_iter-q-iterator.ensures.into_iter_gives ∙ c.enumerate-q-items.ensures.count in (
      (tt, tt, inl (omega (arith, none, ap length all, (addresses_permute c.args.mode).size, words_fit c.args.mode))),
      tt,
      simp none all,
      refl,
      omega (arith, none),
    )

pub loop-q-init-derived : goal.loop-q-init-derived
loop-q-init-derived c = ((loop-q-init c).0, tt)

pub bounds-table-q : goal.bounds-table-q
bounds-table-q c =
    let at = c.loop-q.invariant in
    let next = c.in-Some.ensures.steps in
    let below : c.loop-q.q-iterator.count < 6048 = room c.args.mode c.loop-q.table _ _ at.3 at.2 _ _ next.0 in
    omega (arith, next.1)

pub loop-q-preserved : goal.loop-q-preserved
loop-q-preserved c =
    let at = c.loop-q.invariant in
    let next = c.in-Some.ensures.steps in
    let below = bounds-table-q c in (
      c.in-Some.ensures.goes.keeps,
      tt,
      simp (next.1, next.2) (put c.args.mode c.loop-q.table _ _ at.3 at.2 _ _ next.0),
      simp length-set at.3,
      omega (arith, next.1, next.2),
    )

pub invariant_of-result : goal.invariant_of-result
invariant_of-result c =
    let at = c.loop-q.invariant in
    record { filled = done c.args.mode _ _ _ at.3 at.2 at.4 c.in-None.ensures.steps.0.0 }
