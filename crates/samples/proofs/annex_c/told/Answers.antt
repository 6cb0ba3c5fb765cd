use Rattle.std.proofs.Common.{◌≡◌, ℕ, ◌+◌, ◌*◌, ◌%◌, get_or, refl, ap, ◌∙◌, add-one, arith}
use Rattle.samples.specs.AnnexC.{number_of, digit_of}
use Rattle.samples.proofs.annex_c.told.Goals as goal

longer : (a b n d : ℕ) → a ≡ n → b ≡ d → (a * 2 % 65536 + b) % 65536 ≡ (2 * n + d) % 65536
longer a b n d e f = omega arith

pub loop-symbol-init : goal.loop-symbol-init
unfolding number_of
loop-symbol-init c = refl

pub loop-symbol-preserved : goal.loop-symbol-preserved
unfolding number_of
loop-symbol-preserved c =
    let found : c.from-in-loop-symbol.result ≡ get_or c.args.cells.now (1512 * c.loop-symbol.symbol + c.args.cell) 0 = cc in
    rw add-one
    (longer c.loop-symbol.number c.from-last.result _ _ c.loop-symbol.invariant
    (c.from-last.ensures ∙ c.digit.ensures ∙ ap (λ w. digit_of w c.args.place) found))

pub returns : goal.returns
returns c = let e : c.loop-symbol.symbol ≡ 14 = omega arith in c.loop-symbol.invariant ∙ ap (number_of c.args.cells.now c.args.cell c.args.place) e
